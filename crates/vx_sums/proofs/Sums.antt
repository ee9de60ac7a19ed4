-- A location by a chunk of its own, or by what is asked of the sum of all.
use Rattle.std.proofs.Common.{◌≡◌, ap, true, Option, Some, None}
use Rattle.vx_ast.specs.declared.Place.{Place}
use Rattle.vx_rules.specs.Chunks.{Candidate, candidates, chosen, first_argument, sum_at, surely}
use Rattle.vx_rules.specs.Rules.{Going, ask, by_sum}
use Rattle.vx_rules.specs.States.{Chunk, State}
use Rattle.vx_rules.specs.Trees.{Code, Tree, Step}
use Rattle.vx_terms.specs.Terms.{Term}

module _ (wanted : Chunk → Term) (asked : Term → Term) (key : Chunk) (at : Place) (code : Code) (s : State) (on : Candidate → Tree) (summed : Going) where
  abbrev all : Tree
  all = ask (asked (sum_at (first_argument key.arguments) (candidates key s.heap))) at code s summed

  abbrev by : Option Candidate → Tree
  by o = elim o as (λ o. Tree) [ Some c ↦ Step (on c) | None ↦ all ]

  pub by_own : (c : Candidate) → surely wanted (chosen true key 0 s.heap) ≡ Some c → by_sum wanted asked key at code s on summed ≡ Step (on c)
  by_own c e = ap by e

  pub by_all : surely wanted (chosen true key 0 s.heap) ≡ None → by_sum wanted asked key at code s on summed ≡ ask (asked (sum_at (first_argument key.arguments) (candidates key s.heap))) at code s summed
  by_all e = ap by e
