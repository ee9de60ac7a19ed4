-- What a lane's child is asked can be asked, and what is asserted is well-sorted.
use Rattle.std.proofs.Common.{◌≡◌, ℕ, List, [], ◌∷◌, ◌++◌, false, map, sym, subst}
use Rattle.vx_terms.specs.Sorts.{Sort, BoolSort}
use Rattle.vx_terms.specs.Terms.{Term, sort_of}
use Rattle.vx_terms.specs.Build.{negate}
use Rattle.vx_terms.specs.Formed.{Formed}
use Rattle.vx_terms.specs.Interpretations.{Each}
use Rattle.vx_smt_meaning.specs.Commands.{Declared}
use Rattle.vx_smt_meaning.specs.Over.{IsOver}
use Rattle.vx_smt_meaning.specs.Standard.{standard_symbols}
use Rattle.vx_dialogue.specs.Preamble.{front}
use Rattle.vx_dialogue.specs.Askable.{AreTurns}
use Rattle.vx_dialogue.specs.Scripts.{ScopedTurn, Asks, Posts, Leaves, plain, script}
use Rattle.vx_live.specs.Live.{IsBuiltIn}
use Rattle.vx_live.proofs.Nameless.{IsNameless}
use Rattle.vx_verifier.specs.Headline.{IsWellSorted}
use Rattle.vx_verifier.proofs.Said.{Asserts, HoldsOf, declared_all, script_all}

-- A question over the standard symbols, these of functions and symbols v, each v at one sort; no symbol has a name of its own, and what it asserts is of sort Bool.
pub record IsFine (functions : List Declared) (path : List Term) (condition : Term) : Type 0 where
  pub sorts : ℕ → Sort
  pub built_in : (n : ℕ) → IsBuiltIn (sorts n)
  pub path_over : Each (IsOver (standard_symbols ++ functions) sorts) path
  pub over : IsOver (standard_symbols ++ functions) sorts condition
  pub path_nameless : Each IsNameless path
  pub nameless : IsNameless (negate condition)
  pub path_bool : Each (λ (t : Term). sort_of t ≡ BoolSort) path
  pub bool : sort_of (negate condition) ≡ BoolSort
  pub along : Each (λ (t : Term). (n : ℕ) × Formed n t BoolSort) path
  pub negated : (n : ℕ) × Formed n (negate condition) BoolSort

-- what is asserted is of sort Bool
abbrev IsFormed : Term → Type 0
IsFormed t = (n : ℕ) × Formed n t BoolSort

are_formed : (functions : List Declared) (turns : List ScopedTurn) → AreTurns (IsFine functions) (map plain turns) → Each (Asserts IsFormed) turns
are_formed functions [] h = tt
are_formed functions (Asks path condition ∷ turns) h = ((h.0.along, h.0.negated), are_formed functions turns h.1)
are_formed functions (Posts path condition ∷ turns) h = ((h.0.along, h.0.negated), are_formed functions turns (subst (AreTurns (IsFine functions)) (sym h.1) tt))
are_formed functions (Leaves ∷ turns) h = (tt, are_formed functions turns h)

sorted_all : HoldsOf IsWellSorted IsFormed
sorted_all = record { declares = λ d. tt; asserts = λ t h. h; opens = tt; closes = tt; checks = tt }

first_sorted : Each IsWellSorted (front false)
first_sorted = (tt, (tt, (tt, (tt, declared_all IsWellSorted IsFormed sorted_all standard_symbols))))

pub script_sorted : (functions : List Declared) (turns : List ScopedTurn) → AreTurns (IsFine functions) (map plain turns) → Each IsWellSorted (script false functions turns)
script_sorted functions turns h = script_all IsWellSorted IsFormed sorted_all functions turns first_sorted (are_formed functions turns h)
