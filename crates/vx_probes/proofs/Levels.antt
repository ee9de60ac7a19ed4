-- A location in a quiet state, and at level 0.
use Rattle.std.proofs.Common.{◌≡◌, ap, Bool, true, false, [], ◌∷◌}
use Rattle.std.specs.Prelude.{if◌then◌else◌, not}
use Rattle.vx_ast.specs.declared.Place.{Place}
use Rattle.vx_ast.specs.Syntax.{Name, Program}
use Rattle.vx_probes.specs.Firsts.{read_first, take_first}
use Rattle.vx_rules.specs.Chunks.{Candidate, field_key, holds_amount, holds_some, reduced}
use Rattle.vx_rules.specs.Rules.{Giving, by_sum, field_sort, read_field, take_chunk}
use Rattle.vx_rules.specs.States.{State, is_quiet, with_heap}
use Rattle.vx_rules.specs.Trees.{Code, PermissionCode, Tree}
use Rattle.vx_stack.specs.Stack.{read_over, take_over}
use Rattle.vx_terms.specs.Build.{less, less_equal, zero_amount}
use Rattle.vx_terms.specs.Terms.{Term}

module _ (p : Program) (f : Name) (r : Term) (at : Place) (s : State) (on : Giving) where
  abbrev pub read_summed : Tree
  read_summed =
      by_sum (holds_some (r ∷ [])) (less zero_amount) (field_key f r) at PermissionCode s (λ (c : Candidate). on c.chunk.value s) (read_over p f r on)

  abbrev pub take_summed : Term → Code → Tree
  take_summed a code =
      by_sum (holds_amount a (r ∷ [])) (less_equal a) (field_key f r) at code s (λ (c : Candidate). on c.chunk.value (with_heap (reduced c a s.heap) s)) (take_over p f r a on)

  pub reads : (b : Bool) → is_quiet s ≡ b → read_field f r (field_sort p f) at s on ≡ (if b then read_first f r at s on else read_summed)
  reads b e = ap (λ (b : Bool). if b then read_first f r at s on else read_summed) e

  pub takes_location : (a : Term) (code : Code) (b : Bool) → is_quiet s ≡ b →
      take_chunk (field_key f r) a (field_sort p f) at code s (λ k s1. on k.value s1) ≡ (if not b then take_summed a code else take_first (field_key f r) a (field_sort p f) at code s (λ k s1. on k.value s1))
  takes_location a code b e =
      ap (λ (b : Bool). if not b then take_summed a code else take_first (field_key f r) a (field_sort p f) at code s (λ k s1. on k.value s1)) e
