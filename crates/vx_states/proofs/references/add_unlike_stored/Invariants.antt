use Rattle.std.proofs.Common.{◌≡◌, ◌++◌, List, map, drop}
use Rattle.vx_terms.specs.Terms.{Term}
use Rattle.vx_heap.specs.Views.{terms_of, held_term}
use Rattle.vx_rules.specs.States.{terms_in}
use Rattle.vx_rules.specs.Members.{unlike_stored}
use Rattle.vx_states.specs.SymStates.{binding}
use Rattle.vx_states.proofs.references.add_unlike_stored.Given as goal

abbrev pub invariant-loop-b : goal.invariant-loop-b
invariant-loop-b l = (rest : List Term) →
    terms_of l.facts.items ++ (unlike_stored (held_term l.x) (terms_in (map binding (drop l.b-index l.store))) ++ rest) ≡ terms_of l.initial.facts.items ++ (unlike_stored (held_term l.x) (terms_in (map binding l.store)) ++ rest)
