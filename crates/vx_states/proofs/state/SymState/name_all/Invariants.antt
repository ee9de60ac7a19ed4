use Rattle.std.proofs.Common.{◌≡◌, ◌++◌, drop}
use Rattle.vx_heap.specs.Views.{terms_of}
use Rattle.vx_rules.specs.Members.{names_of, after_names}
use Rattle.vx_states.specs.SymStates.{state}
use Rattle.vx_states.proofs.state.SymState.name_all.Given as goal

abbrev pub invariant-loop-value : goal.invariant-loop-value
invariant-loop-value l =
    (terms_of l.names.items ++ names_of (terms_of (drop l.value-index l.values)) (state l.self) ≡ names_of (terms_of l.values) (state l.initial.self))
    × (after_names (terms_of (drop l.value-index l.values)) (state l.self) ≡ after_names (terms_of l.values) (state l.initial.self))
