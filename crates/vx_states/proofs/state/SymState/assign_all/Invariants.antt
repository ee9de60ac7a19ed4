use Rattle.std.proofs.Common.{◌≡◌}
use Rattle.vx_heap.specs.Views.{terms_of}
use Rattle.vx_resolved.specs.Resolved.{names_of}
use Rattle.vx_rules.specs.States.{assign_all, with_store}
use Rattle.vx_states.specs.SymStates.{state}
use Rattle.vx_states.proofs.state.SymState.assign_all.Given as goal

abbrev pub invariant-loop-name : goal.invariant-loop-name
invariant-loop-name l =
    with_store (assign_all (names_of l.name-iterator.a.rest.now) (terms_of l.name-iterator.b.rest.now) (state l.self).store) (state l.self)
    ≡ with_store (assign_all (names_of l.fn.names) (terms_of l.fn.values) (state l.initial.self).store) (state l.initial.self)
