use Rattle.std.proofs.Common.{◌≡◌, ◌++◌, map}
use Rattle.vx_heap.specs.Views.{terms_of}
use Rattle.vx_resolved.specs.Resolved.{declaration}
use Rattle.vx_rules.specs.States.{bind}
use Rattle.vx_states.specs.SymStates.{binding}
use Rattle.vx_states.proofs.entering.bound.Given as goal

abbrev pub invariant-loop-parameter : goal.invariant-loop-parameter
invariant-loop-parameter l =
    map binding l.store.items ++ bind (map declaration l.parameter-iterator.a.rest.now) (terms_of l.parameter-iterator.b.rest.now) ≡ bind (map declaration l.fn.parameters) (terms_of l.fn.arguments)
