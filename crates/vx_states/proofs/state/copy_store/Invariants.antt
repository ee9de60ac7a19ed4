use Rattle.std.proofs.Common.{◌≡◌, map, take}
use Rattle.vx_states.specs.SymStates.{binding}
use Rattle.vx_states.proofs.state.copy_store.Given as goal

abbrev pub invariant-loop-b : goal.invariant-loop-b
invariant-loop-b l = map binding l.copies.items ≡ map binding (take l.b-index l.store)
