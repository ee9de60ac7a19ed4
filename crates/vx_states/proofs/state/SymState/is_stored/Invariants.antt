use Rattle.std.proofs.Common.{◌≡◌, map, drop}
use Rattle.std.specs.Prelude.{string_bytes}
use Rattle.vx_rules.specs.States.{is_stored}
use Rattle.vx_states.specs.SymStates.{binding, state}
use Rattle.vx_states.proofs.state.SymState.is_stored.Given as goal

abbrev pub invariant-loop-b : goal.invariant-loop-b
invariant-loop-b l = is_stored (string_bytes l.name.value) (state l.self).store ≡ is_stored (string_bytes l.name.value) (map binding (drop l.b-index l.b-items))
