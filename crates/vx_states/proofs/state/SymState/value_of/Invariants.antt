use Rattle.std.proofs.Common.{◌≡◌, map, drop}
use Rattle.std.specs.Prelude.{string_bytes}
use Rattle.vx_rules.specs.States.{found}
use Rattle.vx_states.specs.SymStates.{binding, state}
use Rattle.vx_states.proofs.state.SymState.value_of.Given as goal

abbrev pub invariant-loop-b : goal.invariant-loop-b
invariant-loop-b l = found (string_bytes l.name.value) (state l.self).store ≡ found (string_bytes l.name.value) (map binding (drop l.b-index l.b-items))
