use Rattle.std.proofs.Common.{◌≡◌, ◌+◌, map, drop}
use Rattle.std.specs.Prelude.{string_bytes, option_map}
use Rattle.vx_states.specs.SymStates.{binding, state, place_in}
use Rattle.vx_states.proofs.state.SymState.find.Given as goal

abbrev pub invariant-loop-k : goal.invariant-loop-k
invariant-loop-k l = place_in (string_bytes l.name.value) (state l.self).store ≡ option_map (λ n. l.k + n) (place_in (string_bytes l.name.value) (map binding (drop l.k l.b-items)))
