use Rattle.std.proofs.Common.{arith}
use Rattle.std.proofs.lemmas.List.{take-map}
use Rattle.vx_states.proofs.state.SymState.leave.Goals as goal

pub returns : goal.returns
returns c = grind (arith, take-map)
