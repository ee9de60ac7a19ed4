use Rattle.vx_real.proofs.Real.{real}
use Rattle.vx_real.proofs.failures_are_real.Goals as goal

pub returns : goal.returns
returns c = real
