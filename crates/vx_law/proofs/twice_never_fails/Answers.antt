use Rattle.vx_law.proofs.WorkedBoxes.{twice_never_fails}
use Rattle.vx_law.proofs.twice_never_fails.Goals as goal

pub returns : goal.returns
returns c = twice_never_fails
