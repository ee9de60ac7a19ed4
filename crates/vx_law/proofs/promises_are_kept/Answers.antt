use Rattle.vx_law.proofs.Promises.{promises_kept}
use Rattle.vx_law.proofs.promises_are_kept.Goals as goal

pub returns : goal.returns
returns c = promises_kept
