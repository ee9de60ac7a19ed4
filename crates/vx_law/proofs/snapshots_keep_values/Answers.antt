use Rattle.vx_law.proofs.Snapshots.{kept}
use Rattle.vx_law.proofs.snapshots_keep_values.Goals as goal

pub returns : goal.returns
returns c = kept
