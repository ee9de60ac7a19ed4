use Rattle.vx_depth.proofs.Refused.{none_within_itself}
use Rattle.vx_depth.proofs.Statements.{reads_itself}
use Rattle.vx_depth.proofs.rules_read_parts_by_themselves.Goals as goal

pub returns : goal.returns
returns c p l apart = reads_itself p l (none_within_itself p apart)
