use Rattle.cs_cong.proofs.Joining.{merged_are_joined}
use Rattle.cs_cong.proofs.laws.merged_are_joined.Goals as goal

pub returns : goal.returns
returns c = merged_are_joined
