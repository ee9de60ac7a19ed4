use Rattle.cs_cong.proofs.Joining.{joined_are_merged}
use Rattle.cs_cong.proofs.laws.joined_are_merged.Goals as goal

pub returns : goal.returns
returns c = joined_are_merged
