use Rattle.cs_cong.proofs.Explained.{explained_are_joined}
use Rattle.cs_cong.proofs.laws.explained_are_joined.Goals as goal

pub returns : goal.returns
returns c = explained_are_joined
