use Rattle.cs_opposites.proofs.Truths.{law}
use Rattle.cs_opposites.proofs.opposites_refute.Goals as goal

pub returns : goal.returns
returns c = law
