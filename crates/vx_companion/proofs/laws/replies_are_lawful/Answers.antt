use Rattle.vx_companion.proofs.Lawful.{companion_lawful}
use Rattle.vx_companion.proofs.laws.replies_are_lawful.Goals as goal

pub returns : goal.returns
returns c = companion_lawful
