use Rattle.vx_companion.proofs.Rightly.{companion_right}
use Rattle.vx_companion.proofs.laws.answers_are_right.Goals as goal

pub returns : goal.returns
returns c = companion_right
