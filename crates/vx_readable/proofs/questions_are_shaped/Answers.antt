use Rattle.vx_readable.proofs.ShapeMembers.{members_shaped}
use Rattle.vx_readable.proofs.questions_are_shaped.Goals as goal

pub returns : goal.returns
returns c = members_shaped
