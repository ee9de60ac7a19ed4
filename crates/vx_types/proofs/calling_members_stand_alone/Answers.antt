use Rattle.vx_types.proofs.Alone.{calling_alone}
use Rattle.vx_types.proofs.calling_members_stand_alone.Goals as goal

pub returns : goal.returns
returns c = λ p all x y closed. calling_alone p all x y closed
