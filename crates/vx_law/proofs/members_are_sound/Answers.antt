use Rattle.vx_law.proofs.Members.{members_sound}
use Rattle.vx_law.proofs.members_are_sound.Goals as goal

pub returns : goal.returns
returns c = members_sound
