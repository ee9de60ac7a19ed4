use Rattle.vx_sound.proofs.Members.{members_sound}
use Rattle.vx_sound.proofs.field_members_are_sound.Goals as goal

pub returns : goal.returns
returns c = members_sound
