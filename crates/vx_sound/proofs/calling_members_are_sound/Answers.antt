use Rattle.vx_sound.proofs.Members.{calling_sound}
use Rattle.vx_sound.proofs.calling_members_are_sound.Goals as goal

pub returns : goal.returns
returns c = calling_sound
