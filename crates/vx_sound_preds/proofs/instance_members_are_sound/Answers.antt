use Rattle.vx_sound_preds.proofs.Soundness.{instance_members_sound}
use Rattle.vx_sound_preds.proofs.instance_members_are_sound.Goals as goal

pub returns : goal.returns
returns c = instance_members_sound
