use Rattle.vx_sound_funcs.proofs.Plain.{plain_is_asking}
use Rattle.vx_sound_funcs.proofs.plain_is_asking.Goals as goal

pub returns : goal.returns
returns c = plain_is_asking
