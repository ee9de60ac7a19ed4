use Rattle.vx_sound_funcs.proofs.Laws.{agree}
use Rattle.vx_sound_funcs.proofs.applications_agree.Goals as goal

pub returns : goal.returns
returns c = agree
