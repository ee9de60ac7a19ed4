use Rattle.vx_sound_funcs.proofs.Firmly.{takes_firmly}
use Rattle.vx_sound_funcs.proofs.what_is_taken_is_taken_firmly.Goals as goal

pub returns : goal.returns
returns c = takes_firmly
