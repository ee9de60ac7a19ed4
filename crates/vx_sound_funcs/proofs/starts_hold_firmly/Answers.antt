use Rattle.vx_sound_funcs.proofs.Starting.{starts_hold_firmly}
use Rattle.vx_sound_funcs.proofs.starts_hold_firmly.Goals as goal

pub returns : goal.returns
returns c = starts_hold_firmly
