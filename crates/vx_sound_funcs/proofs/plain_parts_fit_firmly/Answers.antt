use Rattle.vx_sound_funcs.proofs.Alike.{plain_firmly}
use Rattle.vx_sound_funcs.proofs.plain_parts_fit_firmly.Goals as goal

pub returns : goal.returns
returns c = plain_firmly
