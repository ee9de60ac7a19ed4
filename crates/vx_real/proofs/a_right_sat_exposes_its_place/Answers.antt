use Rattle.vx_real.proofs.Exposed.{exposed}
use Rattle.vx_real.proofs.a_right_sat_exposes_its_place.Goals as goal

pub returns : goal.returns
returns c t replies code at = exposed at code t replies
