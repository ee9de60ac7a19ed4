use Rattle.vx_live.proofs.Quiet.{sides_still}
use Rattle.vx_live.proofs.quiet_sides_make_no_symbol.Goals as goal

pub returns : goal.returns
returns c = sides_still
