use Rattle.vx_print.proofs.Alike as alike
use Rattle.vx_print.proofs.places_are_not_printed.Goals as goal

pub returns : goal.returns
returns c = alike.places_are_not_printed
