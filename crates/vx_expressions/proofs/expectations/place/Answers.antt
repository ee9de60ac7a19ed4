use Rattle.vx_expressions.proofs.Places.{stands}
use Rattle.vx_expressions.proofs.expectations.place.Goals as goal

pub returns : goal.returns
returns c = stands c.args.e.now.place c.args.e.now.kind
