use Rattle.vx_expressions.proofs.Alike.{alike}
use Rattle.vx_expressions.proofs.laws.pure_assertions_are_expressions.Goals as goal

pub returns : goal.returns
returns c = alike
