use Rattle.std.proofs.Common.{◌∙◌, ap}
use Rattle.vx_frac.specs.Fraction.{fraction}
use Rattle.vx_frac.specs.Fractions.{Fraction, lowest, difference}
use Rattle.vx_run.proofs.Totals.{turned_is}
use Rattle.vx_run.proofs.amounts.turned.Goals as goal

pub returns-in-Ok : goal.returns-in-Ok
returns-in-Ok c = c.in-Ok.ensures.value ∙ ap (λ (x : Fraction). lowest (difference x (fraction c.args.a))) c.whole.ensures ∙ turned_is c.args.a
