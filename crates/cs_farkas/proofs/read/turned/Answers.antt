use Rattle.std.proofs.Common.{sym, ap}
use Rattle.vx_frac.specs.Fraction.{fraction}
use Rattle.cs_farkas.specs.Sums.{times}
use Rattle.cs_farkas.proofs.Along.{along}
use Rattle.cs_farkas.proofs.read.turned.Goals as goal

pub returns : goal.returns
returns c = along _ _ _ _ (ap (times (fraction c.args.factor)) (sym c.whole.ensures)) c.times.ensures
