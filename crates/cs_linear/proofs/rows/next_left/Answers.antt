use Rattle.vx_frac.specs.Fraction.{fraction}
use Rattle.cs_linear.proofs.Sums.{left_next}
use Rattle.cs_linear.proofs.rows.next_left.Goals as goal

pub returns : goal.returns
returns c = left_next c.args.left.now c.args.right.now c.args.i c.args.j (fraction c.args.factor) c.index-left-i.result c.requires.left c.requires.right c.index-left-i.is c.requires.before
