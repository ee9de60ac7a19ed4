use Rattle.vx_frac.specs.Fraction.{fraction}
use Rattle.cs_linear.proofs.Sums.{right_next}
use Rattle.cs_linear.proofs.rows.next_right.Goals as goal

pub returns-clause-next : goal.returns-clause-next
returns-clause-next c = right_next c.args.left.now c.args.right.now c.args.i c.args.j (fraction c.args.factor) c.index-right-j.result c.in_ok-entry.entry c.requires.left c.requires.right c.index-right-j.is c.requires.before c.in_ok-entry.ensures.column c.in_ok-entry.ensures.factor
