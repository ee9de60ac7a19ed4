use Rattle.std.proofs.Common.{sym, ap, ◌∙◌}
use Rattle.cs_linear.specs.Numbers.{plus}
use Rattle.cs_linear.specs.declared.rows.Entry.{Entry}
use Rattle.vx_frac.specs.Fraction.{fraction}
use Rattle.cs_linear.proofs.Sums.{both_next, read_at}
use Rattle.cs_linear.proofs.rows.next_both.Goals as goal

pub returns-clause-next : goal.returns-clause-next
returns-clause-next c =
    both_next c.args.left.now c.args.right.now c.args.i c.args.j (fraction c.args.factor) c.index-left-i.result c.index-right-j.result c.in_ok-entry.entry c.in_ok-sum.sum c.requires.left c.requires.right c.index-left-i.is c.index-right-j.is
    (c.requires.same _ _ (read_at c.args.left.now c.args.i c.index-left-i.result c.requires.left c.index-left-i.is) (read_at c.args.right.now c.args.j c.index-right-j.result c.requires.right c.index-right-j.is))
    c.in_ok-entry.ensures.column c.in_ok-entry.ensures.factor
    (c.in_ok-sum.ensures.value ∙ ap (λ (e : Entry). plus (fraction e.factor) (fraction c.in_ok-entry.entry.factor)) (sym c.index-left-i.is))
