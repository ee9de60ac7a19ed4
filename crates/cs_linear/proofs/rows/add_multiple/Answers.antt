use Rattle.std.proofs.Common.{◌∙◌, arith}
use Rattle.vx_frac.specs.Fraction.{fraction}
use Rattle.cs_linear.proofs.Sums.{merge_begins, merge_goes, merge_ends, none_free, merging, merging_begins}
use Rattle.cs_linear.proofs.rows.add_multiple.Goals as goal

pub loop-i-init : goal.loop-i-init
loop-i-init c = record {
  left_within = omega arith;
  right_within = omega arith;
  value = λ a. merge_begins c.new-sum.result.items c.args.left.now c.args.right.now (fraction c.args.factor) a c.new-sum.ensures.items;
  ascends = λ l r. merging_begins c.new-sum.result.items c.args.left.now c.args.right.now c.new-sum.ensures.items l r;
  free = λ homes l r. none_free homes c.new-sum.result.items c.new-sum.ensures.items;
}

pub loop-i-preserved : goal.loop-i-preserved
loop-i-preserved c = record {
  left_within = c.in_ok-next.ensures.next.left_within;
  right_within = c.in_ok-next.ensures.next.right_within;
  value = λ a. merge_goes c.loop-i.sum.items c.push_nonzero.new.entries.items c.args.left.now c.args.right.now c.loop-i.i c.loop-i.j (fraction c.args.factor) c.in_ok-next.next a c.in_ok-push_nonzero.ensures.goes c.in_ok-next.ensures.next ∙ c.loop-i.invariant.value a;
  ascends = λ l r. merging c.loop-i.sum.items c.push_nonzero.new.entries.items _ _ _ _ c.in_ok-next.next.entry c.in_ok-push_nonzero.ensures.goes c.in_ok-next.ensures.next.ascends (c.loop-i.invariant.ascends l r);
  free = λ homes l r. c.in_ok-push_nonzero.ensures.goes.free homes (c.loop-i.invariant.free homes l r) (c.in_ok-next.ensures.next.free homes l r);
}

pub returns-clause-value : goal.returns-clause-value
returns-clause-value c a =
    merge_ends c.loop-i.sum.items c.args.left.now c.args.right.now c.loop-i.i c.loop-i.j (fraction c.args.factor) a c.if-i-left.false c.if-j-right.false
    ∙ c.loop-i.invariant.value a
