use Rattle.std.proofs.Common.{◌≡◌, ◌+◌, ◌-◌, ◌≤◌, length, drop}
use Rattle.vx_frac.specs.Fraction.{fraction}
use Rattle.cs_linear.specs.Numbers.{plus, times}
use Rattle.cs_linear.specs.Rows.{Assignment, Homes, AreFree, Ascends, total}
use Rattle.cs_linear.specs.Merged.{IsMerging}
use Rattle.cs_linear.proofs.rows.add_multiple.Given as goal

abbrev pub invariant-loop-i : goal.invariant-loop-i
invariant-loop-i l = record {
  left_within : l.i ≤ length l.left;
  right_within : l.j ≤ length l.right;
  value : (a : Assignment) → plus (total l.sum.items a) (plus (total (drop l.i l.left) a) (times (fraction l.factor) (total (drop l.j l.right) a))) ≡ plus (total l.left a) (times (fraction l.factor) (total l.right a));
  ascends : Ascends 0 l.left → Ascends 0 l.right → IsMerging l.sum.items (drop l.i l.left) (drop l.j l.right);
  free : (homes : Homes) → AreFree homes l.left → AreFree homes l.right → AreFree homes l.sum.items;
}

abbrev pub decreases-loop-i : goal.decreases-loop-i
decreases-loop-i l = (length l.left + length l.right) - (l.i + l.j)
