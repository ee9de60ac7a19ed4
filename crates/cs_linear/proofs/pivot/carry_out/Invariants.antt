use Rattle.std.proofs.Common.{◌≡◌, ◌≤◌, length}
use Rattle.cs_linear.specs.Pivots.{carried}
use Rattle.cs_linear.proofs.pivot.carry_out.Given as goal

abbrev pub invariant-loop-plan : goal.invariant-loop-plan
invariant-loop-plan l = record {
  count : length l.left.items ≤ length l.rows.items;
  carries : carried l.rows.items l.left.items ≡ carried l.initial.rows.items l.initial.left.items;
}

abbrev pub decreases-loop-plan : goal.decreases-loop-plan
decreases-loop-plan l = length l.left.items
