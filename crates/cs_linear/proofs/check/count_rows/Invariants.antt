use Rattle.std.proofs.Common.{◌≤◌}
use Rattle.cs_linear.proofs.check.count_rows.Given as goal

abbrev pub invariant-loop-row : goal.invariant-loop-row
invariant-loop-row l = l.count ≤ l.row-index
