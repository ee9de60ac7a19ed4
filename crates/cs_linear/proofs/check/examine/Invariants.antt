use Rattle.std.proofs.Common.{◌≡◌, List, drop, All}
use Rattle.vx_frac.specs.Fraction.{fraction}
use Rattle.cs_linear.specs.Numbers.{plus, times}
use Rattle.cs_linear.specs.declared.bounds.Bound.{Bound}
use Rattle.cs_linear.specs.Rows.{Assignment, total}
use Rattle.cs_linear.specs.Values.{values}
use Rattle.cs_linear.specs.Contradictions.{columns, IsBlocking}
use Rattle.cs_linear.specs.Checks.{AreLimits}
use Rattle.cs_linear.proofs.check.examine.Given as goal

abbrev pub invariant-loop-entry : goal.invariant-loop-entry
invariant-loop-entry l = record {
  columns : (bounds : List Bound) → AreLimits bounds l.limits → (x : Assignment) → plus (columns l.parts.items x) (times (fraction l.toward) (total (drop l.entry-index l.entries) x)) ≡ times (fraction l.toward) (total l.entries x);
  blocking : (bounds : List Bound) → AreLimits bounds l.limits → All (IsBlocking bounds (values l.mains) (values l.deltas)) l.parts.items;
}
