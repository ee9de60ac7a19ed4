use Rattle.std.proofs.Common.{◌≡◌, ◌<◌, ℕ, length, Some, false, slice_get}
use Rattle.cs_linear.specs.Values.{values}
use Rattle.cs_linear.specs.Limits.{ArePending}
use Rattle.cs_linear.proofs.limits.Limits.first_broken.Given as goal

abbrev pub invariant-loop-k : goal.invariant-loop-k
invariant-loop-k l = record {
  count : length l.marks.items ≡ length l.initial.marks.items;
  pending : ArePending l.self (values l.mains) (values l.deltas) l.marks.items;
  done : (j : ℕ) → j < l.k → slice_get l.marks.items j ≡ Some false;
}
