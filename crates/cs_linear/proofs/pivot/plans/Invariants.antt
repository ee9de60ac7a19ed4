use Rattle.std.proofs.Common.{◌≡◌, ℕ, Option, Some, slice_get, length}
use Rattle.cs_linear.specs.declared.rows.Row.{Row}
use Rattle.cs_linear.specs.Pivots.{IsTurned, chosen}
use Rattle.cs_linear.proofs.pivot.plans.Given as goal

abbrev pub invariant-loop-i : goal.invariant-loop-i
invariant-loop-i l = record {
  count : length l.plans.items ≡ l.i;
  each : (i : ℕ) (r : Row) (o : Option Row) → slice_get l.rows i ≡ Some r → slice_get l.plans.items i ≡ Some o → IsTurned l.at l.column l.solved i r (chosen o r);
}
