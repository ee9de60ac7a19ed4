use Rattle.std.proofs.Common.{◌≡◌, ℕ, ◌+◌, ◌-◌, ◌≤◌, length}
use Rattle.cs_meter.specs.Units.{limit}
use Rattle.cs_linear.specs.Checks.{AreLimits, AreTight}
use Rattle.cs_linear.specs.Limits.{ArePending}
use Rattle.cs_linear.specs.Turns.{Mends, standing}
use Rattle.cs_linear.specs.Values.{values}
use Rattle.cs_linear.proofs.tableau.Tableau.check.Given as goal

abbrev pub invariant-loop-marks : goal.invariant-loop-marks
invariant-loop-marks l = record {
  rows : l.self.originals ≡ l.fn.self.originals;
  width : length l.self.homes.items ≡ length l.fn.self.homes.items;
  bounds : l.self.bounds ≡ l.fn.self.bounds;
  limits : AreLimits l.self.bounds.items l.limits;
  lower : length l.limits.lower.items ≡ length l.self.homes.items;
  tight : AreTight l.self.bounds.items l.limits;
  pending : ArePending l.limits (values l.self.mains.items) (values l.self.deltas.items) l.marks.items;
  marks : length l.marks.items ≡ length l.self.homes.items;
  spent : l.fn.meter.spent ≤ l.meter.spent;
  paid : (n : ℕ) × Mends l.fn.self.bounds.items (standing l.fn.self) n (standing l.self) × (l.meter.spent ≡ l.fn.meter.spent + n);
  upper : length l.limits.upper.items ≡ length l.self.homes.items;
}

abbrev pub decreases-loop-marks : goal.decreases-loop-marks
decreases-loop-marks l = limit - l.meter.spent
