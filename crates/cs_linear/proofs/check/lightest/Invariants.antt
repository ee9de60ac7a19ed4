use Rattle.std.proofs.Common.{List}
use Rattle.vx_frac.specs.Fraction.{fraction}
use Rattle.cs_linear.specs.declared.bounds.Bound.{Bound}
use Rattle.cs_linear.specs.declared.check.Way.TheVariants.{Moves}
use Rattle.cs_linear.specs.Values.{values}
use Rattle.cs_linear.specs.Checks.{AreLimits, IsWay}
use Rattle.cs_linear.proofs.check.lightest.Given as goal

-- the best one so far can move
abbrev pub invariant-loop-entry : goal.invariant-loop-entry
invariant-loop-entry l = (bounds : List Bound) → AreLimits bounds l.limits → IsWay bounds (values l.mains) (values l.deltas) (fraction l.toward) l.entries (Moves l.best)
