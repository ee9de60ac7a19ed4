use Rattle.std.proofs.Common.{ℕ, ◌<◌}
use Rattle.vx_frac.specs.declared.Frac.{Frac}
use Rattle.cs_sums.specs.Fractional.{IsFractionAt}
use Rattle.cs_sums.proofs.values.split_of.Given as goal

abbrev pub invariant-loop-column : goal.invariant-loop-column
invariant-loop-column l = (at : ℕ) → at < l.column → (value : Frac) → ¬ IsFractionAt l.columns.columns.items l.values at value
