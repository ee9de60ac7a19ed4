-- Where a split parts the values.
use Rattle.std.specs.Prelude.{ℕ, ℤ, List, ◌⊎◌}
use Rattle.vx_frac.specs.declared.Frac.{Frac}
use Rattle.cs_sums.specs.declared.columns.Columns.{Columns}
use Rattle.cs_sums.specs.Fractional.{IsFractionAt}
use Rattle.cs_sums.specs.Parts.{IsAlone, IsSumOf}

-- the parts make the column: it is that of their sum, or that of the only one
abbrev pub IsMade : Columns → ℕ → List (ℕ × ℤ) → Type 0
IsMade columns at parts = IsSumOf columns.columns.items columns.sums.items at parts ⊎ IsAlone columns.columns.items at parts

-- the parts make an Int column, and this is its value, which is no whole number
pub record IsSplitAt (columns : Columns) (values : List Frac) (at : ℕ) (parts : List (ℕ × ℤ)) (value : Frac) : Type 0 where
  pub fractional : IsFractionAt columns.columns.items values at value
  pub made : IsMade columns at parts

-- for some Int column
abbrev pub IsSplit : Columns → List Frac → List (ℕ × ℤ) → Frac → Type 0
IsSplit columns values parts value = (at : ℕ) × IsSplitAt columns values at parts value

-- the values of all Int columns are whole numbers
abbrev pub AreWhole : Columns → List Frac → Type 0
AreWhole columns values = (at : ℕ) (value : Frac) → ¬ IsFractionAt columns.columns.items values at value
