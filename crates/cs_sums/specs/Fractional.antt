-- Values of Int columns that are no whole numbers.
use Rattle.std.specs.Prelude.{◌≡◌, ◌≢◌, ℕ, pos, List, Some, slice_get}
use Rattle.vx_frac.specs.declared.Frac.{Frac}
use Rattle.vx_frac.specs.Fraction.{fraction}
use Rattle.vx_frac.specs.Fractions.{Fraction, denominator}
use Rattle.cs_farkas.specs.declared.Numbers.TheVariants.{Int}
use Rattle.cs_sums.specs.declared.columns.Column.{Column}

-- no whole number
abbrev pub IsFractional : Fraction → Type 0
IsFractional value = denominator value ≢ pos 1

-- the column is of Int, and this is its value, which is no whole number
pub record IsFractionAt (columns : List Column) (values : List Frac) (at : ℕ) (value : Frac) : Type 0 where
  pub column : Column
  pub found : slice_get columns at ≡ Some column
  pub int : column.numbers ≡ Int
  pub here : slice_get values at ≡ Some value
  pub fractional : IsFractional (fraction value)
