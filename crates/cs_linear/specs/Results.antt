-- What a check tells.
use Rattle.std.specs.Prelude.{◌≡◌, ℕ, ◌<◌, ◌+◌, Some, slice_get, List}
use Rattle.vx_frac.specs.Fraction.{fraction}
use Rattle.cs_meter.specs.Units.{limit}
use Rattle.cs_linear.specs.Numbers.{Leaves}
use Rattle.cs_linear.specs.Rows.{Solves}
use Rattle.cs_linear.specs.Views.{rows_of, bounds_of, mains_of, deltas_of}
use Rattle.cs_linear.specs.Contradictions.{Meets, IsContradiction}
use Rattle.cs_linear.specs.declared.rows.Entry.{Entry}
use Rattle.cs_linear.specs.declared.rows.Row.{Row}
use Rattle.cs_linear.specs.declared.tableau.Tableau.{Tableau}
use Rattle.cs_linear.specs.declared.mend.Checked.{Checked}
use Rattle.cs_linear.specs.declared.mend.Checked.TheVariants as answers
use Rattle.cs_linear.specs.declared.mend.Undecided.{Undecided}
use Rattle.cs_linear.specs.declared.mend.Undecided.TheVariants as causes
use Rattle.cs_linear.specs.declared.mend.Step.{Step}
use Rattle.cs_linear.specs.declared.mend.Step.TheVariants as steps

-- the values solve the rows as they were added and meet all bounds
pub record IsFeasible (t : Tableau) : Type 0 where
  pub mains : Solves (rows_of t) (mains_of t)
  pub deltas : Solves (rows_of t) (deltas_of t)
  pub bounds : Meets (bounds_of t) (mains_of t) (deltas_of t)

abbrev pub IsChecked : Tableau → Checked → Type 0
IsChecked t answers.Feasible = IsFeasible t
IsChecked t (answers.Conflict c) = IsContradiction (rows_of t) (bounds_of t) c.parts.items

-- why there is no answer
abbrev pub IsUndecided : ℕ → Undecided → Type 0
IsUndecided spent causes.Budget = spent ≡ limit
IsUndecided spent (causes.Over o) = Leaves o.op (fraction o.a) (fraction o.b)
IsUndecided spent causes.Want = Unit {0}

-- it ended, or a unit was spent
abbrev pub IsStep : Tableau → ℕ → ℕ → Step → Type 0
IsStep t before after (steps.Ended c) = IsChecked t c
IsStep t before after steps.On = (after ≡ before + 1) × (before < limit)

-- an entry of the row at a place
pub record IsEntryOf (rows : List Row) (at : ℕ) (e : Entry) : Type 0 where
  pub row : Row
  pub here : slice_get rows at ≡ Some row
  pub place : ℕ
  pub entry : slice_get row.entries.items place ≡ Some e
