-- A tableau as its users see it: its columns, the rows that were added, the bounds that stand, and a value for each column.
use Rattle.std.specs.Prelude.{ℕ, List, length}
use Rattle.cs_linear.specs.Amounts.{Amount}
use Rattle.cs_linear.specs.Contradictions.{amount_at}
use Rattle.cs_linear.specs.Rows.{Assignment}
use Rattle.cs_linear.specs.Values.{values}
use Rattle.cs_linear.specs.declared.bounds.Bound.{Bound}
use Rattle.cs_linear.specs.declared.rows.Row.{Row}
use Rattle.cs_linear.specs.declared.tableau.Tableau.{Tableau}

-- how many columns there are
abbrev pub width_of : Tableau → ℕ
width_of t = length t.homes.items

-- the rows as they were added
abbrev pub rows_of : Tableau → List Row
rows_of t = t.originals.items

-- the bounds that were asserted and not taken back
abbrev pub bounds_of : Tableau → List Bound
bounds_of t = t.bounds.items

-- the values of the columns: the numbers, and the multiples of a small positive one
abbrev pub mains_of : Tableau → Assignment
mains_of t = values t.mains.items

abbrev pub deltas_of : Tableau → Assignment
deltas_of t = values t.deltas.items

abbrev pub value_of : Tableau → ℕ → Amount
value_of t column = amount_at (mains_of t) (deltas_of t) column
