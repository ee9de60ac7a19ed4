-- A row more.
use Rattle.std.specs.Prelude.{◌≡◌, ℕ, List, [], ◌∷◌, ◌++◌}
use Rattle.cs_linear.specs.Numbers.{plus}
use Rattle.cs_linear.specs.Rows.{Assignment, Homes, AreFree, Ascends, Solves, total, multiple}
use Rattle.cs_linear.specs.declared.rows.Entry.{Entry}
use Rattle.cs_linear.specs.declared.rows.Row.{Row}

-- the old rows, and behind them one that makes this column that sum
pub record IsAdded (old : List Row) (k : ℕ) (es : List Entry) (new : List Row) : Type 0 where
  pub row : Row
  pub rows : new ≡ old ++ row ∷ []
  pub basic : row.basic ≡ k
  pub entries : row.entries.items ≡ es

-- over the rows this is the same sum with one entry more, and it is of free columns that ascend if it was
pub record IsIncluded (rows : List Row) (homes : Homes) (old : List Entry) (e : Entry) (new : List Entry) : Type 0 where
  pub total : (a : Assignment) → Solves rows a → total new a ≡ plus (total old a) (multiple e a)
  pub free : AreFree homes old → AreFree homes new
  pub ascends : Ascends 0 old → Ascends 0 new
