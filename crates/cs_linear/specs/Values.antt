-- The values of columns.
use Rattle.std.specs.Prelude.{[], ◌∷◌, ◌++◌, ◌≡◌, ◌⊎◌, ℕ, nat_eq, if◌then◌else◌, List, Option, Some, None, slice_get, slice_set, length, ◌<◌, ◌≤◌}
use Rattle.vx_frac.specs.Fractions.{Fraction, none}
use Rattle.vx_frac.specs.Fraction.{fraction}
use Rattle.vx_frac.specs.declared.Frac.{Frac}
use Rattle.cs_linear.specs.Numbers.{plus, times}
use Rattle.cs_linear.specs.Rows.{Assignment, factor_at, Homes, IsFree}
use Rattle.cs_linear.specs.declared.rows.Entry.{Entry}
use Rattle.cs_linear.specs.declared.rows.Row.{Row}
use Rattle.cs_linear.specs.declared.values.Move.{Move}

abbrev pub value : Option Frac → Fraction
value (Some f) = fraction f
value None = none

abbrev pub values : List Frac → Assignment
values fs k = value (slice_get fs k)

abbrev pub entries_of : Option Row → List Entry
entries_of (Some r) = r.entries.items
entries_of None = []

-- a value after the free column j moved by so much: that column moves, and a basic one by its factor times as much
abbrev pub moved : List Row → ℕ → Fraction → Option ℕ → ℕ → Fraction → Fraction
moved rows j by None k v = if nat_eq k j then plus v by else v
moved rows j by (Some i) k v = plus v (times (factor_at (entries_of (slice_get rows i)) j) by)

pub record AreMoved (rows : List Row) (homes : Homes) (j : ℕ) (by : Fraction) (old : List Frac) (new : List Frac) : Type 0 where
  pub count : length new ≡ length old
  pub each : (k : ℕ) (home : Option ℕ) (v w : Frac) → slice_get homes k ≡ Some home → slice_get old k ≡ Some v → slice_get new k ≡ Some w → fraction w ≡ moved rows j by home k (fraction v)

-- the values after moves, one by one
abbrev pub arrived : List Move → List Frac → List Frac
arrived [] vs = vs
arrived (m ∷ ms) vs = arrived ms (slice_set vs m.column m.value)

-- a row's basic column has its move behind the others, or the row doesn't have the column that moves
abbrev pub IsFollowed : Row → ℕ → Fraction → List Frac → List Move → List Move → Type 0
IsFollowed r j by vs old new =
    ((new ≡ old) × (factor_at r.entries.items j ≡ none))
    ⊎ ((m : Move) × (new ≡ old ++ m ∷ []) × (m.column ≡ r.basic) × (fraction m.value ≡ plus (values vs r.basic) (times (factor_at r.entries.items j) by)))

-- the free column moved, and of the basic ones those of the first n rows
pub record AreFollowing (n : ℕ) (rows : List Row) (homes : Homes) (j : ℕ) (by : Fraction) (old : List Frac) (new : List Frac) : Type 0 where
  pub count : length new ≡ length old
  pub free : (k : ℕ) (v w : Frac) → IsFree homes k → slice_get old k ≡ Some v → slice_get new k ≡ Some w → fraction w ≡ moved rows j by None k (fraction v)
  pub done : (k i : ℕ) (v w : Frac) → slice_get homes k ≡ Some (Some i) → i < n → slice_get old k ≡ Some v → slice_get new k ≡ Some w → fraction w ≡ moved rows j by (Some i) k (fraction v)
  pub ahead : (k i : ℕ) (v w : Frac) → slice_get homes k ≡ Some (Some i) → n ≤ i → slice_get old k ≡ Some v → slice_get new k ≡ Some w → w ≡ v
