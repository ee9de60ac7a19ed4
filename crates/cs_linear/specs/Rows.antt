-- Rows as linear equations, and their solutions.
use Rattle.std.specs.Prelude.{◌≡◌, ℕ, suc, Bool, true, ◌&&◌, nat_lt, nat_eq, if◌then◌else◌, List, [], ◌∷◌, Option, Some, None, slice_get, All, ◌<◌, ◌≤◌, length}
use Rattle.vx_frac.specs.Fractions.{Fraction, none, lowest}
use Rattle.vx_frac.specs.Fraction.{fraction}
use Rattle.cs_linear.specs.Numbers.{plus, times}
use Rattle.cs_linear.specs.declared.rows.Entry.{Entry}
use Rattle.cs_linear.specs.declared.rows.Row.{Row}

-- a fraction for each column
abbrev pub Assignment : Type 0
Assignment = ℕ → Fraction

abbrev pub multiple : Entry → Assignment → Fraction
multiple e a = times (fraction e.factor) (a e.column)

abbrev pub total : List Entry → Assignment → Fraction
total [] a = none
total (e ∷ es) a = plus (multiple e a) (total es a)

-- the basic column is the sum
abbrev pub Holds : Assignment → Row → Type 0
Holds a r = lowest (a r.basic) ≡ total r.entries.items a

abbrev pub Solves : List Row → Assignment → Type 0
Solves rows a = (i : ℕ) (r : Row) → slice_get rows i ≡ Some r → Holds a r

-- two lists of rows have the same solutions
abbrev pub AreAlike : List Row → List Row → Type 0
AreAlike rows others = (a : Assignment) → (Solves rows a → Solves others a) × (Solves others a → Solves rows a)

-- the factor of a column
abbrev pub factor_at : List Entry → ℕ → Fraction
factor_at [] j = none
factor_at (e ∷ es) j = if nat_eq e.column j then plus (fraction e.factor) (factor_at es j) else factor_at es j

-- which row has a column as its basic one; none where the column is free
abbrev pub Homes : Type 0
Homes = List (Option ℕ)

abbrev pub IsFree : Homes → ℕ → Type 0
IsFree homes k = slice_get homes k ≡ Some None

abbrev pub AreFree : Homes → List Entry → Type 0
AreFree homes es = All (λ e. IsFree homes e.column) es

-- the columns ascend, from n on
abbrev pub Ascends : ℕ → List Entry → Type 0
Ascends n [] = Unit {0}
Ascends n (e ∷ es) = (n ≤ e.column) × Ascends (suc e.column) es

abbrev pub ascends : ℕ → List Entry → Bool
ascends n [] = true
ascends n (e ∷ es) = nat_lt n (suc e.column) && ascends (suc e.column) es

abbrev pub AllAscend : List Row → Type 0
AllAscend rows = (i : ℕ) (r : Row) → slice_get rows i ≡ Some r → Ascends 0 r.entries.items

-- sums are over free columns that ascend, and each basic column knows its row
pub record IsTableau (rows : List Row) (homes : Homes) : Type 0 where
  pub ascends : (i : ℕ) (r : Row) → slice_get rows i ≡ Some r → ascends 0 r.entries.items ≡ true
  pub free : (i : ℕ) (r : Row) → slice_get rows i ≡ Some r → AreFree homes r.entries.items
  pub basic : (i : ℕ) (r : Row) → slice_get rows i ≡ Some r → slice_get homes r.basic ≡ Some (Some i)
  pub within : (k i : ℕ) → slice_get homes k ≡ Some (Some i) → i < length rows
  pub owner : (k i : ℕ) (r : Row) → slice_get homes k ≡ Some (Some i) → slice_get rows i ≡ Some r → r.basic ≡ k
