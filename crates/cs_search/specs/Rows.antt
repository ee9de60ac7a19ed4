-- Rows of numbers: for each literal the clauses that watch it.
use Rattle.std.specs.Prelude.{◌≡◌, ℕ, ◌+◌, ◌*◌, ◌<◌, ◌≤◌, Bool, true, false, List, [], ◌∷◌, ◌++◌, Vec, Option, Some, None, length, slice_get}
use Rattle.std.specs.declared.alloc.Global.{Global}
use Rattle.cs_certificate.specs.declared.literal.Literal.{Literal}

abbrev pub Rows : Type 0
Rows = List (Vec ℕ Global)

abbrev pub items_or : Option (Vec ℕ Global) → List ℕ
items_or None = []
items_or (Some v) = v.items

-- a row that was never made has no numbers
abbrev pub row : Rows → ℕ → List ℕ
row rows s = items_or (slice_get rows s)

abbrev pub slot_of : Bool → ℕ → ℕ
slot_of true n = n * 2 + 1
slot_of false n = n * 2

-- the literal's row
abbrev pub slot : Literal → ℕ
slot l = slot_of l.positive l.number

abbrev pub Has : List ℕ → ℕ → Type 0
Has xs i = (j : ℕ) × (slice_get xs j ≡ Some i)

-- the number stands in the row, at k or behind
abbrev pub IsAhead : List ℕ → ℕ → ℕ → Type 0
IsAhead xs k i = (j : ℕ) × (k ≤ j) × (slice_get xs j ≡ Some i)

-- the number stands at the end of one row
pub record IsPut (old new : Rows) (at n : ℕ) : Type 0 where
  pub here : row new at ≡ row old at ++ n ∷ []
  pub others : (s : ℕ) → ¬ (s ≡ at) → row new s ≡ row old s

-- all but the number at k are there, and those behind it are not before it
pub record IsWithout (old new : List ℕ) (k : ℕ) : Type 0 where
  pub count : length new + 1 ≡ length old
  pub only : (i : ℕ) → Has new i → Has old i
  pub before : (j i : ℕ) → j < k → slice_get old j ≡ Some i → slice_get new j ≡ Some i
  pub behind : (i : ℕ) → IsAhead old (k + 1) i → IsAhead new k i

-- the number at k of one row is gone
pub record IsTaken (old new : Rows) (at k : ℕ) : Type 0 where
  pub here : IsWithout (row old at) (row new at) k
  pub others : (s : ℕ) → ¬ (s ≡ at) → row new s ≡ row old s
