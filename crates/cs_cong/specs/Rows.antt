-- Rows of numbers.
use Rattle.std.specs.Prelude.{◌≡◌, ℕ, List, [], Vec, Option, Some, None, length, slice_get}
use Rattle.std.specs.declared.alloc.Global.{Global}

abbrev pub Rows : Type 0
Rows = List (Vec ℕ Global)

abbrev pub items_or : Option (Vec ℕ Global) → List ℕ
items_or None = []
items_or (Some v) = v.items

abbrev pub row : Rows → ℕ → List ℕ
row rows s = items_or (slice_get rows s)

-- one row has these numbers now
pub record IsWritten (old new : Rows) (at : ℕ) (xs : List ℕ) : Type 0 where
  pub here : row new at ≡ xs
  pub others : (s : ℕ) → ¬ (s ≡ at) → row new s ≡ row old s
  pub count : length new ≡ length old
