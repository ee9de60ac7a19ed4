-- Which terms have a part in the class of a representative.
use Rattle.std.specs.Prelude.{◌≡◌, ℕ, Bool, false, nat_eq, List, slice_get, Option, Some, None}
use Rattle.std.specs.List.{list_any}
use Rattle.cs_cong.specs.declared.congruent.Applied.{Applied}
use Rattle.cs_cong.specs.Rows.{Rows, row}
use Rattle.cs_cong.specs.Signatures.{has}

-- one of the parts is in the class of r
abbrev pub is_any : (ℕ → ℕ) → List ℕ → ℕ → Bool
is_any f parts r = list_any (λ p. nat_eq (f p) r) parts

abbrev pub touches : (ℕ → ℕ) → Option Applied → ℕ → Bool
touches f (Some t) r = is_any f t.parts.items r
touches f None r = false

-- each row has the terms with a part in the class
abbrev pub IsUsed : List Applied → (ℕ → ℕ) → Rows → Type 0
IsUsed terms f uses = (r a : ℕ) → has (row uses r) a ≡ touches f (slice_get terms a) r
