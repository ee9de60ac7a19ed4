-- What an index of a list holds.
use Rattle.std.specs.Prelude.{◌≡◌, ℕ, suc, nat_eq, if◌then◌else◌, List, [], ◌∷◌, map}
use Rattle.cs_index.specs.declared.index.Index.{Index}
use Rattle.cs_index.specs.Under.{under}

-- the places of the items with this key, in order
abbrev pub places : {A : Type 0} → (A → ℕ) → ℕ → List A → List ℕ
places key k [] = []
places key k (x ∷ xs) = if nat_eq (key x) k then 0 ∷ map suc (places key k xs) else map suc (places key k xs)

-- under each key stand the places of the items with this key, in order, and nothing else
abbrev pub IsExact : {A : Type 0} → (A → ℕ) → List A → Index → Type 0
IsExact key xs i = (k : ℕ) → under i k ≡ places key k xs
