-- That the numbers under the key of an item find its place in a list.
use Rattle.std.specs.Prelude.{◌≡◌, ℕ, suc, ◌<◌, Bool, true, false, if◌then◌else◌, List, [], ◌∷◌, length, slice_get, All, Option, Some, None}
use Rattle.std.specs.Option.{option_map}
use Rattle.cs_index.specs.declared.index.Index.{Index}
use Rattle.cs_index.specs.Under.{under}

-- the place of the first item that passes
abbrev pub first : {A : Type 0} → (A → Bool) → List A → Option ℕ
first passes [] = None
first passes (x ∷ xs) = if passes x then Some 0 else option_map suc (first passes xs)

abbrev pub passes_at : {A : Type 0} → (A → Bool) → List A → ℕ → Bool
passes_at passes xs n = elim (slice_get xs n) [ Some x ↦ passes x | None ↦ false ]

-- the first of these places at which an item passes
abbrev pub found : {A : Type 0} → (A → Bool) → List A → List ℕ → Option ℕ
found passes xs [] = None
found passes xs (n ∷ ns) = if passes_at passes xs n then Some n else found passes xs ns

-- each item has its place under its key: where all that passes has this key, the places under it find the first of the list
pub record IsIndexed {A : Type 0} (key : A → ℕ) (xs : List A) (i : Index) : Type 0 where
  pub finds : (passes : A → Bool) (k : ℕ) → ((x : A) → passes x ≡ true → key x ≡ k) → found passes xs (under i k) ≡ first passes xs
  pub within : (k : ℕ) → All (λ n. n < length xs) (under i k)
