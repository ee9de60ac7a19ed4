-- Signatures: the head of a term with the representatives of its parts, and keys of them.
use Rattle.std.specs.Prelude.{ℕ, Bool, nat_eq, List, [], ◌∷◌, slice_get, Some, None}
use Rattle.std.specs.List.{list_any}
use Rattle.cs_index.specs.Keys.{mixed}
use Rattle.cs_cong.specs.declared.congruent.Applied.{Applied}

abbrev pub with_parts : ℕ → (ℕ → ℕ) → List ℕ → ℕ
with_parts key f [] = key
with_parts key f (x ∷ xs) = with_parts (mixed key (f x)) f xs

-- any numbers would do that depend on the signature alone
abbrev pub signature_key : (ℕ → ℕ) → Applied → ℕ
signature_key f t = with_parts t.head f t.parts.items

abbrev pub key_at : List Applied → (ℕ → ℕ) → ℕ → ℕ
key_at terms f a = elim (slice_get terms a) [ Some t ↦ signature_key f t | None ↦ 0 ]

abbrev pub has : List ℕ → ℕ → Bool
has ns a = list_any (nat_eq a) ns
