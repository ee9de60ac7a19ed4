-- Terms that wait: one more, and one that waits no longer.
use Rattle.std.proofs.Common.{◌≡◌, ℕ, ◌<◌, ◌+◌, inl, inr, true, false, nat_eq, ◌||◌, List, [], ◌∷◌, ◌++◌, ◌∙◌, ap, arith, eq-eqb}
use Rattle.std.proofs.lemmas.Bool.{cases_eq, or_left, or_right}
use Rattle.std.proofs.lemmas.List.Folds.{list_any-append}
use Rattle.cs_cong.specs.Signatures.{has}

-- one number more
pub has_more : (ns : List ℕ) (n a : ℕ) → has ns a ≡ true → has (ns ++ n ∷ []) a ≡ true
has_more ns n a h = list_any-append (nat_eq a) ns (n ∷ []) ∙ or_left (has ns a) (has (n ∷ []) a) h

pub has_last : (ns : List ℕ) (n a : ℕ) → a ≡ n → has (ns ++ n ∷ []) a ≡ true
has_last ns n a e = list_any-append (nat_eq a) ns (n ∷ []) ∙ or_right (has ns a) (has (n ∷ []) a) (ap (λ b. b || false) (eq-eqb _ _ e))

-- the numbers below n
pub numbers_more : (ns : List ℕ) (n : ℕ) → ((a : ℕ) → a < n → has ns a ≡ true) → (a : ℕ) → a < n + 1 → has (ns ++ n ∷ []) a ≡ true
numbers_more ns n all a lt = elim (cases_eq a n) [
  | inl is ↦ has_last ns n a is
  | inr o ↦ has_more ns n a (all a (omega arith))
]
