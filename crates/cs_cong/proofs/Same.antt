-- Parts with the same representatives, one place after another.
use Rattle.std.proofs.Common.{◌≡◌, ℕ, zero, suc, ◌<◌, ◌≤◌, ◌+◌, Bool, true, false, nat_eq, ◌&&◌, ◌||◌, List, [], ◌∷◌, length, drop, get_or, refl, sym, ◌∙◌, ap, ap₂, arith, add-one, drop-cons, eq-eqb, ne_eqb}
use Rattle.std.specs.List.{list_any}
use Rattle.cs_cong.specs.Joined.{all_same}

pub unequal : (f : ℕ → ℕ) (xs ys : List ℕ) → (length xs ≡ length ys → ⊥) → all_same f xs ys ≡ false
unequal f [] [] h = absurd (h refl)
unequal f [] (y ∷ ys) h = refl
unequal f (x ∷ xs) [] h = refl
unequal f (x ∷ xs) (y ∷ ys) h = ap (λ b. nat_eq (f x) (f y) && b) (unequal f xs ys (λ e. h (ap suc e))) ∙ go (nat_eq (f x) (f y))
  where
    go : (b : Bool) → (b && false) ≡ false
    go true = refl
    go false = refl

opened : (f : ℕ → ℕ) (xs ys : List ℕ) (at : ℕ) → at < length xs → at < length ys →
    all_same f (drop at xs) (drop at ys) ≡ (nat_eq (f (get_or xs at 0)) (f (get_or ys at 0)) && all_same f (drop (at + 1) xs) (drop (at + 1) ys))
opened f xs ys at lx ly =
    ap₂ (all_same f) (drop-cons xs at 0 lx ∙ ap (λ k. get_or xs at 0 ∷ drop k xs) (sym (add-one at))) (drop-cons ys at 0 ly ∙ ap (λ k. get_or ys at 0 ∷ drop k ys) (sym (add-one at)))

pub same_here : (f : ℕ → ℕ) (xs ys : List ℕ) (at : ℕ) → at < length xs → length xs ≡ length ys → f (get_or xs at 0) ≡ f (get_or ys at 0) → all_same f (drop at xs) (drop at ys) ≡ all_same f (drop (at + 1) xs) (drop (at + 1) ys)
same_here f xs ys at lx long e = opened f xs ys at lx (omega arith) ∙ ap (λ b. b && all_same f (drop (at + 1) xs) (drop (at + 1) ys)) (eq-eqb _ _ e)

pub other_here : (f : ℕ → ℕ) (xs ys : List ℕ) (at : ℕ) → at < length xs → length xs ≡ length ys → (f (get_or xs at 0) ≡ f (get_or ys at 0) → ⊥) → all_same f (drop at xs) (drop at ys) ≡ false
other_here f xs ys at lx long n = opened f xs ys at lx (omega arith) ∙ ap (λ b. b && all_same f (drop (at + 1) xs) (drop (at + 1) ys)) (ne_eqb _ _ n)

pub gone : (xs : List ℕ) (at : ℕ) → length xs ≤ at → drop at xs ≡ []
gone [] zero h = refl
gone [] (suc at) h = refl
gone (x ∷ xs) zero h = absurd (omega arith)
gone (x ∷ xs) (suc at) h = gone xs at (omega arith)

pub at_end : (f : ℕ → ℕ) (xs ys : List ℕ) (at : ℕ) → length xs ≤ at → length xs ≡ length ys → all_same f (drop at xs) (drop at ys) ≡ true
at_end f xs ys at h long = ap₂ (all_same f) (gone xs at h) (gone ys at (omega arith))

-- ---- one that passes, from a place on
any_opened : (p : ℕ → Bool) (xs : List ℕ) (i : ℕ) → i < length xs → list_any p (drop i xs) ≡ (p (get_or xs i 0) || list_any p (drop (i + 1) xs))
any_opened p xs i lt = ap (list_any p) (drop-cons xs i 0 lt ∙ ap (λ k. get_or xs i 0 ∷ drop k xs) (sym (add-one i)))

pub any_here : (p : ℕ → Bool) (xs : List ℕ) (i : ℕ) → i < length xs → p (get_or xs i 0) ≡ true → list_any p (drop i xs) ≡ true
any_here p xs i lt e = any_opened p xs i lt ∙ ap (λ b. b || list_any p (drop (i + 1) xs)) e

pub any_later : (p : ℕ → Bool) (xs : List ℕ) (i : ℕ) → i < length xs → p (get_or xs i 0) ≡ false → list_any p (drop (i + 1) xs) ≡ list_any p (drop i xs)
any_later p xs i lt e = sym (any_opened p xs i lt ∙ ap (λ b. b || list_any p (drop (i + 1) xs)) e)

pub any_end : (p : ℕ → Bool) (xs : List ℕ) (i : ℕ) → length xs ≤ i → list_any p (drop i xs) ≡ false
any_end p xs i le = ap (list_any p) (gone xs i le)
