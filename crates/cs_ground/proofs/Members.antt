-- Members of lists, and terms that are one or two.
use Rattle.std.proofs.Common.{◌≡◌, ◌⊎◌, inl, inr, ℕ, zero, suc, ◌<◌, Bool, true, false, List, [], ◌∷◌, take, length, refl, sym, ◌∙◌, subst, arith}
use Rattle.std.proofs.lemmas.Option.{same_Some}
use Rattle.vx_terms.specs.Terms.{Term, same}
use Rattle.vx_terms.specs.Interpretations.{Each}
use Rattle.vx_terms.proofs.Same.{term_is}
use Rattle.cs_certificate.specs.Certificate.{At, Contains}
use Rattle.cs_numbers.proofs.Itself.{term_same}

-- two terms are one, or differ
pub one_or_two : (t u : Term) → (t ≡ u) ⊎ ¬ (t ≡ u)
one_or_two t u = go (same t u) refl
  where
    go : (b : Bool) → same t u ≡ b → (t ≡ u) ⊎ ¬ (t ≡ u)
    go true e = inl (term_is t u e)
    go false e = inr (λ h. let s : same t u ≡ true = subst (λ v. same t v ≡ true) h (term_same t) in let f : true ≡ false = sym s ∙ e in cc)

-- what holds of each holds of a member
pub each_in : {A : Type 0} (P : A → Type 0) (xs : List A) (x : A) → Each P xs → Contains xs x → P x
each_in P [] x h (n, e) = cc
each_in P (y ∷ xs) x h (zero, e) = subst P (same_Some _ _ e) h.0
each_in P (y ∷ xs) x h (suc n, e) = each_in P xs x h.1 (n, e)

-- and what holds of all members holds of each
pub in_each : {A : Type 0} (P : A → Type 0) (xs : List A) → ((x : A) → Contains xs x → P x) → Each P xs
in_each P [] f = tt
in_each P (x ∷ xs) f = (f x (0, refl), in_each P xs (λ y c. f y (suc c.0, c.1)))

-- ---- the front of a list
-- a member's place is below the length
at_within : {A : Type 0} (xs : List A) (n : ℕ) (x : A) → At xs n x → n < length xs
at_within [] n x e = cc
at_within (y ∷ xs) zero x e = omega arith
at_within (y ∷ xs) (suc n) x e = let h = at_within xs n x e in omega arith

-- what stands in the first so many stands in the whole
at_taken : {A : Type 0} (k : ℕ) (ys : List A) (n : ℕ) (x : A) → At (take k ys) n x → At ys n x
at_taken zero ys n x e = cc
at_taken (suc k) [] n x e = cc
at_taken (suc k) (y ∷ ys) zero x e = e
at_taken (suc k) (y ∷ ys) (suc n) x e = at_taken k ys n x e

-- and what stands in the whole at one of the first places stands in them
taken_at : {A : Type 0} (k : ℕ) (ys : List A) (n : ℕ) (x : A) → n < k → At ys n x → At (take k ys) n x
taken_at zero ys n x lt e = absurd (omega arith)
taken_at (suc k) [] n x lt e = cc
taken_at (suc k) (y ∷ ys) zero x lt e = e
taken_at (suc k) (y ∷ ys) (suc n) x lt e = taken_at k ys n x (omega arith) e

-- a member of the front stands at its place in the whole
pub front_at : {A : Type 0} (xs ys : List A) (n : ℕ) (x : A) → take (length xs) ys ≡ xs → At xs n x → At ys n x
front_at xs ys n x h e = at_taken (length xs) ys n x (subst (λ zs. At zs n x) (sym h) e)

-- and what stands no later than such a member is in the front
pub before_front : {A : Type 0} (xs ys : List A) (k n : ℕ) (x y : A) → take (length xs) ys ≡ xs → At xs n x → k < suc n → At ys k y → Contains xs y
before_front xs ys k n x y h e le at =
    let lt = at_within xs n x e in
    (k, subst (λ zs. At zs k y) h (taken_at (length xs) ys k y (omega arith) at))
