-- Assertions that are entered at the numbers of their terms.
use Rattle.std.proofs.Common.{◌≡◌, ◌<◌, ℕ, zero, suc, false, List, [], ◌∷◌, ◌++◌, length, slice_get, slice_set, Option, Some, None, inl, inr, refl, sym, ◌∙◌, ap, subst, arith, All}
use Rattle.std.proofs.lemmas.Bool.{cases_eq}
use Rattle.std.proofs.lemmas.List.{length-set}
use Rattle.std.proofs.lemmas.List.Elements.{All-head, All-tail}
use Rattle.std.proofs.lemmas.Option.{same_Some}
use Rattle.vx_terms.specs.Terms.{Term, Truth, Not}
use Rattle.cs_certificate.specs.Certificate.{At, Contains}
use Rattle.cs_numbers.specs.Numbering.{place}
use Rattle.cs_numbers.proofs.Numbered.{in_either}
use Rattle.cs_derivation.proofs.Starting.{place_at}
use Rattle.cs_opposites.specs.Found.{place_in, AreEntered, IsPlaced, AreOpposites, IsUnopposed}
use Rattle.cs_opposites.specs.declared.find.Opposites.{Opposites}
use Rattle.cs_opposites.specs.declared.find.Opposites.TheVariants.{False, Both}
use Rattle.cs_opposites.specs.Opposites.{HasOpposites}

-- ---- lists by place
at_set : {A : Type 0} (xs : List A) (i : ℕ) (x : A) → i < length xs → At (slice_set xs i x) i x
at_set [] i x lt = absurd (omega arith)
at_set (y ∷ ys) zero x lt = refl
at_set (y ∷ ys) (suc i) x lt = at_set ys i x (omega arith)

at_others : {A : Type 0} (xs : List A) (i k : ℕ) (x : A) → ¬ (k ≡ i) → slice_get (slice_set xs i x) k ≡ slice_get xs k
at_others [] i k x ne = refl
at_others (y ∷ ys) zero zero x ne = absurd (ne refl)
at_others (y ∷ ys) zero (suc k) x ne = refl
at_others (y ∷ ys) (suc i) zero x ne = refl
at_others (y ∷ ys) (suc i) (suc k) x ne = at_others ys i k x (λ e. ne (ap suc e))

at_left : {A : Type 0} (xs ys : List A) (n : ℕ) (x : A) → At xs n x → At (xs ++ ys) n x
at_left [] ys n x e = cc
at_left (z ∷ zs) ys zero x e = e
at_left (z ∷ zs) ys (suc n) x e = at_left zs ys n x e

at_last : {A : Type 0} (xs : List A) (x : A) → At (xs ++ x ∷ []) (length xs) x
at_last [] x = refl
at_last (y ∷ ys) x = at_last ys x

only : {A : Type 0} (y x : A) → Contains (y ∷ []) x → x ≡ y
only y x (zero, e) = sym (same_Some _ _ e)
only y x (suc n, e) = cc

-- ---- one assertion more
module _ (terms ts : List Term) (places : List (Option ℕ)) (h : AreEntered terms ts places) (t : Term) (n : ℕ) (here : place terms t ≡ Some n) (lt : n < length places) where
  abbrev after : List (Option ℕ)
  after = slice_set places n (Some (length ts))

  each : (m p : ℕ) → At after m (Some p) → (u : Term) × (place terms u ≡ Some m) × At (ts ++ t ∷ []) p u
  each m p e = elim (cases_eq m n) [
    | inl is ↦ (
        let q : length ts ≡ p = same_Some _ _ (same_Some _ _ (sym (at_set places n (Some (length ts)) lt) ∙ ap (slice_get after) (sym is) ∙ e)) in
        (t, here ∙ ap Some (sym is), subst (λ k. At (ts ++ t ∷ []) k t) q (at_last ts t)))
    | inr ne ↦ (
        let w = h.each m p (sym (at_others places n m (Some (length ts)) ne) ∙ e) in
        (w.0, w.1, at_left ts (t ∷ []) p w.0 w.2))
  ]

  every : (u : Term) → Contains (ts ++ t ∷ []) u → (m : ℕ) × (p : ℕ) × (place terms u ≡ Some m) × At after m (Some p)
  every u c = elim (in_either ts (t ∷ []) u c) [
    | inl old ↦ (
        let w = h.every u old in
        elim (cases_eq w.0 n) [
          | inl is ↦ (n, length ts, w.2 ∙ ap Some is, at_set places n (Some (length ts)) lt)
          | inr ne ↦ (w.0, w.1, w.2, at_others places n w.0 (Some (length ts)) ne ∙ w.3)
        ])
    | inr new ↦ (n, length ts, ap (place terms) (only t u new) ∙ here, at_set places n (Some (length ts)) lt)
  ]

  pub entered_more : AreEntered terms (ts ++ t ∷ []) after
  entered_more = record { count = length-set places n (Some (length ts)) ∙ h.count; each = each; every = every }

-- none so far
nothing_at : (places : List (Option ℕ)) (m p : ℕ) → All (λ x. x ≡ None) places → At places m (Some p) → ⊥
nothing_at [] m p h e = cc
nothing_at (x ∷ xs) zero p h e = let n : x ≡ None = All-head (λ x. x ≡ None) x xs h in cc
nothing_at (x ∷ xs) (suc m) p h e = nothing_at xs m p (All-tail (λ x. x ≡ None) x xs h) e

pub entered_none : (terms : List Term) (places : List (Option ℕ)) → length places ≡ length terms → All (λ x. x ≡ None) places → AreEntered terms [] places
entered_none terms places count none = record {
  count = count;
  each = λ m p e. absurd (nothing_at places m p none e);
  every = λ u c. absurd (nothing c);
}
  where
    nothing : {u : Term} → Contains [] u → ⊥
    nothing (n, e) = cc

-- ---- what is looked up
pub placed : (terms ts : List Term) (places : List (Option ℕ)) (t : Term) (n : ℕ) → place terms t ≡ Some n → AreEntered terms ts places → IsPlaced ts t (place_in (slice_get places n))
placed terms ts places t n here h = go (slice_get places n) refl
  where
    same_number : (m : ℕ) → place terms t ≡ Some m → m ≡ n
    same_number m e = same_Some _ _ (sym e ∙ here)

    none : (o : Option (Option ℕ)) → slice_get places n ≡ o → place_in o ≡ None → ¬ (Contains ts t)
    none o e nothing c =
        let w = h.every t c in
        let at : slice_get places n ≡ Some (Some w.1) = ap (slice_get places) (sym (same_number w.0 w.2)) ∙ w.3 in
        let is : o ≡ Some (Some w.1) = sym e ∙ at in
        let x : None ≡ Some w.1 = sym nothing ∙ ap place_in is in
        cc

    go : (o : Option (Option ℕ)) → slice_get places n ≡ o → IsPlaced ts t (place_in o)
    go None e = none None e refl
    go (Some None) e = none (Some None) e refl
    go (Some (Some p)) e =
        let w = h.each n p e in
        let is : w.0 ≡ t = same_Some _ _ (sym (place_at terms w.0 n w.1) ∙ place_at terms t n here) in
        subst (At ts p) is w.2

-- the negation of a term
not_is : {x y : Term} → Not x ≡ Not y → x ≡ y
not_is e = cc

pub unopposed : (ts : List Term) (t x : Term) → t ≡ Not x → ¬ (Contains ts x) → IsUnopposed ts t
unopposed ts t x is none = record {
  truth = λ e. (let f : Not x ≡ Truth false = sym is ∙ e in cc);
  part = λ u e c. none (subst (Contains ts) (not_is (sym e ∙ is)) c);
}

-- no assertion is opposed
pub none_opposed : (ts : List Term) → ((k : ℕ) (t : Term) → At ts k t → IsUnopposed ts t) → ¬ (HasOpposites ts)
none_opposed ts h (inl (k, e)) = (h k (Truth false) e).truth refl
none_opposed ts h (inr (t, c, (k, e))) = (h k (Not t) e).part t refl c

-- what is found is there
pub are_there : (ts : List Term) (o : Opposites) → AreOpposites ts o → HasOpposites ts
are_there ts (False p) h = inl (p, h)
are_there ts (Both p q) h = inr (h.0, (p, h.1), (q, h.2))
