-- Places of lists, and the numbers of terms.
use Rattle.std.proofs.Common.{rules, Vec, Global, vec_len, ◌≡◌, inl, inr, ◌⊎◌, ℕ, zero, suc, ◌+◌, ◌<◌, Bool, true, false, List, [], ◌∷◌, ◌++◌, length, take, map, get_or, Option, Some, None, refl, sym, ◌∙◌, ap, subst, arith}
use Rattle.std.specs.Prelude.{if◌then◌else◌}
use Rattle.std.specs.Option.{option_map}
use Rattle.std.proofs.lemmas.Option.{slice_get-get_or, same_Some}
use Rattle.std.proofs.lemmas.List.{length-map}
use Rattle.std.proofs.lemmas.Bool.{cases_lt}
use Rattle.vx_terms.specs.Interpretations.{Each}
use Rattle.vx_terms.specs.Terms.{Term, same}
use Rattle.vx_terms.proofs.Same.{term_is}
use Rattle.cs_certificate.specs.Certificate.{At, AllAt, no-terms, one-term, Contains}
use Rattle.cs_numbers.specs.Numbering.{place}
use Rattle.cs_numbers.proofs.Itself.{term_same}
use Rattle.cs_proof.proofs.Grown.{at_left}
use Rattle.cs_ground.specs.Steps.{Begins}

pub counted : {X : Type 0} (view : X → Term) (v : Vec X Global) → vec_len v ≡ length (map view v.items)
counted view v = let long : vec_len v ≡ length v.items = search rules in long ∙ sym (length-map v.items view)

-- one more than the first
pub one_more : (k i : ℕ) → k < i + 1 → (k < i) ⊎ (k ≡ i)
one_more k i lt = elim (cases_lt k i) [ inl h ↦ inl h | inr h ↦ inr (omega arith) ]

-- what begins with a list
pub first_are : {A : Type 0} (xs ys : List A) → ((n : ℕ) (x : A) → At xs n x → At ys n x) → take (length xs) ys ≡ xs
first_are [] ys h = refl
first_are (x ∷ xs) [] h = let e = h 0 x refl in cc
first_are (x ∷ xs) (y ∷ ys) h = let e : y ≡ x = same_Some _ _ (h 0 x refl) in ap (λ z. z ∷ take (length xs) ys) e ∙ ap (λ zs. x ∷ zs) (first_are xs ys (λ n z at. h (suc n) z at))

pub at_within : {A : Type 0} (xs : List A) (n : ℕ) (x : A) → At xs n x → n < length xs
at_within [] n x e = cc
at_within (y ∷ xs) zero x e = omega arith
at_within (y ∷ xs) (suc n) x e = let h = at_within xs n x e in omega arith

pub at_some : {A : Type 0} (xs : List A) (n : ℕ) → n < length xs → (x : A) × At xs n x
at_some [] n lt = absurd (omega arith)
at_some (x ∷ xs) zero lt = (x, refl)
at_some (x ∷ xs) (suc n) lt = at_some xs n (omega arith)

pub item_at : {A : Type 0} (xs : List A) (n : ℕ) (x : A) → n < length xs → x ≡ get_or xs n x → At xs n x
item_at xs n x lt e = slice_get-get_or xs n x lt ∙ ap Some (sym e)

pub each_at : {A : Type 0} (P : A → Type 0) (xs : List A) (n : ℕ) (x : A) → Each P xs → At xs n x → P x
each_at P [] n x h e = cc
each_at P (y ∷ xs) zero x h e = subst P (same_Some _ _ e) h.0
each_at P (y ∷ xs) (suc n) x h e = each_at P xs n x h.1 e

pub each_last : {A : Type 0} (P : A → Type 0) (xs : List A) (x : A) → Each P xs → P x → Each P (xs ++ x ∷ [])
each_last P [] x h k = (k, tt)
each_last P (y ∷ ys) x h k = (h.0, each_last P ys x h.1 k)

pub all_at : {terms ts : List Term} {ns : List ℕ} (n : ℕ) (t : Term) → AllAt terms ns ts → At ts n t → Contains terms t
all_at {terms = terms} zero t (one-term {n = k} at more) e = (k, subst (At terms k) (same_Some _ _ e) at)
all_at (suc n) t (one-term at more) e = all_at n t more e
all_at n t no-terms e = cc

pub mapped_at : {X : Type 0} (view : X → Term) (xs : List X) (n : ℕ) (x : X) → At xs n x → At (map view xs) n (view x)
mapped_at view [] n x e = cc
mapped_at view (y ∷ ys) zero x e = ap (λ z. Some (view z)) (same_Some _ _ e)
mapped_at view (y ∷ ys) (suc n) x e = mapped_at view ys n x e

-- ---- what a list begins with
pub begins_at : (xs ys : List Term) (n : ℕ) (t : Term) → Begins xs ys → At xs n t → At ys n t
begins_at xs ys n t (rest, e) at = subst (λ zs. At zs n t) (sym e) (at_left xs rest n t at)

pub begins_contains : (xs ys : List Term) (t : Term) → Begins xs ys → Contains xs t → Contains ys t
begins_contains xs ys t b (n, at) = (n, begins_at xs ys n t b at)

at_front : (xs ys : List Term) (n : ℕ) (t : Term) → n < length xs → At (xs ++ ys) n t → At xs n t
at_front [] ys n t lt e = absurd (omega arith)
at_front (z ∷ zs) ys zero t lt e = e
at_front (z ∷ zs) ys (suc n) t lt e = at_front zs ys n t (omega arith) e

pub front_at : (xs ys : List Term) (n : ℕ) (t : Term) → Begins xs ys → n < length xs → At ys n t → At xs n t
front_at xs ys n t (rest, e) lt at = at_front xs rest n t lt (subst (λ zs. At zs n t) e at)

-- ---- the number of a term
pub place_at : (terms : List Term) (t : Term) (k : ℕ) → place terms t ≡ Some k → At terms k t
place_at [] t k e = cc
place_at (u ∷ us) t k e = go (same t u) refl e (place_at us t)
  where
    later : (o : Option ℕ) → ((j : ℕ) → o ≡ Some j → At us j t) → option_map suc o ≡ Some k → At (u ∷ us) k t
    later None f e = cc
    later (Some j) f e = let is : suc j ≡ k = same_Some _ _ e in subst (λ x. At (u ∷ us) x t) is (f j refl)

    go : (b : Bool) → same t u ≡ b → (if b then Some 0 else option_map suc (place us t)) ≡ Some k → ((j : ℕ) → place us t ≡ Some j → At us j t) → At (u ∷ us) k t
    go true f e h = let is : 0 ≡ k = same_Some _ _ e in subst (λ x. At (u ∷ us) x t) is (ap Some (sym (term_is t u f)))
    go false f e h = later (place us t) h e

pub placed : (terms : List Term) (t : Term) → Contains terms t → (k : ℕ) × (place terms t ≡ Some k)
placed [] t (n, e) = cc
placed (u ∷ us) t (zero, e) = (0, ap (λ b. if b then Some 0 else option_map suc (place us t)) (ap (same t) (same_Some _ _ e) ∙ term_same t))
placed (u ∷ us) t (suc n, e) = go (same t u) refl (placed us t (n, e))
  where
    go : (b : Bool) → same t u ≡ b → (k : ℕ) × (place us t ≡ Some k) → (k : ℕ) × ((if same t u then Some 0 else option_map suc (place us t)) ≡ Some k)
    go true f h = (0, ap (λ b. if b then Some 0 else option_map suc (place us t)) f)
    go false f h = (suc h.0, ap (λ b. if b then Some 0 else option_map suc (place us t)) f ∙ ap (option_map suc) h.1)

pub no_place : (terms : List Term) (t : Term) → place terms t ≡ None → Contains terms t → ⊥
no_place terms t e h = let k = placed terms t h in let f : None ≡ Some k.0 = sym e ∙ k.1 in cc
