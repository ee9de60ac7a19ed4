-- Terms that are added one after another are the first occurrences of each.
use Rattle.std.proofs.Common.{◌≡◌, Bool, true, false, ◌||◌, cond, List, [], ◌∷◌, ◌++◌, refl, sym, ◌∙◌, ap, append_assoc, append-nil}
use Rattle.std.specs.Prelude.{if◌then◌else◌}
use Rattle.vx_terms.specs.Terms.{Term, same}
use Rattle.vx_terms.proofs.Same.{term_is}
use Rattle.cs_certificate.specs.Terms.{without, distinct}
use Rattle.cs_numbers.specs.Numbering.{has, with_one, added}
use Rattle.cs_numbers.proofs.Itself.{term_same}

pub added_append : (terms xs ys : List Term) → added terms (xs ++ ys) ≡ added (added terms xs) ys
added_append terms [] ys = refl
added_append terms (x ∷ xs) ys = added_append (with_one terms x) xs ys

-- what is left without some terms
minus : List Term → List Term → List Term
minus [] ys = ys
minus (a ∷ as') ys = minus as' (without a ys)

same_turned : (t u : Term) → same t u ≡ false → same u t ≡ false
same_turned t u e = go (same u t) refl
  where
    go : (b : Bool) → same u t ≡ b → b ≡ false
    go true f = absurd (let g : same t u ≡ true = ap (same t) (term_is u t f) ∙ term_same t in let h : true ≡ false = sym g ∙ e in cc)
    go false f = refl

without_comm : (a b : Term) (ys : List Term) → without a (without b ys) ≡ without b (without a ys)
without_comm a b [] = refl
without_comm a b (y ∷ ys) = go (same a y) (same b y) refl refl (without_comm a b ys)
  where
    go : (p q : Bool) → same a y ≡ p → same b y ≡ q → without a (without b ys) ≡ without b (without a ys) →
        without a (cond (same b y) (without b ys) (y ∷ without b ys)) ≡ without b (cond (same a y) (without a ys) (y ∷ without a ys))
    go true true e f h =
        ap (λ c. without a (cond c (without b ys) (y ∷ without b ys))) f ∙ h ∙ sym (ap (λ c. without b (cond c (without a ys) (y ∷ without a ys))) e)
    go true false e f h =
        ap (λ c. without a (cond c (without b ys) (y ∷ without b ys))) f ∙ ap (λ c. cond c (without a (without b ys)) (y ∷ without a (without b ys))) e ∙ h
        ∙ sym (ap (λ c. without b (cond c (without a ys) (y ∷ without a ys))) e)
    go false true e f h =
        ap (λ c. without a (cond c (without b ys) (y ∷ without b ys))) f ∙ h
        ∙ sym (ap (λ c. cond c (without b (without a ys)) (y ∷ without b (without a ys))) f)
        ∙ sym (ap (λ c. without b (cond c (without a ys) (y ∷ without a ys))) e)
    go false false e f h =
        ap (λ c. without a (cond c (without b ys) (y ∷ without b ys))) f ∙ ap (λ c. cond c (without a (without b ys)) (y ∷ without a (without b ys))) e
        ∙ ap (λ zs. y ∷ zs) h
        ∙ sym (ap (λ c. cond c (without b (without a ys)) (y ∷ without b (without a ys))) f)
        ∙ sym (ap (λ c. without b (cond c (without a ys) (y ∷ without a ys))) e)

without_twice : (a : Term) (ys : List Term) → without a (without a ys) ≡ without a ys
without_twice a [] = refl
without_twice a (y ∷ ys) = go (same a y) refl (without_twice a ys)
  where
    go : (p : Bool) → same a y ≡ p → without a (without a ys) ≡ without a ys → without a (cond (same a y) (without a ys) (y ∷ without a ys)) ≡ cond (same a y) (without a ys) (y ∷ without a ys)
    go true e h = ap (λ c. without a (cond c (without a ys) (y ∷ without a ys))) e ∙ h ∙ sym (ap (λ c. cond c (without a ys) (y ∷ without a ys)) e)
    go false e h =
        ap (λ c. without a (cond c (without a ys) (y ∷ without a ys))) e ∙ ap (λ c. cond c (without a (without a ys)) (y ∷ without a (without a ys))) e
        ∙ ap (λ zs. y ∷ zs) h ∙ sym (ap (λ c. cond c (without a ys) (y ∷ without a ys)) e)

minus_without : (acc : List Term) (x : Term) (ys : List Term) → minus acc (without x ys) ≡ without x (minus acc ys)
unfolding minus
minus_without [] x ys = refl
minus_without (a ∷ as') x ys = ap (minus as') (without_comm a x ys) ∙ minus_without as' x (without a ys)

minus_none : (acc : List Term) → minus acc [] ≡ []
unfolding minus
minus_none [] = refl
minus_none (a ∷ as') = minus_none as'

minus_end : (acc : List Term) (x : Term) (ys : List Term) → minus (acc ++ x ∷ []) ys ≡ without x (minus acc ys)
unfolding minus
minus_end [] x ys = refl
minus_end (a ∷ as') x ys = minus_end as' x (without a ys)

minus_in : (acc : List Term) (x : Term) (ys : List Term) → has acc x ≡ true → minus acc (x ∷ without x ys) ≡ minus acc ys
unfolding minus
minus_in [] x ys h = cc
minus_in (a ∷ as') x ys h = go (same x a) refl h (minus_in as' x (without a ys))
  where
    go : (p : Bool) → same x a ≡ p → (p || has as' x) ≡ true → (has as' x ≡ true → minus as' (x ∷ without x (without a ys)) ≡ minus as' (without a ys)) → minus as' (without a (x ∷ without x ys)) ≡ minus as' (without a ys)
    go true e f k =
        let is : x ≡ a = term_is x a e in
        let gone : same a x ≡ true = ap (same a) is ∙ term_same a in
        ap (λ c. minus as' (cond c (without a (without x ys)) (x ∷ without a (without x ys)))) gone
        ∙ ap (λ z. minus as' (without a (without z ys))) is ∙ ap (minus as') (without_twice a ys)
    go false e f k =
        let stays : same a x ≡ false = same_turned x a e in
        ap (λ c. minus as' (cond c (without a (without x ys)) (x ∷ without a (without x ys)))) stays
        ∙ ap (λ zs. minus as' (x ∷ zs)) (without_comm a x ys) ∙ k f

minus_out : (acc : List Term) (x : Term) (ys : List Term) → has acc x ≡ false → minus acc (x ∷ ys) ≡ x ∷ minus acc ys
unfolding minus
minus_out [] x ys h = refl
minus_out (a ∷ as') x ys h = go (same x a) refl h (minus_out as' x (without a ys))
  where
    go : (p : Bool) → same x a ≡ p → (p || has as' x) ≡ false → (has as' x ≡ false → minus as' (x ∷ without a ys) ≡ x ∷ minus as' (without a ys)) → minus as' (without a (x ∷ ys)) ≡ x ∷ minus as' (without a ys)
    go true e f k = cc
    go false e f k = ap (λ c. minus as' (cond c (without a ys) (x ∷ without a ys))) (same_turned x a e) ∙ k f

added_is : (acc xs : List Term) → added acc xs ≡ acc ++ minus acc (distinct xs)
added_is acc [] = sym (ap (λ zs. acc ++ zs) (minus_none acc) ∙ append-nil acc)
added_is acc (x ∷ xs) = go (has acc x) refl (added_is acc xs) (added_is (acc ++ x ∷ []) xs)
  where
    go : (p : Bool) → has acc x ≡ p → added acc xs ≡ acc ++ minus acc (distinct xs) → added (acc ++ x ∷ []) xs ≡ (acc ++ x ∷ []) ++ minus (acc ++ x ∷ []) (distinct xs) →
        added (if has acc x then acc else acc ++ x ∷ []) xs ≡ acc ++ minus acc (x ∷ without x (distinct xs))
    go true e h k = ap (λ c. added (if c then acc else acc ++ x ∷ []) xs) e ∙ h ∙ ap (λ zs. acc ++ zs) (sym (minus_in acc x (distinct xs) e))
    go false e h k =
        ap (λ c. added (if c then acc else acc ++ x ∷ []) xs) e ∙ k
        ∙ append_assoc acc (x ∷ []) (minus (acc ++ x ∷ []) (distinct xs))
        ∙ ap (λ zs. acc ++ x ∷ zs) (minus_end acc x (distinct xs) ∙ sym (minus_without acc x (distinct xs)))
        ∙ ap (λ zs. acc ++ zs) (sym (minus_out acc x (without x (distinct xs)) e))

-- from none on
pub added_distinct : (xs : List Term) → added [] xs ≡ distinct xs
unfolding minus
added_distinct xs = added_is [] xs

-- and behind terms that are all different
pub added_more : (acc xs : List Term) → distinct acc ≡ acc → added acc xs ≡ distinct (acc ++ xs)
added_more acc xs e = ap (λ zs. added zs xs) (sym (added_distinct acc ∙ e)) ∙ sym (added_append [] acc xs) ∙ added_distinct (acc ++ xs)
