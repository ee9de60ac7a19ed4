-- What the constructors build of well-sorted and settled terms is so again.
use Rattle.std.proofs.Common.{◌≡◌, ℕ, ◌≤◌, Bool, true, false, cond, pos, negsuc, zero, suc, Option, Some, None, refl, sym, subst}
use Rattle.std.specs.Prelude.{◌+ℤ◌, ◌-ℤ◌, ◌*ℤ◌}
use Rattle.vx_frac.specs.Fractions.{lowest, sum, difference, product, sum_fits, difference_fits, product_fits}
use Rattle.vx_terms.specs.Sorts.{Sort, IntSort, BoolSort, Less, LessEqual, Add, Subtract, Multiply, Takes}
use Rattle.vx_terms.specs.Terms.{Term, Truth, Number, Part, Constant, Apply, Not, Binary, Ite, AllOf, SomeOf, same}
use Rattle.vx_terms.specs.Build.{truth_of, Literals, Numbers, Parts, Truths, Neither, literals_of, fits, folds, negate, and_by, and, or_by, or, implies_by, implies, equals_by, equals, ite_by, ite, less_by, less, at_most_by, less_equal, is_zero, is_one, add_by, add, subtract_by, subtract, multiply_by, multiply, div_by, div, mod_by, modulo}
use Rattle.vx_terms.specs.Interpretations.{as_bool, Interpretation, value}
use Rattle.vx_terms.specs.Formed.{Formed}
use Rattle.vx_terms.proofs.Same.{term_is}
use Rattle.vx_terms.proofs.Values.{formed_le}
use Rattle.vx_terms.proofs.Build.{truth_value, negate_formed, and_formed, or_formed, implies_formed, equals_formed, ite_formed, less_formed, less_equal_formed, add_formed, subtract_formed, multiply_formed, div_formed, modulo_formed}
use Rattle.vx_elements.proofs.Settled.{Meaning, Settles, Extends, settles_later}

module _ (means : Meaning) where
  -- the term is well-sorted, its symbols are below n, and its entries are settled
  pub record Good (n : ℕ) (i : Interpretation) (t : Term) (a : Sort) : Type 0 where
    pub formed : Formed n t a
    pub settled : Settles means n i t

  pub good_later : {m n : ℕ} {i j : Interpretation} {t : Term} {a : Sort} → m ≤ n → Extends means m i j → Good m i t a → Good n j t a
  good_later {t = t} le x g = record { formed = formed_le le g.formed; settled = settles_later means t le x g.settled }

  module _ (n : ℕ) (i : Interpretation) where
    abbrev pub Settled : Term → Type 0
    Settled t = Settles means n i t

    either : (b : Bool) (s t : Term) → Settled s → Settled t → Settled (cond b s t)
    either true s t f g = f
    either false s t f g = g

    negate_settled : (t : Term) → Settled t → Settled (negate t)
    negate_settled (Truth b) s = tt
    negate_settled (Number z) s = tt
    negate_settled (Part a) s = tt
    negate_settled (Constant f a) s = s
    negate_settled (Apply f a ts) s = s
    negate_settled (Not t) s = s
    negate_settled (Binary o t u) s = s
    negate_settled (Ite c t u) s = s
    negate_settled (AllOf ts) s = s
    negate_settled (SomeOf ts) s = s

    pub and_settled : (s t : Term) → Settled s → (as_bool (value i s) ≡ true → Settled t) → Settled (and s t)
    and_settled s t f g = go (truth_of s) (truth_of t) refl
      where
        on_left : (b : Bool) → as_bool (value i s) ≡ b → Settled (cond b t (Truth false))
        on_left true e = g e
        on_left false e = tt

        go : (x y : Option Bool) → truth_of s ≡ x → Settled (and_by x y s t)
        go (Some b) y e = on_left b (truth_value i s b e)
        go None (Some b) e = either b s (Truth false) f tt
        go None None e = (f, g)

    or_settled : (s t : Term) → Settled s → (as_bool (value i s) ≡ false → Settled t) → Settled (or s t)
    or_settled s t f g = go (truth_of s) (truth_of t) refl
      where
        on_left : (b : Bool) → as_bool (value i s) ≡ b → Settled (cond b (Truth true) t)
        on_left true e = tt
        on_left false e = g e

        go : (x y : Option Bool) → truth_of s ≡ x → Settled (or_by x y s t)
        go (Some b) y e = on_left b (truth_value i s b e)
        go None (Some b) e = either b (Truth true) s tt f
        go None None e = (f, g)

    pub implies_settled : (s t : Term) → Settled s → (as_bool (value i s) ≡ true → Settled t) → Settled (implies s t)
    implies_settled s t f g = go (truth_of s) (truth_of t) refl
      where
        on_left : (b : Bool) → as_bool (value i s) ≡ b → Settled (cond b t (Truth true))
        on_left true e = g e
        on_left false e = tt

        go : (x y : Option Bool) → truth_of s ≡ x → Settled (implies_by x y s t)
        go (Some b) y e = on_left b (truth_value i s b e)
        go None (Some b) e = either b (Truth true) (negate s) tt (negate_settled s f)
        go None None e = (f, g)

    pub equals_settled : (s t : Term) → Settled s → Settled t → Settled (equals s t)
    equals_settled s t f g = either (same s t) (Truth true) _ tt (go (literals_of s t))
      where
        go : (l : Literals) → Settled (equals_by l s t)
        go (Numbers m k) = tt
        go (Parts x y) = tt
        go (Truths x y) = tt
        go Neither = (f, λ h. g)

    ite_settled : (c s t : Term) → Settled c → (as_bool (value i c) ≡ true → Settled s) → (as_bool (value i c) ≡ false → Settled t) → Settled (ite c s t)
    ite_settled c s t f g h = go (truth_of c) refl
      where
        on_truth : (b : Bool) → as_bool (value i c) ≡ b → Settled (cond b s t)
        on_truth true e = g e
        on_truth false e = h e

        left_is : (b : Bool) → as_bool (value i c) ≡ b → same s t ≡ true → Settled s
        left_is true e k = g e
        left_is false e k = subst Settled (sym (term_is s t k)) (h e)

        on_same : (b : Bool) → same s t ≡ b → Settled (cond b s (Ite c s t))
        on_same true e = left_is (as_bool (value i c)) refl e
        on_same false e = (f, g, h)

        go : (x : Option Bool) → truth_of c ≡ x → Settled (ite_by x c s t)
        go (Some b) e = on_truth b (truth_value i c b e)
        go None e = on_same (same s t) refl

    less_settled : (s t : Term) → Settled s → Settled t → Settled (less s t)
    less_settled s t f g = either (same s t) (Truth false) _ tt (go (literals_of s t))
      where
        go : (l : Literals) → Settled (less_by l s t)
        go (Numbers m k) = tt
        go (Parts x y) = tt
        go (Truths x y) = (f, λ h. g)
        go Neither = (f, λ h. g)

    less_equal_settled : (s t : Term) → Settled s → Settled t → Settled (less_equal s t)
    less_equal_settled s t f g = either (same s t) (Truth true) _ tt (go (literals_of s t))
      where
        go : (l : Literals) → Settled (at_most_by l s t)
        go (Numbers m k) = tt
        go (Parts x y) = tt
        go (Truths x y) = (f, λ h. g)
        go Neither = (f, λ h. g)

    add_settled : (s t : Term) → Settled s → Settled t → Settled (add s t)
    add_settled s t f g = either (is_zero t) s _ f (either (is_zero s) t _ g (go (literals_of s t)))
      where
        go : (l : Literals) → Settled (add_by l s t)
        go (Numbers m k) = either (fits (m +ℤ k)) (Number (m +ℤ k)) (Binary Add s t) tt (f, λ h. g)
        go (Parts x y) = either (folds (sum_fits x y) (lowest (sum x y))) (Part (lowest (sum x y))) (Binary Add s t) tt (f, λ h. g)
        go (Truths x y) = (f, λ h. g)
        go Neither = (f, λ h. g)

    subtract_settled : (s t : Term) → Settled s → Settled t → Settled (subtract s t)
    subtract_settled s t f g = either (is_zero t) s _ f (go (literals_of s t))
      where
        go : (l : Literals) → Settled (subtract_by l s t)
        go (Numbers m k) = either (fits (m -ℤ k)) (Number (m -ℤ k)) (Binary Subtract s t) tt (f, λ h. g)
        go (Parts x y) = either (folds (difference_fits x y) (lowest (difference x y))) (Part (lowest (difference x y))) (Binary Subtract s t) tt (f, λ h. g)
        go (Truths x y) = (f, λ h. g)
        go Neither = (f, λ h. g)

    multiply_settled : (s t : Term) → Settled s → Settled t → Settled (multiply s t)
    multiply_settled s t f g =
        either (is_one t) s _ f (either (is_one s) t _ g (either (is_zero t) t _ g (either (is_zero s) s _ f (go (literals_of s t)))))
      where
        go : (l : Literals) → Settled (multiply_by l s t)
        go (Numbers m k) = either (fits (m *ℤ k)) (Number (m *ℤ k)) (Binary Multiply s t) tt (f, λ h. g)
        go (Parts x y) = either (folds (product_fits x y) (lowest (product x y))) (Part (lowest (product x y))) (Binary Multiply s t) tt (f, λ h. g)
        go (Truths x y) = (f, λ h. g)
        go Neither = (f, λ h. g)

    div_settled : (s t : Term) → Settled s → Settled t → Settled (div s t)
    div_settled s t f g = go (literals_of s t)
      where
        go : (l : Literals) → Settled (div_by l s t)
        go (Numbers m (pos zero)) = (f, λ h. g)
        go (Numbers m (pos (suc k))) = tt
        go (Numbers m (negsuc k)) = tt
        go (Parts x y) = (f, λ h. g)
        go (Truths x y) = (f, λ h. g)
        go Neither = (f, λ h. g)

    modulo_settled : (s t : Term) → Settled s → Settled t → Settled (modulo s t)
    modulo_settled s t f g = go (literals_of s t)
      where
        go : (l : Literals) → Settled (mod_by l s t)
        go (Numbers m (pos zero)) = (f, λ h. g)
        go (Numbers m (pos (suc k))) = tt
        go (Numbers m (negsuc k)) = tt
        go (Parts x y) = (f, λ h. g)
        go (Truths x y) = (f, λ h. g)
        go Neither = (f, λ h. g)

  module _ {n : ℕ} {i : Interpretation} where
    pub good_negate : {t : Term} → Good n i t BoolSort → Good n i (negate t) BoolSort
    good_negate {t = t} f = record { formed = negate_formed f.formed; settled = negate_settled n i t f.settled }

    pub good_and : {s t : Term} → Good n i s BoolSort → Good n i t BoolSort → Good n i (and s t) BoolSort
    good_and {s = s} {t = t} f g = record { formed = and_formed f.formed g.formed; settled = and_settled n i s t f.settled (λ h. g.settled) }

    pub good_or : {s t : Term} → Good n i s BoolSort → Good n i t BoolSort → Good n i (or s t) BoolSort
    good_or {s = s} {t = t} f g = record { formed = or_formed f.formed g.formed; settled = or_settled n i s t f.settled (λ h. g.settled) }

    pub good_implies : {s t : Term} → Good n i s BoolSort → Good n i t BoolSort → Good n i (implies s t) BoolSort
    good_implies {s = s} {t = t} f g = record { formed = implies_formed f.formed g.formed; settled = implies_settled n i s t f.settled (λ h. g.settled) }

    -- a side that counts only under the other
    pub good_implies_under : {s t : Term} → Good n i s BoolSort → Formed n t BoolSort → (as_bool (value i s) ≡ true → Settles means n i t) → Good n i (implies s t) BoolSort
    good_implies_under {s = s} {t = t} f g h = record { formed = implies_formed f.formed g; settled = implies_settled n i s t f.settled h }

    pub good_equals : {s t : Term} {a : Sort} → Good n i s a → Good n i t a → Good n i (equals s t) BoolSort
    good_equals {s = s} {t = t} f g = record { formed = equals_formed f.formed g.formed; settled = equals_settled n i s t f.settled g.settled }

    pub good_ite : {c s t : Term} {a : Sort} → Good n i c BoolSort → Good n i s a → Good n i t a → Good n i (ite c s t) a
    good_ite {c = c} {s = s} {t = t} f g h = record { formed = ite_formed f.formed g.formed h.formed; settled = ite_settled n i c s t f.settled (λ e. g.settled) (λ e. h.settled) }

    pub good_less : {s t : Term} {a : Sort} → Takes Less a → Good n i s a → Good n i t a → Good n i (less s t) BoolSort
    good_less {s = s} {t = t} k f g = record { formed = less_formed k f.formed g.formed; settled = less_settled n i s t f.settled g.settled }

    pub good_less_equal : {s t : Term} {a : Sort} → Takes LessEqual a → Good n i s a → Good n i t a → Good n i (less_equal s t) BoolSort
    good_less_equal {s = s} {t = t} k f g = record { formed = less_equal_formed k f.formed g.formed; settled = less_equal_settled n i s t f.settled g.settled }

    pub good_add : {s t : Term} {a : Sort} → Takes Add a → Good n i s a → Good n i t a → Good n i (add s t) a
    good_add {s = s} {t = t} k f g = record { formed = add_formed k f.formed g.formed; settled = add_settled n i s t f.settled g.settled }

    pub good_subtract : {s t : Term} {a : Sort} → Takes Subtract a → Good n i s a → Good n i t a → Good n i (subtract s t) a
    good_subtract {s = s} {t = t} k f g = record { formed = subtract_formed k f.formed g.formed; settled = subtract_settled n i s t f.settled g.settled }

    pub good_multiply : {s t : Term} {a : Sort} → Takes Multiply a → Good n i s a → Good n i t a → Good n i (multiply s t) a
    good_multiply {s = s} {t = t} k f g = record { formed = multiply_formed k f.formed g.formed; settled = multiply_settled n i s t f.settled g.settled }

    pub good_div : {s t : Term} → Good n i s IntSort → Good n i t IntSort → Good n i (div s t) IntSort
    good_div {s = s} {t = t} f g = record { formed = div_formed f.formed g.formed; settled = div_settled n i s t f.settled g.settled }

    pub good_modulo : {s t : Term} → Good n i s IntSort → Good n i t IntSort → Good n i (modulo s t) IntSort
    good_modulo {s = s} {t = t} f g = record { formed = modulo_formed f.formed g.formed; settled = modulo_settled n i s t f.settled g.settled }
