-- When the terms that the rules build are true, and what amounts they have.
use Rattle.std.proofs.Common.{◌≡◌, ℕ, Bool, true, false, not, cond, inr, refl, sym, ◌∙◌, ap, ap₂, subst, true≢false, eqb-true}
use Rattle.std.proofs.lemmas.Bool.{and_parts}
use Rattle.vx_frac.specs.Fractions.{none, full, at_most, is_below, sum, difference, product, lowest}
use Rattle.vx_terms.specs.Sorts.{BoolSort, RealSort, RefSort, Standard, Add, Subtract, Multiply, Less, LessEqual}
use Rattle.vx_terms.specs.Terms.{Term}
use Rattle.vx_terms.specs.Build.{negate, and, implies, equals, less, less_equal, add, subtract, multiply, null, zero_amount, whole_amount}
use Rattle.vx_terms.specs.Interpretations.{Tree, Empty, IntLeaf, BoolLeaf, RefLeaf, PermLeaf, Pair, Element, IntElement, BoolElement, RealElement, TreeElement, as_bool, as_fraction, same_tree, same_element, Interpretation, operate, value, IsTrueIn}
use Rattle.vx_terms.specs.Formed.{part, constant}
use Rattle.vx_terms.proofs.Same.{int_is, bool_is, fraction_is}
use Rattle.vx_terms.proofs.Values.{real_element, value_of_sort, element_same}
use Rattle.vx_terms.proofs.Build.{negate_value, and_value, implies_value, equals_value, less_value, less_equal_value, add_value, subtract_value, multiply_value}
use Rattle.vx_elements.proofs.Settled.{Meaning}
use Rattle.vx_elements.proofs.Built.{Good, good_less, good_less_equal, good_add, good_subtract, good_multiply}
use Rattle.vx_amounts.proofs.Amounts.{Le, Positive, Same, same-lowest'}

-- Elements that are found the same are one.

tree_is : (s t : Tree) → same_tree s t ≡ true → s ≡ t
tree_is Empty Empty e = refl
tree_is (IntLeaf m) (IntLeaf n) e = ap IntLeaf (int_is m n e)
tree_is (BoolLeaf a) (BoolLeaf b) e = ap BoolLeaf (bool_is a b e)
tree_is (RefLeaf m) (RefLeaf n) e = ap RefLeaf (eqb-true m n e)
tree_is (PermLeaf a) (PermLeaf b) e = ap PermLeaf (fraction_is a b e)
tree_is (Pair s t) (Pair u v) e = let p = and_parts _ _ e in ap₂ Pair (tree_is s u p.0) (tree_is t v p.1)
tree_is s t e = absurd (true≢false (sym e))

pub element_equal : (d e : Element) → same_element d e ≡ true → d ≡ e
element_equal (IntElement m) (IntElement n) h = ap IntElement (int_is m n h)
element_equal (BoolElement a) (BoolElement b) h = ap BoolElement (bool_is a b h)
element_equal (RealElement a) (RealElement b) h = ap RealElement (fraction_is a b h)
element_equal (TreeElement s) (TreeElement t) h = ap TreeElement (tree_is s t h)
element_equal d e h = absurd (true≢false (sym h))

pub equal_is : (i : Interpretation) (s t : Term) → IsTrueIn i (equals s t) → value i s ≡ value i t
equal_is i s t h = element_equal _ _ (sym (ap as_bool (equals_value i s t)) ∙ h)

pub is_equal : (i : Interpretation) (s t : Term) → value i s ≡ value i t → IsTrueIn i (equals s t)
is_equal i s t e = ap as_bool (equals_value i s t) ∙ subst (λ x. same_element (value i s) x ≡ true) e (element_same (value i s))

cond_and : (a b : Bool) → cond a b false ≡ true → (a ≡ true) × (b ≡ true)
cond_and true b e = (refl, e)
cond_and false b e = absurd (true≢false (sym e))

cond_implies : (a b : Bool) → (a ≡ true → b ≡ true) → cond a b true ≡ true
cond_implies true b h = h refl
cond_implies false b h = refl

not_if : (b : Bool) → (b ≡ true → ⊥) → not b ≡ true
not_if true h = absurd (h refl)
not_if false h = refl

module _ (means : Meaning) where
  module _ {n : ℕ} {i : Interpretation} where
    pub both_true : {s t : Term} → Good means n i s BoolSort → Good means n i t BoolSort → IsTrueIn i (and s t) → IsTrueIn i s × IsTrueIn i t
    both_true f g h = cond_and _ _ (sym (ap as_bool (and_value i f.formed g.formed)) ∙ h)

    pub if_true : {s t : Term} → Good means n i s BoolSort → Good means n i t BoolSort → (IsTrueIn i s → IsTrueIn i t) → IsTrueIn i (implies s t)
    if_true f g h = ap as_bool (implies_value i f.formed g.formed) ∙ cond_implies _ _ h

    pub denied : {t : Term} → Good means n i t BoolSort → (IsTrueIn i t → ⊥) → IsTrueIn i (negate t)
    denied f h = ap as_bool (negate_value i f.formed) ∙ not_if _ h

    pub part_is : {t : Term} → Good means n i t RealSort → value i t ≡ RealElement (as_fraction (value i t))
    part_is f = (real_element _ (value_of_sort i f.formed)).0

    pub part_lowest : {t : Term} → Good means n i t RealSort → lowest (as_fraction (value i t)) ≡ as_fraction (value i t)
    part_lowest f = (real_element _ (value_of_sort i f.formed)).1

    pub less_equal_is : {s : Term} (t : Term) → Good means n i s RealSort → as_bool (value i (less_equal s t)) ≡ at_most (as_fraction (value i s)) (as_fraction (value i t))
    less_equal_is {s = s} t f = ap as_bool (less_equal_value i s t) ∙ ap (λ d. as_bool (operate i LessEqual d (value i t))) (part_is f)

    pub less_is : {s : Term} (t : Term) → Good means n i s RealSort → as_bool (value i (less s t)) ≡ is_below (as_fraction (value i s)) (as_fraction (value i t))
    less_is {s = s} t f = ap as_bool (less_value i s t) ∙ ap (λ d. as_bool (operate i Less d (value i t))) (part_is f)

    pub true_le : {s : Term} (t : Term) → Good means n i s RealSort → IsTrueIn i (less_equal s t) → Le (as_fraction (value i s)) (as_fraction (value i t))
    true_le t f h = record { holds = sym (less_equal_is t f) ∙ h }

    pub le_true : {s : Term} (t : Term) → Good means n i s RealSort → Le (as_fraction (value i s)) (as_fraction (value i t)) → IsTrueIn i (less_equal s t)
    le_true t f h = less_equal_is t f ∙ h.holds

    pub good_zero : Good means n i zero_amount RealSort
    unfolding lowest
    good_zero = record { formed = part none refl; settled = tt }

    pub good_whole : Good means n i whole_amount RealSort
    unfolding lowest
    good_whole = record { formed = part full refl; settled = tt }

    pub good_null : Good means n i null RefSort
    good_null = record { formed = constant (Standard 0) RefSort tt; settled = tt }

    pub true_positive : {t : Term} → Good means n i t RealSort → IsTrueIn i (less zero_amount t) → Positive (as_fraction (value i t))
    true_positive {t = t} g h = let z : Good means n i zero_amount RealSort = good_zero in record { holds = sym (less_is t z) ∙ h }

    pub positive_true : {t : Term} → Good means n i t RealSort → Positive (as_fraction (value i t)) → IsTrueIn i (less zero_amount t)
    positive_true {t = t} g h = let z : Good means n i zero_amount RealSort = good_zero in less_is t z ∙ h.holds

    pub good_positive : {t : Term} → Good means n i t RealSort → Good means n i (less zero_amount t) BoolSort
    good_positive f = good_less means (inr refl) good_zero f

    pub good_at_most : {s t : Term} → Good means n i s RealSort → Good means n i t RealSort → Good means n i (less_equal s t) BoolSort
    good_at_most f g = good_less_equal means (inr refl) f g

    pub add_is : {s t : Term} → Good means n i s RealSort → Good means n i t RealSort → Same (as_fraction (value i (add s t))) (sum (as_fraction (value i s)) (as_fraction (value i t)))
    add_is {s = s} {t = t} f g =
        subst (λ x. Same x (sum (as_fraction (value i s)) (as_fraction (value i t)))) (sym (ap as_fraction (add_value i f.formed g.formed) ∙ ap (λ d. as_fraction (operate i Add d (value i t))) (part_is f))) (same-lowest' _)

    pub subtract_is : {s t : Term} → Good means n i s RealSort → Good means n i t RealSort → Same (as_fraction (value i (subtract s t))) (difference (as_fraction (value i s)) (as_fraction (value i t)))
    subtract_is {s = s} {t = t} f g =
        subst (λ x. Same x (difference (as_fraction (value i s)) (as_fraction (value i t)))) (sym (ap as_fraction (subtract_value i f.formed g.formed) ∙ ap (λ d. as_fraction (operate i Subtract d (value i t))) (part_is f))) (same-lowest' _)

    pub multiply_is : {s t : Term} → Good means n i s RealSort → Good means n i t RealSort → Same (as_fraction (value i (multiply s t))) (product (as_fraction (value i s)) (as_fraction (value i t)))
    multiply_is {s = s} {t = t} f g =
        subst (λ x. Same x (product (as_fraction (value i s)) (as_fraction (value i t)))) (sym (ap as_fraction (multiply_value i f.formed g.formed) ∙ ap (λ d. as_fraction (operate i Multiply d (value i t))) (part_is f))) (same-lowest' _)

    pub good_sum : {s t : Term} → Good means n i s RealSort → Good means n i t RealSort → Good means n i (add s t) RealSort
    good_sum f g = good_add means (inr refl) f g

    pub good_difference : {s t : Term} → Good means n i s RealSort → Good means n i t RealSort → Good means n i (subtract s t) RealSort
    good_difference f g = good_subtract means (inr refl) f g

    pub good_product : {s t : Term} → Good means n i s RealSort → Good means n i t RealSort → Good means n i (multiply s t) RealSort
    good_product f g = good_multiply means (inr refl) f g
