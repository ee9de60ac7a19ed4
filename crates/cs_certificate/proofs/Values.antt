-- Values of terms: by their heads, of their sorts, and as numbers.
use Rattle.std.proofs.Common.{◌≡◌, ◌⊎◌, inl, inr, ℤ, pos, Bool, true, false, not, cond, List, [], ◌∷◌, map, refl, sym, ◌∙◌, ap, ap₂, subst, eqb-true}
use Rattle.std.specs.Prelude.{int_lt, int_le}
use Rattle.std.proofs.lemmas.Bool.{and_parts}
use Rattle.vx_frac.specs.Fractions.{Fraction, whole, lowest, is_below, at_most}
use Rattle.vx_terms.specs.Sorts.{Sort, IntSort, BoolSort, RealSort}
use Rattle.vx_terms.specs.Terms.{Term, Truth, Number, Part, Constant, Apply, Not, Binary, Ite, AllOf, SomeOf, Terms, NoTerms, MoreTerms}
use Rattle.vx_terms.specs.Interpretations.{Tree, Empty, IntLeaf, BoolLeaf, RefLeaf, PermLeaf, Pair, Element, IntElement, BoolElement, RealElement, TreeElement, as_bool, as_int, as_fraction, as_sort, same_tree, same_element, Interpretation, on_numbers, operate, all_true, some_true, value, values}
use Rattle.vx_terms.proofs.Same.{int_is, bool_is, fraction_is}
use Rattle.vx_terms.proofs.Values.{bool_value, int_value, real_element, value_of_sort, element_same}
use Rattle.cs_certificate.specs.Terms.{Head, TruthHead, NumberHead, PartHead, ConstantHead, ApplyHead, BinaryHead, NotHead, IteHead, AllHead, SomeHead, head, items, parts, HasSort}

-- equal elements are one and the same
tree_is : (s t : Tree) → same_tree s t ≡ true → s ≡ t
tree_is Empty Empty e = refl
tree_is (IntLeaf m) (IntLeaf n) e = ap IntLeaf (int_is m n e)
tree_is (BoolLeaf a) (BoolLeaf b) e = ap BoolLeaf (bool_is a b e)
tree_is (RefLeaf m) (RefLeaf n) e = ap RefLeaf (eqb-true m n e)
tree_is (PermLeaf a) (PermLeaf b) e = ap PermLeaf (fraction_is a b e)
tree_is (Pair s t) (Pair u v) e = let p = and_parts _ _ e in ap₂ Pair (tree_is s u p.0) (tree_is t v p.1)
tree_is _ _ e = cc

pub element_is : (d e : Element) → same_element d e ≡ true → d ≡ e
element_is (IntElement m) (IntElement n) e = ap IntElement (int_is m n e)
element_is (BoolElement a) (BoolElement b) e = ap BoolElement (bool_is a b e)
element_is (RealElement a) (RealElement b) e = ap RealElement (fraction_is a b e)
element_is (TreeElement s) (TreeElement t) e = ap TreeElement (tree_is s t e)
element_is _ _ e = cc

pub is_element : (d e : Element) → d ≡ e → same_element d e ≡ true
is_element d e h = subst (λ x. same_element d x ≡ true) h (element_same d)

-- what a head makes of the values of its parts
abbrev pub first : List Element → Element
first [] = BoolElement false
first (e ∷ es) = e

abbrev pub later : List Element → List Element
later [] = []
later (e ∷ es) = es

pub by_head : Interpretation → Head → List Element → Element
by_head i (TruthHead b) es = BoolElement b
by_head i (NumberHead z) es = IntElement z
by_head i (PartHead a) es = RealElement a
by_head i (ConstantHead f a) es = as_sort a (i.functions f a es)
by_head i (ApplyHead f a) es = as_sort a (i.functions f a es)
by_head i (BinaryHead o) es = operate i o (first es) (first (later es))
by_head i NotHead es = BoolElement (not (as_bool (first es)))
by_head i IteHead es = cond (as_bool (first es)) (first (later es)) (first (later (later es)))
by_head i AllHead es = BoolElement (all_true es)
by_head i SomeHead es = BoolElement (some_true es)

pub values_are : (i : Interpretation) (ts : Terms) → values i ts ≡ map (value i) (items ts)
values_are i NoTerms = refl
values_are i (MoreTerms t ts) = ap (λ es. value i t ∷ es) (values_are i ts)

pub value_is : (i : Interpretation) (t : Term) → value i t ≡ by_head i (head t) (map (value i) (parts t))
unfolding by_head
value_is i (Truth b) = refl
value_is i (Number z) = refl
value_is i (Part a) = refl
value_is i (Constant f a) = refl
value_is i (Apply f a ts) = ap (λ es. as_sort a (i.functions f a es)) (values_are i ts)
value_is i (Not t) = refl
value_is i (Binary o t u) = refl
value_is i (Ite c t u) = refl
value_is i (AllOf ts) = ap (λ es. BoolElement (all_true es)) (values_are i ts)
value_is i (SomeOf ts) = ap (λ es. BoolElement (some_true es)) (values_are i ts)

-- one head over parts of the same values
pub congruent : (i : Interpretation) (t u : Term) → head t ≡ head u → map (value i) (parts t) ≡ map (value i) (parts u) → value i t ≡ value i u
congruent i t u h p = value_is i t ∙ ap₂ (by_head i) h p ∙ sym (value_is i u)

-- values of a sort
pub bool_of : (i : Interpretation) (t : Term) → HasSort t BoolSort → value i t ≡ BoolElement (as_bool (value i t))
bool_of i t h = bool_value i h.1

pub int_of : (i : Interpretation) (t : Term) → HasSort t IntSort → value i t ≡ IntElement (as_int (value i t))
int_of i t h = int_value i h.1

pub real_of : (i : Interpretation) (t : Term) → HasSort t RealSort → value i t ≡ RealElement (as_fraction (value i t))
real_of i t h = (real_element (value i t) (value_of_sort i h.1)).0

-- an Int or a Real as a fraction
abbrev pub as_number : Element → Fraction
as_number (IntElement z) = whole z
as_number (RealElement a) = a
as_number e = whole (pos 0)

abbrev pub number : Interpretation → Term → Fraction
number i t = as_number (value i t)

-- two numbers of one sort
pub data TwoNumbers : Element → Element → Type 0 where
  two_ints : (a b : ℤ) → TwoNumbers (IntElement a) (IntElement b)
  two_reals : (a b : Fraction) → TwoNumbers (RealElement a) (RealElement b)

pub two_numbers : (i : Interpretation) (a b : Term) (s : Sort) → (s ≡ IntSort) ⊎ (s ≡ RealSort) → HasSort a s → HasSort b s → TwoNumbers (value i a) (value i b)
two_numbers i a b s n p q = elim n [
  | inl is ↦ (
      let v = int_of i a (subst (HasSort a) is p) in
      let w = int_of i b (subst (HasSort b) is q) in
      subst (λ x. TwoNumbers x (value i b)) (sym v) (subst (λ x. TwoNumbers (IntElement (as_int (value i a))) x) (sym w) (two_ints _ _)))
  | inr is ↦ (
      let v = real_of i a (subst (HasSort a) is p) in
      let w = real_of i b (subst (HasSort b) is q) in
      subst (λ x. TwoNumbers x (value i b)) (sym v) (subst (λ x. TwoNumbers (RealElement (as_fraction (value i a))) x) (sym w) (two_reals _ _)))
]

-- a Real's value is in lowest terms
pub real_lowest : (i : Interpretation) (t : Term) → HasSort t RealSort → lowest (as_fraction (value i t)) ≡ as_fraction (value i t)
real_lowest i t h = (real_element (value i t) (value_of_sort i h.1)).1

-- orders of elements
abbrev pub less_in : Element → Element → Bool
less_in = on_numbers int_lt is_below

abbrev pub at_most_in : Element → Element → Bool
at_most_in = on_numbers int_le at_most
