-- Sorts of terms, and the elements at them.
use Rattle.std.proofs.Common.{◌≡◌, ◌⊎◌, inl, inr, List, [], ◌∷◌, refl, sym, ◌∙◌, ap, subst}
use Rattle.vx_terms.specs.Sorts.{Sort, IntSort, BoolSort, RealSort, RefSort, SnapSort, OtherSort}
use Rattle.vx_terms.specs.Terms.{Term, Ite, sort_of}
use Rattle.vx_terms.specs.Formed.{Formed, binary, ites}
use Rattle.vx_terms.specs.Interpretations.{Each, BoolElement, TreeElement, RefLeaf}
use Rattle.vx_terms.proofs.Values.{sort_of_formed}
use Rattle.cs_certificate.specs.Terms.{equal, HasSort}
use Rattle.cs_numbers.specs.Laws.{IsSorted}
use Rattle.cs_classes.specs.Elements.{Assignment, element_at}
use Rattle.cs_ground.specs.Ground.{AreOfOneSort}

-- a sort is Bool, or another one
pub bool_or_not : (a : Sort) → (a ≡ BoolSort) ⊎ ¬ (a ≡ BoolSort)
bool_or_not IntSort = inr (λ e. cc)
bool_or_not BoolSort = inl refl
bool_or_not RealSort = inr (λ e. cc)
bool_or_not RefSort = inr (λ e. cc)
bool_or_not SnapSort = inr (λ e. cc)
bool_or_not (OtherSort x) = inr (λ e. cc)

-- ---- elements
-- the element of a term that isn't Bool is its class
pub class_at : (v : Assignment) (a : Sort) (t : Term) → ¬ (a ≡ BoolSort) → element_at v a t ≡ TreeElement (RefLeaf (v.class t))
class_at v IntSort t h = refl
class_at v BoolSort t h = absurd (h refl)
class_at v RealSort t h = refl
class_at v RefSort t h = refl
class_at v SnapSort t h = refl
class_at v (OtherSort x) t h = refl

-- that of a Bool term is its truth
pub truth_at : (v : Assignment) (a : Sort) (t : Term) → a ≡ BoolSort → element_at v a t ≡ BoolElement (v.truth t)
truth_at v a t e = ap (λ b. element_at v b t) e

-- ---- the sort of a term
-- a well-sorted term has the sort that stands in it
pub has_sort : {t : Term} {a : Sort} → IsSorted t → sort_of t ≡ a → HasSort t a
has_sort {t = t} (b, (n, f)) e = (n, subst (Formed n t) (sym (sort_of_formed f) ∙ e) f)

-- and no other
pub one_sort : {t : Term} {a b : Sort} → HasSort t a → HasSort t b → a ≡ b
one_sort h k = sym (sort_of_formed h.1) ∙ sort_of_formed k.1

-- so one of another sort isn't Bool
pub not_bool : {t : Term} → ¬ (sort_of t ≡ BoolSort) → ¬ (HasSort t BoolSort)
not_bool h k = h (sort_of_formed k.1)

-- Bool terms are well-sorted
pub sorted_all : (ts : List Term) → Each (λ t. HasSort t BoolSort) ts → Each IsSorted ts
sorted_all [] h = tt
sorted_all (t ∷ ts) h = ((BoolSort, h.0), sorted_all ts h.1)

-- ---- terms of one sort
-- in the other order
pub one_sort_turned : (x y : Term) → AreOfOneSort x y → AreOfOneSort y x
one_sort_turned x y h = (h.0, h.2, h.1)

-- and from term to term
pub one_sort_joined : (x y z : Term) → AreOfOneSort x y → AreOfOneSort y z → AreOfOneSort x z
one_sort_joined x y z h k = (h.0, h.1, subst (HasSort z) (one_sort k.1 h.2) k.2)

-- the sorts that stand in them are one
pub sort_of_one : (x y : Term) → AreOfOneSort x y → sort_of x ≡ sort_of y
sort_of_one x y h = sort_of_formed (h.1).1 ∙ sym (sort_of_formed (h.2).1)

-- where the first isn't Bool, the second isn't
pub neither_bool : (x y : Term) → AreOfOneSort x y → ¬ (HasSort x BoolSort) → ¬ (HasSort y BoolSort)
neither_bool x y h other k = other (subst (HasSort x) (one_sort h.2 k) h.1)

-- such are the sides of an equality
pub sides : (x y : Term) → IsSorted (equal x y) → AreOfOneSort x y
sides x y (a, (n, binary {a = b} takes f g)) = (b, (n, f), (n, g))

-- a choice and its first case
pub with_then : (c x y : Term) → IsSorted (Ite c x y) → AreOfOneSort (Ite c x y) x
with_then c x y (a, (n, ites e f g)) = (a, (n, ites e f g), (n, f))

-- a choice and its second case
pub with_else : (c x y : Term) → IsSorted (Ite c x y) → AreOfOneSort (Ite c x y) y
with_else c x y (a, (n, ites e f g)) = (a, (n, ites e f g), (n, g))
