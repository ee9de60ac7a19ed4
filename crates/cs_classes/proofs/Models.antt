-- From an interpretation to an assignment that agrees.
use Rattle.std.proofs.Common.{◌≡◌, inl, inr, ℕ, zero, suc, pos, Bool, true, false, not, cond, ◌||◌, List, [], ◌∷◌, map, refl, sym, ◌∙◌, ap, ap₂, subst, true≢false}
use Rattle.std.specs.Prelude.{if◌then◌else◌}
use Rattle.std.proofs.lemmas.Option.{same_Some}
use Rattle.vx_terms.specs.Sorts.{Sort, IntSort, BoolSort, RealSort, RefSort, SnapSort, OtherSort, Symbol}
use Rattle.vx_terms.specs.Terms.{Term, Constant, Apply, sort_of}
use Rattle.vx_terms.specs.Formed.{Formed}
use Rattle.vx_terms.specs.Interpretations.{Element, IntElement, BoolElement, TreeElement, RefLeaf, as_bool, as_sort, same_element, Interpretation, value}
use Rattle.vx_terms.proofs.Values.{bool_value, sort_of_formed}
use Rattle.cs_certificate.specs.Terms.{equal}
use Rattle.cs_certificate.specs.Certificate.{Yes, No, Clause, Contains, IsNumberSort}
use Rattle.cs_certificate.proofs.Values.{element_is, is_element, values_are}
use Rattle.cs_certificate.proofs.Clauses.{clause_true}
use Rattle.cs_certificate.proofs.Steps.{define_holds}
use Rattle.cs_classes.specs.Elements.{Assignment, element_at, element_of, elements_of}
use Rattle.cs_classes.specs.Agreement.{satisfies, IsCall, constant, applies, IsWhole, HasNoNumber, Agrees}

-- the place of the first term with this value, and the value of the term at a place
pub place_of : Interpretation → List Term → Element → ℕ
place_of i [] e = 0
place_of i (u ∷ us) e = if same_element (value i u) e then 0 else suc (place_of i us e)

value_at : Interpretation → List Term → ℕ → Element
value_at i [] k = IntElement (pos 0)
value_at i (u ∷ us) zero = value i u
value_at i (u ∷ us) (suc k) = value_at i us k

placed : (i : Interpretation) (us : List Term) (t : Term) → Contains us t → value_at i us (place_of i us (value i t)) ≡ value i t
unfolding place_of value_at
placed i [] t (k, e) = cc
placed i (u ∷ us) t m = go (same_element (value i u) (value i t)) refl (placed i us t)
  where
    rest : same_element (value i u) (value i t) ≡ false → Contains (u ∷ us) t → Contains us t
    rest f (zero, e) = absurd (true≢false (sym (is_element (value i u) (value i t) (ap (value i) (same_Some _ _ e))) ∙ f))
    rest f (suc k, e) = (k, e)

    go : (b : Bool) → same_element (value i u) (value i t) ≡ b → (Contains us t → value_at i us (place_of i us (value i t)) ≡ value i t) →
        value_at i (u ∷ us) (if b then 0 else suc (place_of i us (value i t))) ≡ value i t
    go true f h = element_is (value i u) (value i t) f
    go false f h = h (rest f m)

-- the class of a term is the place of the first one with its value
abbrev pub assigned : Interpretation → List Term → Assignment
assigned i all = record { truth = λ t. as_bool (value i t); class = λ t. place_of i all (value i t) }

satisfies_is : (i : Interpretation) (all : List Term) (c : Clause) → satisfies (assigned i all) c ≡ clause_true i c
satisfies_is i all [] = refl
satisfies_is i all (Yes t ∷ c) = ap (λ b. as_bool (value i t) || b) (satisfies_is i all c)
satisfies_is i all (No t ∷ c) = ap (λ b. not (as_bool (value i t)) || b) (satisfies_is i all c)

either_value : (i : Interpretation) (b : Bool) (x y : Term) → cond b (value i x) (value i y) ≡ value i (cond b x y)
either_value i true x y = refl
either_value i false x y = refl

-- ---- calls
call_value : (i : Interpretation) {t : Term} {f : Symbol} {a : Sort} {xs : List Term} → IsCall t f a xs → value i t ≡ as_sort a (i.functions f a (map (value i) xs))
call_value i (constant f a) = refl
call_value i (applies f a ts) = ap (λ es. as_sort a (i.functions f a es)) (values_are i ts)

call_sort : {t : Term} {f : Symbol} {a : Sort} {xs : List Term} → IsCall t f a xs → sort_of t ≡ a
call_sort (constant f a) = refl
call_sort (applies f a ts) = refl

arguments_in : {all : List Term} {t : Term} {f : Symbol} {a : Sort} {xs : List Term} → IsWhole all → Contains all t → IsCall t f a xs → (x : Term) → Contains xs x → Contains all x
arguments_in whole c (constant f a) x m = whole.parted (Constant f a) x c m
arguments_in whole c (applies f a ts) x m = whole.parted (Apply f a ts) x c m

module _ (all : List Term) (i : Interpretation) (whole : IsWhole all) (plain : HasNoNumber all) where
  -- the value of an element
  value_of : Element → Element
  value_of (BoolElement b) = BoolElement b
  value_of (TreeElement (RefLeaf k)) = value_at i all k
  value_of e = e

  sorted_value : {n : ℕ} {t : Term} (a : Sort) → ¬ (IsNumberSort a) → Formed n t a → Contains all t → value i t ≡ value_of (element_at (assigned i all) a t)
  unfolding value_of
  sorted_value IntSort h f c = absurd (h (inl refl))
  sorted_value RealSort h f c = absurd (h (inr refl))
  sorted_value BoolSort h f c = bool_value i f
  sorted_value {t = t} RefSort h f c = sym (placed i all t c)
  sorted_value {t = t} SnapSort h f c = sym (placed i all t c)
  sorted_value {t = t} (OtherSort x) h f c = sym (placed i all t c)

  value_back : (t : Term) → Contains all t → value i t ≡ value_of (element_of (assigned i all) t)
  value_back t c =
      let f = ((whole.sorted t c).1).1 in
      let is = sort_of_formed f in
      sorted_value (sort_of t) (plain t c) (subst (Formed ((whole.sorted t c).1).0 t) (sym is) f) c

  values_back : (xs : List Term) → ((x : Term) → Contains xs x → Contains all x) → map (value i) xs ≡ map value_of (elements_of (assigned i all) xs)
  values_back [] within = refl
  values_back (x ∷ xs) within = ap₂ (λ e es. e ∷ es) (value_back x (within x (0, refl))) (values_back xs (λ y m. within y (suc m.0, m.1)))

  one_element : (a : Sort) (t u : Term) → value i t ≡ value i u → element_at (assigned i all) a t ≡ element_at (assigned i all) a u
  one_element BoolSort t u e = ap (λ v. BoolElement (as_bool v)) e
  one_element _ t u e = ap (λ v. TreeElement (RefLeaf (place_of i all v))) e

  calls_alike : (t u : Term) (f : Symbol) (a : Sort) (xs ys : List Term) → Contains all t → Contains all u → IsCall t f a xs → IsCall u f a ys
      → elements_of (assigned i all) xs ≡ elements_of (assigned i all) ys → element_of (assigned i all) t ≡ element_of (assigned i all) u
  calls_alike t u f a xs ys c d p q e =
      let given : map (value i) xs ≡ map (value i) ys = values_back xs (arguments_in whole c p) ∙ ap (map value_of) e ∙ sym (values_back ys (arguments_in whole d q)) in
      let one : value i t ≡ value i u = call_value i p ∙ ap (λ es. as_sort a (i.functions f a es)) given ∙ sym (call_value i q) in
      ap (λ b. element_at (assigned i all) b t) (call_sort p) ∙ one_element a t u one ∙ ap (λ b. element_at (assigned i all) b u) (sym (call_sort q))

  pub one_value : (x y : Term) → Contains all x → Contains all y → place_of i all (value i x) ≡ place_of i all (value i y) → value i x ≡ value i y
  one_value x y c d e = sym (placed i all x c) ∙ ap (value_at i all) e ∙ placed i all y d

  pub agrees : Agrees all (assigned i all)
  agrees = record {
    rows = λ t k c m h d. satisfies_is i all c ∙ (define_holds i d).holds;
    picks = λ c x y m h. ap (place_of i all) (either_value i (as_bool (value i c)) x y);
    equalities = λ x y m h. (
      λ e. ap (place_of i all) (element_is (value i x) (value i y) e),
      λ e. is_element (value i x) (value i y) (one_value x y (whole.parted (equal x y) x m (0, refl)) (whole.parted (equal x y) y m (1, refl)) e),
    );
    congruent = calls_alike;
  }
