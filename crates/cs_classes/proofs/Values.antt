-- The value of each term is its element.
use Rattle.std.proofs.Common.{◌≡◌, inl, inr, ℕ, suc, Bool, true, false, not, cond, List, [], ◌∷◌, refl, sym, ◌∙◌, ap, ap₂, subst, eqb-true, eq-eqb}
use Rattle.std.specs.Prelude.{nat_eq}
use Rattle.vx_terms.specs.Sorts.{Sort, IntSort, BoolSort, RealSort, RefSort, SnapSort, OtherSort, Operator, And, Or, Implies, Equal, Less, LessEqual, Add, Subtract, Multiply, Div, Mod, Takes, gives}
use Rattle.vx_terms.specs.Terms.{Term, Truth, Number, Part, Constant, Apply, Not, Binary, Ite, AllOf, SomeOf, Terms}
use Rattle.vx_terms.specs.Formed.{Formed, truth, number, part, constant, applies, nots, binary, ites, all_of, some_of, FormedAll, no_terms, more_terms, FormedBools, no_bools, more_bools}
use Rattle.vx_terms.specs.Interpretations.{BoolElement, TreeElement, RefLeaf, as_bool, as_sort, same_element, Interpretation, all_true, some_true, value, values}
use Rattle.vx_terms.proofs.Values.{sort_of_formed}
use Rattle.cs_certificate.specs.Terms.{items, parts, equal, HasSort}
use Rattle.cs_certificate.specs.Certificate.{Clause, At, Contains, IsAnd, and-of-two, and-of-more, IsOr, or-of-two, or-of-more, Defines, true-is, false-is, not-0, not-1, and-part, and-all, or-part, or-all, implies-0, implies-1, implies-2, ite-0, ite-1, ite-2, ite-3, equal-0, equal-1, equal-2, equal-3, IsNumberSort}
use Rattle.cs_classes.specs.Elements.{Assignment, element_at, element_of, elements_of}
use Rattle.cs_classes.specs.Agreement.{satisfies, IsWhole, HasNoNumber, Agrees}
use Rattle.cs_classes.specs.Agreement as agreement
use Rattle.cs_classes.specs.Models.{GivesCalls}
use Rattle.cs_classes.proofs.Rows.{true_is, false_is, not_is, implies_is, ite_is, equal_is, bools, all_is, some_is, and_of_two, or_of_two}

-- the element of a call is of its sort
of_sort : (s : Assignment) (a : Sort) (t : Term) → ¬ (IsNumberSort a) → as_sort a (element_at s a t) ≡ element_at s a t
of_sort s IntSort t h = absurd (h (inl refl))
of_sort s BoolSort t h = refl
of_sort s RealSort t h = absurd (h (inr refl))
of_sort s RefSort t h = refl
of_sort s SnapSort t h = refl
of_sort s (OtherSort x) t h = refl

not_bool : {n : ℕ} {t : Term} {a : Sort} → Formed n t a → (a ≡ BoolSort → ⊥) → ¬ (HasSort t BoolSort)
not_bool f h (m, g) = h (sym (sort_of_formed f) ∙ sort_of_formed g)

-- the class of the case that a condition picks
either_class : (s : Assignment) (b : Bool) (x y : Term) → cond b (TreeElement (RefLeaf (s.class x))) (TreeElement (RefLeaf (s.class y))) ≡ TreeElement (RefLeaf (s.class (cond b x y)))
either_class s true x y = refl
either_class s false x y = refl

-- two tests of the same
same_test : (m n : ℕ) (r : Bool) → (r ≡ true → m ≡ n) → (m ≡ n → r ≡ true) → nat_eq m n ≡ r
same_test m n true f g = eq-eqb m n (f refl)
same_test m n false f g = go (nat_eq m n) refl
  where
    go : (b : Bool) → nat_eq m n ≡ b → b ≡ false
    go true e = let h : false ≡ true = g (eqb-true m n e) in cc
    go false e = refl

module _ (all : List Term) (s : Assignment) (i : Interpretation) (whole : IsWhole all) (plain : HasNoNumber all) (agrees : Agrees all s) (calls : GivesCalls all s i) where
  -- the parts of a term are among them
  parted : {t : Term} (k : ℕ) {x : Term} → Contains all t → At (parts t) k x → Contains all x
  parted {t = t} k {x = x} c e = whole.parted t x c (k, e)

  -- no term is of a number's sort
  no_number : {n : ℕ} {t : Term} {a : Sort} → Formed n t a → Contains all t → ¬ (IsNumberSort a)
  no_number {t = t} f c h = plain t c (subst IsNumberSort (sym (sort_of_formed f)) h)

  row : {n : ℕ} {t : Term} {k : ℕ} {c : Clause} → Formed n t BoolSort → Contains all t → Defines t k c → satisfies s c ≡ true
  row {n = n} {t = t} {k = k} {c = c} f at d = agrees.rows t k c at (n, f) d

  -- ---- connectives
  literal_is : (b : Bool) → Contains all (Truth b) → b ≡ s.truth (Truth b)
  literal_is true c = sym (true_is _ (row {n = 0} (truth true) c true-is))
  literal_is false c = sym (false_is _ (row {n = 0} (truth false) c false-is))

  and_is : {n : ℕ} {t : Term} {xs : List Term} → Formed n t BoolSort → Contains all t → IsAnd t xs → all_true (bools s xs) ≡ s.truth t
  and_is {t = t} {xs = xs} f c d = all_is s xs (s.truth t) (λ k x e. row f c (and-part d e)) (row f c (and-all d))

  or_is : {n : ℕ} {t : Term} {xs : List Term} → Formed n t BoolSort → Contains all t → IsOr t xs → some_true (bools s xs) ≡ s.truth t
  or_is {t = t} {xs = xs} f c d = some_is s xs (s.truth t) (λ k x e. row f c (or-part d e)) (row f c (or-all d))

  -- ---- equality
  classes_equal : {n : ℕ} {t u : Term} {a : Sort} → Formed n t a → (a ≡ BoolSort → ⊥) → Contains all (equal t u) → nat_eq (s.class t) (s.class u) ≡ s.truth (equal t u)
  classes_equal {t = t} {u = u} f h c = let e = agrees.equalities t u c (not_bool f h) in same_test _ _ _ e.0 e.1

  equality : {n : ℕ} {t u : Term} (a : Sort) → Formed n t a → Formed n u a → Contains all (equal t u) → same_element (element_at s a t) (element_at s a u) ≡ s.truth (equal t u)
  equality IntSort f g c = absurd (no_number f (parted 0 c refl) (inl refl))
  equality RealSort f g c = absurd (no_number f (parted 0 c refl) (inr refl))
  equality RefSort f g c = classes_equal f (λ e. cc) c
  equality SnapSort f g c = classes_equal f (λ e. cc) c
  equality (OtherSort x) f g c = classes_equal f (λ e. cc) c
  equality {n = n} {t = t} {u = u} BoolSort f g c =
      let e : Formed n (equal t u) BoolSort = binary {o = Equal} tt f g in
      equal_is (s.truth t) (s.truth u) (s.truth (equal t u)) (row e c (equal-0 t u (n, f) (n, g))) (row e c (equal-1 t u (n, f) (n, g))) (row e c (equal-2 t u (n, f) (n, g))) (row e c (equal-3 t u (n, f) (n, g)))

  -- ---- operators
  truth_of : {t : Term} {a : Sort} → a ≡ BoolSort → value i t ≡ element_at s a t → as_bool (value i t) ≡ s.truth t
  truth_of {t = t} h p = ap as_bool (p ∙ ap (λ b. element_at s b t) h)

  operated : {n : ℕ} {t u : Term} {a : Sort} (o : Operator) → Takes o a → Formed n t a → Formed n u a → Contains all (Binary o t u) → value i t ≡ element_at s a t → value i u ≡ element_at s a u →
      value i (Binary o t u) ≡ element_at s (gives o a) (Binary o t u)
  operated Equal h f g c p q = ap₂ (λ d e. BoolElement (same_element d e)) p q ∙ ap BoolElement (equality _ f g c)
  operated {t = t} {u = u} And h f g c p q =
      ap BoolElement (ap₂ (λ x y. cond x y false) (truth_of h p) (truth_of h q) ∙ and_of_two (s.truth t) (s.truth u) ∙ and_is (binary {o = And} h f g) c (and-of-two t u))
  operated {t = t} {u = u} Or h f g c p q =
      ap BoolElement (ap₂ (λ x y. cond x true y) (truth_of h p) (truth_of h q) ∙ or_of_two (s.truth t) (s.truth u) ∙ or_is (binary {o = Or} h f g) c (or-of-two t u))
  operated {n = n} {t = t} {u = u} Implies h f g c p q =
      let e : Formed n (Binary Implies t u) BoolSort = binary {o = Implies} h f g in
      ap BoolElement (ap₂ (λ x y. cond x y true) (truth_of h p) (truth_of h q)
      ∙ implies_is (s.truth t) (s.truth u) (s.truth (Binary Implies t u)) (row e c (implies-0 t u)) (row e c (implies-1 t u)) (row e c (implies-2 t u)))
  operated Less h f g c p q = absurd (no_number f (parted 0 c refl) h)
  operated LessEqual h f g c p q = absurd (no_number f (parted 0 c refl) h)
  operated Add h f g c p q = absurd (no_number f (parted 0 c refl) h)
  operated Subtract h f g c p q = absurd (no_number f (parted 0 c refl) h)
  operated Multiply h f g c p q = absurd (no_number f (parted 0 c refl) h)
  operated Div h f g c p q = absurd (no_number f (parted 0 c refl) (inl h))
  operated Mod h f g c p q = absurd (no_number f (parted 0 c refl) (inl h))

  -- ---- `ite`
  class_picked : {n : ℕ} {c t u : Term} {a : Sort} → Formed n t a → (a ≡ BoolSort → ⊥) → Contains all (Ite c t u) → cond (s.truth c) (TreeElement (RefLeaf (s.class t))) (TreeElement (RefLeaf (s.class u))) ≡ TreeElement (RefLeaf (s.class (Ite c t u)))
  class_picked {c = c} {t = t} {u = u} f h at = either_class s (s.truth c) t u ∙ ap (λ k. TreeElement (RefLeaf k)) (sym (agrees.picks c t u at (not_bool f h)))

  bool_either : (b p q : Bool) → cond b (BoolElement p) (BoolElement q) ≡ BoolElement (cond b p q)
  bool_either true p q = refl
  bool_either false p q = refl

  picked : {n : ℕ} {c t u : Term} (a : Sort) → Formed n c BoolSort → Formed n t a → Formed n u a → Contains all (Ite c t u) → cond (s.truth c) (element_at s a t) (element_at s a u) ≡ element_at s a (Ite c t u)
  picked IntSort e f g at = absurd (no_number f (parted 1 at refl) (inl refl))
  picked RealSort e f g at = absurd (no_number f (parted 1 at refl) (inr refl))
  picked RefSort e f g at = class_picked f (λ e. cc) at
  picked SnapSort e f g at = class_picked f (λ e. cc) at
  picked (OtherSort x) e f g at = class_picked f (λ e. cc) at
  picked {n = n} {c = c} {t = t} {u = u} BoolSort e f g at =
      let h : Formed n (Ite c t u) BoolSort = ites e f g in
      bool_either (s.truth c) (s.truth t) (s.truth u)
      ∙ ap BoolElement (ite_is (s.truth c) (s.truth t) (s.truth u) (s.truth (Ite c t u)) (row h at (ite-0 c t u (n, f))) (row h at (ite-1 c t u (n, f))) (row h at (ite-2 c t u (n, f))) (row h at (ite-3 c t u (n, f))))

  -- ---- terms
  mutual
    meant : {n : ℕ} {t : Term} {a : Sort} → Formed n t a → Contains all t → value i t ≡ element_at s a t
    meant (truth b) c = ap BoolElement (literal_is b c)
    meant (number z) c = absurd (plain (Number z) c (inl refl))
    meant (part a l) c = absurd (plain (Part a) c (inr refl))
    meant (constant f a k) c = ap (as_sort a) (calls (Constant f a) f a [] c (agreement.constant f a)) ∙ of_sort s a (Constant f a) (plain (Constant f a) c)
    meant (applies f a {ts = ts} k fs) c =
        ap (λ es. as_sort a (i.functions f a es)) (all_meant fs (λ x m. whole.parted (Apply f a ts) x c m))
        ∙ ap (as_sort a) (calls (Apply f a ts) f a (items ts) c (agreement.applies f a ts))
        ∙ of_sort s a (Apply f a ts) (plain (Apply f a ts) c)
    meant (nots {t = t} f) c =
        ap BoolElement (ap (λ e. not (as_bool e)) (meant f (parted 0 c refl)) ∙ not_is (s.truth t) (s.truth (Not t)) (row (nots f) c (not-0 t)) (row (nots f) c (not-1 t)))
    meant (binary {o = o} h f g) c = operated o h f g c (meant f (parted 0 c refl)) (meant g (parted 1 c refl))
    meant (ites {c = b} {t = t} {u = u} {a = a} e f g) c =
        ap (λ d. cond (as_bool d) (value i t) (value i u)) (meant e (parted 0 c refl))
        ∙ ap₂ (cond (s.truth b)) (meant f (parted 1 c refl)) (meant g (parted 2 c refl))
        ∙ picked a e f g c
    meant (all_of {ts = ts} fs) c = ap BoolElement (ap all_true (bools_meant fs (λ x m. whole.parted (AllOf ts) x c m)) ∙ and_is (all_of fs) c (and-of-more ts))
    meant (some_of {ts = ts} fs) c = ap BoolElement (ap some_true (bools_meant fs (λ x m. whole.parted (SomeOf ts) x c m)) ∙ or_is (some_of fs) c (or-of-more ts))

    all_meant : {n : ℕ} {ts : Terms} → FormedAll n ts → ((x : Term) → Contains (items ts) x → Contains all x) → values i ts ≡ elements_of s (items ts)
    all_meant no_terms h = refl
    all_meant (more_terms {t = t} a f fs) h =
        ap₂ (λ e es. e ∷ es) (meant f (h t (0, refl)) ∙ ap (λ b. element_at s b t) (sym (sort_of_formed f))) (all_meant fs (λ x m. h x (suc m.0, m.1)))

    bools_meant : {n : ℕ} {ts : Terms} → FormedBools n ts → ((x : Term) → Contains (items ts) x → Contains all x) → values i ts ≡ bools s (items ts)
    bools_meant no_bools h = refl
    bools_meant (more_bools {t = t} f fs) h = ap₂ (λ e es. e ∷ es) (meant f (h t (0, refl))) (bools_meant fs (λ x m. h x (suc m.0, m.1)))

  pub values_are_elements : (t : Term) → Contains all t → value i t ≡ element_of s t
  values_are_elements t c =
      let f = ((whole.sorted t c).1).1 in
      meant f c ∙ ap (λ b. element_at s b t) (sym (sort_of_formed f))
