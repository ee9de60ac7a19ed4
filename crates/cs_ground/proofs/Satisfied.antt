-- A satisfying assignment's equal terms, and what it agrees with.
use Rattle.std.proofs.Common.{◌≡◌, inl, inr, suc, Bool, true, false, List, [], ◌∷◌, refl, sym, ◌∙◌, ap, subst, arith}
use Rattle.std.specs.Prelude.{◌↔◌, if◌then◌else◌}
use Rattle.std.proofs.lemmas.Bool.{cases_lt}
use Rattle.vx_terms.specs.Sorts.{Sort, BoolSort, Symbol}
use Rattle.vx_terms.specs.Terms.{Term, Apply, Ite, Terms, NoTerms, MoreTerms, sort_of}
use Rattle.vx_terms.specs.Interpretations.{BoolElement, TreeElement, RefLeaf, as_bool}
use Rattle.cs_certificate.specs.Terms.{items, parts, equal, numbered, HasSort}
use Rattle.cs_certificate.specs.Certificate.{No, Clause, Stack, State, Contains, Equates, Pairs, no-pairs, same, differ, equal-0, equal-1, equal-2, equal-3}
use Rattle.cs_numbers.specs.Laws.{IsSorted}
use Rattle.cs_classes.specs.Elements.{Assignment, element_of, elements_of}
use Rattle.cs_classes.specs.Agreement.{satisfies, IsCall, constant, applies, IsWhole, Agrees}
use Rattle.cs_classes.proofs.Rows.{true_is, equal_is}
use Rattle.cs_classes.proofs.Numbered as numbers
use Rattle.cs_ground.specs.Ground.{IsFormed, AreOfOneSort, IsGrounded, Satisfies}
use Rattle.cs_ground.proofs.Parts.{applied}
use Rattle.cs_ground.specs.Classed.{AreSame, identical, equated, AreClassed}
use Rattle.cs_ground.specs.Laws.{SatisfiedIsEquivalence, SatisfiedAgrees, SatisfiedAssigns}
use Rattle.cs_ground.proofs.Members.{one_or_two, each_in, in_each, front_at, before_front}
use Rattle.cs_ground.proofs.SatisfiedSides.{third_is, where_true, where_false, last_true, denial_false, same_truths}
use Rattle.cs_ground.proofs.Sorts.{bool_or_not, class_at, truth_at, has_sort, sort_of_one, not_bool, sorted_all, one_sort_turned, one_sort_joined, neither_bool, sides, with_then, with_else}
use Rattle.cs_ground.proofs.Equalities.{same_turned, by_equality, first_equality}

-- identical parts leave nothing to deny
alike : (s : State) (xs : List Term) → Pairs s xs xs []
alike s [] = no-pairs
alike s (x ∷ xs) = same (alike s xs)

module _ (stack : Stack) (s : State) (v : Assignment) (formed : IsFormed stack) (grounded : IsGrounded stack s) (satisfied : Satisfies v s) where
  -- the terms of the assertions
  abbrev all : List Term
  all = numbered stack.assertions

  -- they are well-sorted, with all their parts
  whole : IsWhole all
  whole = numbers.whole stack.assertions (sorted_all stack.assertions formed.sorted)

  -- each clause holds
  clause_holds : (c : Clause) → Contains s.clauses c → satisfies v c ≡ true
  clause_holds c h = each_in (λ d. satisfies v d ≡ true) s.clauses c satisfied h

  -- ---- what is the same
  -- terms that have an equality are of one sort
  equates_sorted : (x y e : Term) → Equates s x y e → AreOfOneSort x y
  equates_sorted x y e q = elim q.equality [
    | inl h ↦ sides x y (subst IsSorted h (grounded.sorted e (q.number, q.here)))
    | inr h ↦ one_sort_turned y x (sides y x (subst IsSorted h (grounded.sorted e (q.number, q.here))))
  ]

  -- terms of one sort are the same where each equality of them is true
  same_where : (x y : Term) → Contains all x → Contains all y → AreOfOneSort x y → ((e : Term) → Equates s x y e → v.truth e ≡ true) → AreSame s v x y
  same_where x y c d one h = elim (one_or_two x y) [
    | inl is ↦ subst (AreSame s v x) is (identical x)
    | inr apart ↦ let q = grounded.equated x y c d apart one in equated x y q.0 q.1 (h q.0 q.1)
  ]

  -- what is the same goes on from term to term
  same_joined : (x y z : Term) → Contains all x → Contains all y → Contains all z → AreSame s v x y → AreSame s v y z → AreSame s v x z
  same_joined x y z b c d (identical _) k = k
  same_joined x y z b c d h (identical _) = h
  same_joined x y z b c d (equated _ _ e p h) (equated _ _ f q k) =
      same_where x z b d (one_sort_joined x y z (equates_sorted x y e p) (equates_sorted y z f q))
      (λ g r. third_is (v.truth e) (v.truth f) (v.truth g) (clause_holds _ (grounded.chained x y z e f g b c d p q r)) h k)

  -- ---- the equality of two Bool terms
  -- its rows make it true exactly where they have one truth
  rows_hold : (x y : Term) → HasSort x BoolSort → HasSort y BoolSort → Contains s.terms (equal x y) → (v.truth x ≡ v.truth y) ↔ (v.truth (equal x y) ≡ true)
  rows_hold x y h k c = same_truths (v.truth x) (v.truth y) (v.truth (equal x y)) (equal_is
      (v.truth x)
      (v.truth y)
      (v.truth (equal x y))
      (clause_holds _ (grounded.rows (equal x y) 0 _ c (equal-0 x y h k)))
      (clause_holds _ (grounded.rows (equal x y) 1 _ c (equal-1 x y h k)))
      (clause_holds _ (grounded.rows (equal x y) 2 _ c (equal-2 x y h k)))
      (clause_holds _ (grounded.rows (equal x y) 3 _ c (equal-3 x y h k))))

  -- so it is for the order that is numbered first
  bool_equality : (x y e : Term) → HasSort x BoolSort → HasSort y BoolSort → Equates s x y e → (v.truth x ≡ v.truth y) ↔ (v.truth e ≡ true)
  bool_equality x y e h k q = elim q.equality [
    | inl is ↦
        let r = rows_hold x y h k (subst (Contains s.terms) is (q.number, q.here)) in
        (λ p. ap v.truth is ∙ r.0 p, λ p. r.1 (ap v.truth (sym is) ∙ p))
    | inr is ↦
        let r = rows_hold y x k h (subst (Contains s.terms) is (q.number, q.here)) in
        (λ p. ap v.truth is ∙ r.0 (sym p), λ p. sym (r.1 (ap v.truth (sym is) ∙ p)))
  ]

  -- ---- an equality that stands in the assertions
  -- of its two orders the one that is numbered first stands there too
  first_inside : (x y e : Term) → Contains all (equal x y) → Equates s x y e → Contains all e
  first_inside x y e c q = elim (cases_lt c.0 q.number) [
    | inl lt ↦ absurd (q.first c.0 (equal x y) lt (front_at all s.terms c.0 (equal x y) grounded.front c.1) (inl refl))
    | inr le ↦ before_front all s.terms q.number c.0 (equal x y) e grounded.front c.1 (omega arith) q.here
  ]

  -- and has the same truth
  first_truth : (x y e : Term) → Contains all (equal x y) → ¬ (HasSort x BoolSort) → Equates s x y e → v.truth e ≡ v.truth (equal x y)
  first_truth x y e c other q = elim q.equality [
    | inl is ↦ ap v.truth is
    | inr is ↦ ap v.truth is ∙ sym (grounded.turned v x y satisfied c (subst (Contains all) is (first_inside x y e c q)) other)
  ]

  -- each term is equal to itself
  itself_true : (x : Term) → Contains all (equal x x) → v.truth (equal x x) ≡ true
  itself_true x c =
      let here = whole.parted (equal x x) x c (0, refl) in
      let q = first_equality s x x (equal x x) (inl refl) (grounded.within (equal x x) c) in
      let h : v.truth q.0 ≡ true = true_is (v.truth q.0) (clause_holds _ (grounded.congruent x x q.0 [] here here refl (alike s (parts x)) q.1)) in
      elim (q.1).equality [
        | inl is ↦ ap v.truth (sym is) ∙ h
        | inr is ↦ ap v.truth (sym is) ∙ h
      ]

  -- where it is true, its sides are the same
  equality_same : (x y : Term) → Contains all (equal x y) → ¬ (HasSort x BoolSort) → v.truth (equal x y) ≡ true → AreSame s v x y
  equality_same x y c other h =
      same_where x y (whole.parted (equal x y) x c (0, refl)) (whole.parted (equal x y) y c (1, refl)) (sides x y (whole.sorted (equal x y) c)) (λ e q. first_truth x y e c other q ∙ h)

  -- and where they are the same, it is
  same_equality : (x y : Term) → Contains all (equal x y) → ¬ (HasSort x BoolSort) → AreSame s v x y → v.truth (equal x y) ≡ true
  same_equality x y c other (identical _) = itself_true x c
  same_equality x y c other (equated _ _ e q h) = sym (first_truth x y e c other q) ∙ h

  -- ---- with classes
  module _ (classed : AreClassed stack s v) where
    -- terms of one sort that aren't Bool are of one class exactly where they are the same
    classes : (x y : Term) → Contains all x → Contains all y → AreOfOneSort x y → ¬ (HasSort x BoolSort) → (v.class x ≡ v.class y) ↔ AreSame s v x y
    classes x y c d one other = classed x y c d other (neither_bool x y one other)

    -- an equality is true exactly where its sides are of one class
    equalities : (x y : Term) → Contains all (equal x y) → ¬ (HasSort x BoolSort) → (v.truth (equal x y) ≡ true) ↔ (v.class x ≡ v.class y)
    equalities x y c other =
        let iff = classes x y (whole.parted (equal x y) x c (0, refl)) (whole.parted (equal x y) y c (1, refl)) (sides x y (whole.sorted (equal x y) c)) other in
        (λ h. iff.1 (equality_same x y c other h), λ h. same_equality x y c other (iff.0 h))

    -- ---- `ite`
    -- it is in the class of the case that its condition picks
    picked : (b : Bool) (c x y : Term) → Contains all (Ite c x y) → ¬ (HasSort x BoolSort) → v.truth c ≡ b → v.class (Ite c x y) ≡ v.class (if b then x else y)
    picked true c x y at other h =
        let one = with_then c x y (whole.sorted (Ite c x y) at) in
        let there = whole.parted (Ite c x y) x at (1, refl) in
        (classes (Ite c x y) x at there one (neither_bool x (Ite c x y) (one_sort_turned (Ite c x y) x one) other)).1
        (same_where (Ite c x y) x at there one (λ e q. where_true (v.truth c) (v.truth e) (clause_holds _ (grounded.pick_then c x y e at other q)) h))
    picked false c x y at other h =
        let one = with_else c x y (whole.sorted (Ite c x y) at) in
        let there = whole.parted (Ite c x y) y at (2, refl) in
        (classes (Ite c x y) y at there one (neither_bool x (Ite c x y) (one_sort_turned (Ite c x y) x (with_then c x y (whole.sorted (Ite c x y) at))) other)).1
        (same_where (Ite c x y) y at there one (λ e q. where_false (v.truth c) (v.truth e) (clause_holds _ (grounded.pick_else c x y e at other q)) h))

    -- ---- elements
    -- what is the same has one element
    element_same : (x y : Term) → Contains all x → Contains all y → AreSame s v x y → element_of v x ≡ element_of v y
    element_same x y c d (identical _) = refl
    element_same x y c d (equated _ _ e q h) =
        let one = equates_sorted x y e q in
        elim (bool_or_not (sort_of x)) [
          | inl is ↦
              let is_y : sort_of y ≡ BoolSort = sym (sort_of_one x y one) ∙ is in
              truth_at v (sort_of x) x is
              ∙ ap BoolElement ((bool_equality x y e (has_sort (whole.sorted x c) is) (has_sort (whole.sorted y d) is_y) q).1 h)
              ∙ sym (truth_at v (sort_of y) y is_y)
          | inr other ↦
              class_at v (sort_of x) x other
              ∙ ap (λ k. TreeElement (RefLeaf k)) ((classes x y c d one (not_bool other)).1 (equated x y e q h))
              ∙ sym (class_at v (sort_of y) y (λ is. other (sort_of_one x y one ∙ is)))
        ]

    -- and what has one element is the same
    same_element : (x y : Term) → Contains all x → Contains all y → element_of v x ≡ element_of v y → AreSame s v x y
    same_element x y c d e = elim (bool_or_not (sort_of x)) [
      | inl g ↦ elim (bool_or_not (sort_of y)) [
        | inl h ↦
            let k : BoolElement (v.truth x) ≡ BoolElement (v.truth y) = sym (truth_at v (sort_of x) x g) ∙ e ∙ truth_at v (sort_of y) y h in
            let of_x = has_sort (whole.sorted x c) g in
            let of_y = has_sort (whole.sorted y d) h in
            same_where x y c d (BoolSort, of_x, of_y) (λ f q. (bool_equality x y f of_x of_y q).0 (ap as_bool k))
        | inr h ↦ (let k : BoolElement (v.truth x) ≡ TreeElement (RefLeaf (v.class y)) = sym (truth_at v (sort_of x) x g) ∙ e ∙ class_at v (sort_of y) y h in cc)
      ]
      | inr g ↦ elim (bool_or_not (sort_of y)) [
        | inl h ↦ (let k : TreeElement (RefLeaf (v.class x)) ≡ BoolElement (v.truth y) = sym (class_at v (sort_of x) x g) ∙ e ∙ truth_at v (sort_of y) y h in cc)
        | inr h ↦
            let k : TreeElement (RefLeaf (v.class x)) ≡ TreeElement (RefLeaf (v.class y)) = sym (class_at v (sort_of x) x g) ∙ e ∙ class_at v (sort_of y) y h in
            (classed x y c d (not_bool g) (not_bool h)).0 (let one : v.class x ≡ v.class y = cc in one)
      ]
    ]

    -- ---- calls
    -- a clause of pairs, each literal of which is false
    record AreDenied (xs ys : List Term) : Type 0 where
      clause : Clause
      pairs : Pairs s xs ys clause
      denied : satisfies v clause ≡ false

    -- terms that are the same add a pair to it
    one_denied : (x y : Term) (xs ys : List Term) → AreSame s v x y → AreDenied xs ys → AreDenied (x ∷ xs) (y ∷ ys)
    one_denied x y xs ys is more = elim (one_or_two x y) [
      | inl one ↦ record { clause = more.clause; pairs = subst (λ z. Pairs s (x ∷ xs) (z ∷ ys) more.clause) one (same more.pairs); denied = more.denied }
      | inr apart ↦
          let q = by_equality s v x y apart is in
          record { clause = No q.equality ∷ more.clause; pairs = differ apart q.equates more.pairs; denied = denial_false (v.truth q.equality) (satisfies v more.clause) q.holds more.denied }
    ]

    -- terms with the same elements have one
    all_denied : (xs ys : List Term) → ((x : Term) → Contains xs x → Contains all x) → ((y : Term) → Contains ys y → Contains all y) → elements_of v xs ≡ elements_of v ys → AreDenied xs ys
    all_denied [] [] p q e = record { clause = []; pairs = no-pairs; denied = refl }
    all_denied [] (y ∷ ys) p q e = cc
    all_denied (x ∷ xs) [] p q e = cc
    all_denied (x ∷ xs) (y ∷ ys) p q e =
        one_denied x y xs ys
        (same_element x y (p x (0, refl)) (q y (0, refl)) (let first : element_of v x ≡ element_of v y = cc in first))
        (all_denied xs ys (λ z c. p z (suc c.0, c.1)) (λ z c. q z (suc c.0, c.1)) (let rest : elements_of v xs ≡ elements_of v ys = cc in rest))

    -- so applications of one symbol on the same elements are the same
    same_applications : (f : Symbol) (a : Sort) (ts us : Terms) → Contains all (Apply f a ts) → Contains all (Apply f a us) → elements_of v (items ts) ≡ elements_of v (items us) → AreSame s v (Apply f a ts) (Apply f a us)
    same_applications f a ts us c d e =
        let t = Apply f a ts in
        let u = Apply f a us in
        let denied = all_denied (items ts) (items us) (λ x m. whole.parted t x c m) (λ x m. whole.parted u x d m) e in
        same_where t u c d (a, has_sort (whole.sorted t c) refl, has_sort (whole.sorted u d) refl)
        (λ k q. last_true v denied.clause k denied.denied (clause_holds _ (grounded.congruent t u k denied.clause c d refl denied.pairs q)))

    -- no constant is called on what an application is
    mixed : (f : Symbol) (a : Sort) (ts : Terms) → Contains all (Apply f a ts) → [] ≡ elements_of v (items ts) → ⊥
    mixed f a NoTerms c e = applied stack formed f a c
    mixed f a (MoreTerms t ts) c e = cc

    -- calls of one symbol on the same elements have one element
    same_calls : (t u : Term) (f : Symbol) (a : Sort) (xs ys : List Term) → Contains all t → Contains all u → IsCall t f a xs → IsCall u f a ys → elements_of v xs ≡ elements_of v ys → element_of v t ≡ element_of v u
    same_calls t u f a xs ys c d (constant _ _) (constant _ _) e = refl
    same_calls t u f a xs ys c d (constant _ _) (applies _ _ us) e = absurd (mixed f a us d e)
    same_calls t u f a xs ys c d (applies _ _ ts) (constant _ _) e = absurd (mixed f a ts c (sym e))
    same_calls t u f a xs ys c d (applies _ _ ts) (applies _ _ us) e = element_same (Apply f a ts) (Apply f a us) c d (same_applications f a ts us c d e)

    -- the assignment agrees
    agreed : Agrees all v
    agreed = record {
      rows = λ t k c h other defined. clause_holds c (grounded.rows t k c (grounded.within t h) defined);
      picks = λ c x y at other. picked (v.truth c) c x y at other refl;
      equalities = equalities;
      congruent = same_calls;
    }

-- ---- the laws
pub equivalence : SatisfiedIsEquivalence
equivalence stack s v formed grounded satisfied = record { turned = same_turned s v; joined = same_joined stack s v formed grounded satisfied }

pub agrees : SatisfiedAgrees
agrees stack s v formed grounded satisfied classed = agreed stack s v formed grounded satisfied classed

pub assigns : SatisfiedAssigns
assigns stack s v formed plain grounded satisfied classed = record {
  sorted = formed.sorted;
  no_number = plain;
  agrees = agreed stack s v formed grounded satisfied classed;
  asserted = in_each (λ t. v.truth t ≡ true) stack.assertions (λ t c. true_is (v.truth t) (clause_holds stack s v formed grounded satisfied _ (grounded.asserted t c)));
}
