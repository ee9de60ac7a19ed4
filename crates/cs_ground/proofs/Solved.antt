-- The assignment that truths and classes by number are.
use Rattle.std.proofs.Common.{◌≡◌, ◌<◌, ◌≤◌, ◌⊎◌, inl, inr, ℕ, zero, suc, Bool, true, false, not, ◌||◌, if◌then◌else◌, List, [], ◌∷◌, get_or, length, map, Option, Some, None, slice_get, refl, sym, ◌∙◌, ap, subst, arith}
use Rattle.std.specs.List.{Contains as Holds}
use Rattle.std.specs.Option.{option_map}
use Rattle.std.proofs.lemmas.List.{length-map, get_or-map}
use Rattle.std.proofs.lemmas.List.Elements.{All-contains}
use Rattle.std.proofs.lemmas.Option.{slice_get_within, slice_get-get_or, get_or_from_slice_get, same_Some}
use Rattle.vx_terms.specs.Terms.{Term, Truth, same, sort_of}
use Rattle.vx_terms.specs.Interpretations.{Each}
use Rattle.vx_terms.proofs.Same.{term_is}
use Rattle.vx_terms.proofs.Values.{sort_of_formed}
use Rattle.cs_certificate.specs.Terms.{numbered}
use Rattle.cs_certificate.specs.Certificate.{Stack, At}
use Rattle.cs_certificate.specs.Nodes.{Node, Represents, equality}
use Rattle.cs_certificate.proofs.Find.{one_at}
use Rattle.cs_numbers.proofs.Itself.{term_same}
use Rattle.cs_certificate.proofs.Look.{tells_equalities}
use Rattle.cs_numbers.specs.Numbering.{place}
use Rattle.cs_certificate.specs.declared.literal.Literal.{Literal}
use Rattle.cs_certificate.specs.declared.literal.Clause.{Clause as Clause'}
use Rattle.cs_certificate.specs.Bridge.{signed, view, views}
use Rattle.cs_classes.specs.Elements.{Assignment}
use Rattle.cs_classes.specs.Agreement.{holds, satisfies}
use Rattle.cs_classes.specs.Laws.{IsAssigned}
use Rattle.cs_derivation.specs.Reached.{Reached, state_of}
use Rattle.cs_ground.specs.Ground.{IsGround, Satisfies}
use Rattle.cs_ground.specs.Classed.{AreSame, identical, equated, AreClassed}
use Rattle.cs_ground.specs.Laws.{IsEquivalence, SatisfiedIsEquivalence, SatisfiedAssigns}
use Rattle.cs_search.specs.declared.Value.{Value}
use Rattle.cs_search.specs.declared.Value.TheVariants.{Unset, Positive, Negative}
use Rattle.cs_search.specs.declared.Status.TheVariants.{True}
use Rattle.cs_search.specs.Assignment.{seen_or, status_of}
use Rattle.cs_search.proofs.Added.{contains_nothing, contains_split}
use Rattle.cs_tables.specs.Told.{Tells}
use Rattle.cs_ground.specs.Answers.{IsPlain}
use Rattle.cs_ground.specs.Atoms.{AreAtoms, literals, terms_of}
use Rattle.cs_ground.specs.Replayed.{Follows}
use Rattle.cs_ground.specs.Assigned.{is_positive, is_true, truth_at, is_equated, IsClass, AreClasses, AreSolving}
use Rattle.cs_ground.proofs.Learned.{front_at}
use Rattle.cs_ground.proofs.Replayed.{atom_term, represented}

-- ---- the number of a term
tail_one : (u : Term) (us : List Term) → ((j k : ℕ) (t : Term) → At (u ∷ us) j t → At (u ∷ us) k t → j ≡ k) → (j k : ℕ) (t : Term) → At us j t → At us k t → j ≡ k
tail_one u us one j k t x y = let e : suc j ≡ suc k = one (suc j) (suc k) t x y in omega arith

place_is : (terms : List Term) (n : ℕ) (t : Term) → ((j k : ℕ) (t : Term) → At terms j t → At terms k t → j ≡ k) → At terms n t → place terms t ≡ Some n
place_is [] n t one at = cc
place_is (u ∷ us) zero t one at =
    let is : u ≡ t = same_Some _ _ at in
    ap (λ b. if b then Some 0 else option_map suc (place us t)) (ap (same t) is ∙ term_same t)
place_is (u ∷ us) (suc n) t one at = go (same t u) refl (place_is us n t (tail_one u us one) at)
  where
    go : (b : Bool) → same t u ≡ b → place us t ≡ Some n → place (u ∷ us) t ≡ Some (suc n)
    go true e rest = absurd (let z : suc n ≡ 0 = one (suc n) 0 t at (ap Some (sym (term_is t u e))) in omega arith)
    go false e rest = ap (λ b. if b then Some 0 else option_map suc (place us t)) e ∙ ap (option_map suc) rest

-- ---- the assignment
abbrev number_in : List ℕ → Option ℕ → ℕ
number_in classes None = 0
number_in classes (Some n) = get_or classes n 0

-- the truths and the classes at the terms' numbers
abbrev pub assignment : List Term → List Bool → List ℕ → Assignment
assignment terms truths classes = record { truth = λ t. truth_at truths (place terms t); class = λ t. number_in classes (place terms t) }

-- a literal that is true
signed_holds : (v : Assignment) (b : Bool) (t : Term) (o : Option Value) (p : ℕ) → seen_or b o ≡ True p → v.truth t ≡ is_positive o → holds v (signed b t) ≡ true
signed_holds v true t None p s e = cc
signed_holds v true t (Some Unset) p s e = cc
signed_holds v true t (Some (Positive q)) p s e = e
signed_holds v true t (Some (Negative q)) p s e = cc
signed_holds v false t None p s e = cc
signed_holds v false t (Some Unset) p s e = cc
signed_holds v false t (Some (Positive q)) p s e = cc
signed_holds v false t (Some (Negative q)) p s e = ap not e

-- satisfies its clause
holds_satisfies : (v : Assignment) (bools : List Term) (ls : List Literal) (l : Literal) → Holds ls l → holds v (view bools l) ≡ true → satisfies v (views bools ls) ≡ true
holds_satisfies v bools [] l c e = absurd (contains_nothing l c)
holds_satisfies v bools (k ∷ ks) l c e = elim (contains_split k ks l c) [
  | inl is ↦ ap (λ b. b || satisfies v (views bools ks)) (ap (λ x. holds v (view bools x)) is ∙ e)
  | inr more ↦ (let h = holds_satisfies v bools ks l more e in or_right (holds v (view bools k)) h)
]
  where
    or_right : (b : Bool) {c : Bool} → c ≡ true → (b || c) ≡ true
    or_right true e = refl
    or_right false e = e

each_at : {A : Type 0} (P : A → Type 0) (xs : List A) → ((i : ℕ) (x : A) → At xs i x → P x) → Each P xs
each_at P [] h = tt
each_at P (x ∷ xs) h = (h 0 x refl, each_at P xs (λ i y at. h (suc i) y at))

each_mapped : {A B : Type 0} (f : A → B) (P : B → Type 0) (xs : List A) → Each (λ x. P (f x)) xs → Each P (map f xs)
each_mapped f P [] h = tt
each_mapped f P (x ∷ xs) h = (h.0, each_mapped f P xs h.1)

module _ (stack : Stack) (r : Reached) (count : ℕ) (g : IsGround stack r count) (atoms places : List ℕ) (are : AreAtoms r.nodes atoms places) (clauses : List Clause') (f : Follows stack atoms (literals clauses) r)
    (values : List Value) (sol : AreSolving atoms clauses values) (truths : List Bool) (told : truths ≡ map (is_true values) places) (classes : List ℕ) (by : AreClasses r.nodes truths count classes) where
  abbrev v : Assignment
  v = assignment r.terms truths classes

  rep : Represents r.nodes r.terms
  rep = represented stack atoms r clauses f

  placed : (n : ℕ) (t : Term) → At r.terms n t → place r.terms t ≡ Some n
  placed n t at = place_is r.terms n t rep.distinct at

  truth_is : (n : ℕ) (t : Term) → At r.terms n t → v.truth t ≡ get_or truths n false
  truth_is n t at = ap (truth_at truths) (placed n t at)

  class_is : (n : ℕ) (t : Term) → At r.terms n t → v.class t ≡ get_or classes n 0
  class_is n t at = ap (number_in classes) (placed n t at)

  -- the truth of an atom's term
  atom_truth : (a n : ℕ) (t : Term) → At atoms a n → At r.terms n t → v.truth t ≡ is_true values a
  atom_truth a n t at here =
      let p = (are.named a n at).1 in
      truth_is n t here ∙ ap (λ xs. get_or xs n false) told ∙ get_or-map (is_true values) places n a false (slice_get_within places n a p) ∙ ap (is_true values) (get_or_from_slice_get places n a a p)

  literal_holds : (l : Literal) (p : ℕ) → l.number < length atoms → status_of values l ≡ True p → holds v (view (terms_of r.terms atoms) l) ≡ true
  literal_holds l p lt s =
      let at = slice_get-get_or atoms l.number 0 lt in
      let w = atom_term stack atoms r clauses f l.number (get_or atoms l.number 0) at in
      subst (λ t. holds v (signed l.positive t) ≡ true) (sym w.3) (signed_holds v l.positive w.0 (slice_get values l.number) p s (atom_truth l.number (get_or atoms l.number 0) w.0 at w.1))

  pub satisfied : Satisfies v (state_of r)
  satisfied = subst (Each (λ c. satisfies v c ≡ true)) (sym f.same)
      (each_mapped (views (terms_of r.terms atoms)) (λ c. satisfies v c ≡ true) (literals clauses)
      (each_mapped (λ (c : Clause'). c.literals.items) (λ ls. satisfies v (views (terms_of r.terms atoms) ls) ≡ true) clauses
      (each_at _ clauses (λ i c at. (let w = sol.satisfied i c at in
      holds_satisfies v (terms_of r.terms atoms) c.literals.items w.0 w.2 (literal_holds w.0 w.1 (All-contains (λ l. l.number < length atoms) c.literals.items w.0 (sol.known i c at) w.2) w.3))))))

  -- ---- the terms of the assertions
  first_at : (n : ℕ) (t : Term) → At (numbered stack.assertions) n t → At r.terms n t
  first_at n t at = front_at count r.terms n t (subst (λ ts. At ts n t) (sym g.front) at)

  first_below : (n : ℕ) (t : Term) → At (numbered stack.assertions) n t → n < count
  first_below n t at = let lt = slice_get_within (numbered stack.assertions) n t at in let e = g.number in omega arith

  below_first : (n : ℕ) → n < count → (t : Term) × At (numbered stack.assertions) n t
  below_first n lt =
      let lt' : n < length (numbered stack.assertions) = (let e = g.number in omega arith) in
      (get_or (numbered stack.assertions) n (Truth true), slice_get-get_or (numbered stack.assertions) n (Truth true) lt')

  class_at : (n : ℕ) (t : Term) → At (numbered stack.assertions) n t → IsClass r.nodes truths n (v.class t)
  class_at n t at =
      let lt : n < length classes = (let b = first_below n t at in let e = by.number in omega arith) in
      subst (IsClass r.nodes truths n) (sym (class_is n t (first_at n t at))) (by.each n (get_or classes n 0) (slice_get-get_or classes n 0 lt))

  -- what is equated is the same
  equated_same : (m n : ℕ) (t u : Term) → At r.terms m t → At r.terms n u → is_equated r.nodes truths m n ≡ true → AreSame (state_of r) v t u
  equated_same m n t u am an e = go (equality r.nodes m n) refl e
    where
      go : (o : Option ℕ) → equality r.nodes m n ≡ o → truth_at truths o ≡ true → AreSame (state_of r) v t u
      go None q h = cc
      go (Some k) q h =
          let w = (tells_equalities r.nodes (state_of r) rep m n t u am an k).0 q in
          equated t u w.0 w.2 (truth_is k w.0 w.1 ∙ h)

  -- and the other way round
  same_equated : (m n : ℕ) (t u : Term) → At r.terms m t → At r.terms n u → AreSame (state_of r) v t u → (m ≡ n) ⊎ (is_equated r.nodes truths m n ≡ true)
  same_equated m n t u am an (identical _) = inl (rep.distinct m n t am an)
  same_equated m n t u am an (equated _ _ e q h) =
      let k = (tells_equalities r.nodes (state_of r) rep m n t u am an q.number).1 (e, q.here, q) in
      inr (ap (truth_at truths) k ∙ sym (truth_is q.number e q.here) ∙ h)

  module _ (q : IsEquivalence stack (state_of r) v) where
    -- the first term of a class
    first_same : (n : ℕ) (t : Term) → At (numbered stack.assertions) n t → (s : Term) × At (numbered stack.assertions) (v.class t) s × AreSame (state_of r) v s t
    first_same n t at =
        let c = class_at n t at in
        let le = c.within in
        let b = first_below n t at in
        let s = below_first (v.class t) (omega arith) in (
          s.0,
          s.1,
          elim c.same [
            | inl e ↦ (let is : s.0 ≡ t = one_at (numbered stack.assertions) n s.0 t (subst (λ k. At (numbered stack.assertions) k s.0) e s.1) at in subst (AreSame (state_of r) v s.0) is (identical s.0))
            | inr e ↦ equated_same (v.class t) n s.0 t (first_at (v.class t) s.0 s.1) (first_at n t at) e
          ],
        )

    -- is at most the class of a term that is the same
    at_most : (m n : ℕ) (t u : Term) → At (numbered stack.assertions) m t → At (numbered stack.assertions) n u → AreSame (state_of r) v t u → v.class u ≤ v.class t
    at_most m n t u am an s =
        let w = first_same m t am in
        let d = class_at n u an in
        let le = d.within in
        let j = q.joined w.0 t u (v.class t, w.1) (m, am) (n, an) w.2 s in
        elim (same_equated (v.class t) n w.0 u (first_at (v.class t) w.0 w.1) (first_at n u an) j) [
          | inl e ↦ omega arith
          | inr e ↦ le_unless (v.class t) (v.class u) (λ lt. let x : true ≡ false = sym e ∙ d.least (v.class t) lt in cc)
        ]
      where
        le_unless : (a b : ℕ) → ¬ (a < b) → b ≤ a
        le_unless a b h = omega arith

    pub classed : AreClassed stack (state_of r) v
    classed x y cx cy nx ny = (
      λ e. (let a = first_same cx.0 x cx.1 in
          let b = first_same cy.0 y cy.1 in
          let is : a.0 ≡ b.0 = one_at (numbered stack.assertions) (v.class y) a.0 b.0 (subst (λ k. At (numbered stack.assertions) k a.0) e a.1) b.1 in
          q.joined x a.0 y cx (v.class x, a.1) cy (q.turned a.0 x a.2) (subst (λ s. AreSame (state_of r) v s y) (sym is) b.2)),
      λ s. (let up = at_most cx.0 cy.0 x y cx.1 cy.1 s in let down = at_most cy.0 cx.0 y x cy.1 cx.1 (q.turned x y s) in omega arith),
    )

  -- the lists tell it
  sorted_is : (n : ℕ) (t : Term) (x : Node) → At r.terms n t → At r.nodes n x → x.sort ≡ sort_of t
  sorted_is n t x at hx =
      let w = rep.each n x hx in
      let is : w.0 ≡ t = one_at r.terms n w.0 t w.1 at in
      sym (ap sort_of (sym is) ∙ sort_of_formed (w.2).sorted.1)

  pub tells : Tells (numbered stack.assertions) truths classes v
  tells = record {
    truth = λ n t at s. (
        let here = first_at n t at in
        let x = rep.every n t here in
        let p = are.placed n (x.0, x.1, sorted_is n t x.0 here x.1 ∙ s) in
        let lt : n < length truths = (let l = slice_get_within places n p.0 p.1 in let e = ap length told ∙ length-map places (is_true values) in omega arith) in
        slice_get-get_or truths n false lt ∙ ap Some (sym (truth_is n t here)));
    class = λ n t at s. (
        let lt : n < length classes = (let b = first_below n t at in let e = by.number in omega arith) in
        slice_get-get_or classes n 0 lt ∙ ap Some (sym (class_is n t (first_at n t at))));
  }

  pub assigned : IsPlain stack → SatisfiedIsEquivalence → SatisfiedAssigns → IsAssigned stack.assertions v
  assigned plain e a = a stack (state_of r) v plain.formed plain.no_number g.grounded satisfied (classed (e stack (state_of r) v plain.formed g.grounded satisfied))
