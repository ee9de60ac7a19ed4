-- The step of a clause that hints derive.
use Rattle.std.proofs.Common.{◌≡◌, ◌<◌, ℕ, suc, Bool, true, false, not, List, [], ◌∷◌, ◌++◌, get_or, length, map, reverse, Some, None, refl, sym, ◌∙◌, ap, ap₂, subst, arith}
use Rattle.std.specs.Prelude.{Option, Ok}
use Rattle.std.specs.List.{All}
use Rattle.std.proofs.lemmas.List.{map-append, length-map, get_or-map}
use Rattle.std.proofs.lemmas.List.Elements.{All-head, All-tail}
use Rattle.std.proofs.lemmas.Option.{slice_get-get_or, get_or_from_slice_get, slice_get_within}
use Rattle.vx_terms.specs.Sorts.{BoolSort}
use Rattle.vx_terms.specs.Terms.{Term, Truth}
use Rattle.vx_terms.specs.Interpretations.{Each}
use Rattle.cs_certificate.specs.Terms.{HasSort}
use Rattle.cs_certificate.specs.Certificate.{Yes, No, Sign, Plain, Negated, NumberedLiteral, Propagate, Stack, State, At, Reads, reads-plain, reads-negated, ReadsAll, no-literals, one-literal, Refutes, ends, forces, Derives, propagate}
use Rattle.cs_certificate.specs.Certificate as certificate
use Rattle.cs_certificate.specs.Nodes.{Represents}
use Rattle.cs_certificate.proofs.Find.{one_at}
use Rattle.cs_table.specs.Gives.{sign_of}
use Rattle.cs_tables.proofs.Made.{represents}
use Rattle.cs_certificate.specs.declared.literal.Literal.{Literal}
use Rattle.cs_certificate.specs.declared.literal.Clause.{Clause}
use Rattle.cs_certificate.specs.Bridge.{term_at, signed, views, state, IsNumbered, AreDistinct}
use Rattle.cs_certificate.proofs.Bridged.{bridged}
use Rattle.cs_derivation.specs.Reached.{Reached, state_of, Adds}
use Rattle.cs_derivation.specs.Reached as derivation
use Rattle.cs_derivation.specs.Taken.{numbered}
use Rattle.cs_search.specs.Assignment.{negated}
use Rattle.cs_search.proofs.Refuted.{derived_refutes}
use Rattle.cs_ground.specs.Atoms.{all_named, literals, terms_of}
use Rattle.cs_ground.specs.Replayed.{Follows, IsLearned}

-- ---- lists
-- what holds of all holds of each
all_each : {A : Type 0} (P : A → Type 0) (xs : List A) → All P xs → Each P xs
all_each P [] h = tt
all_each P (x ∷ xs) h = (All-head P x xs h, all_each P xs (All-tail P x xs h))

-- by place
placed_each : {A : Type 0} (P : A → Type 0) (xs : List A) → ((i : ℕ) (x : A) → At xs i x → P x) → Each P xs
placed_each P [] h = tt
placed_each P (x ∷ xs) h = (h 0 x refl, placed_each P xs (λ i y at. h (suc i) y at))

-- of a list that is mapped
each_map : {A B : Type 0} (f : A → B) (P : B → Type 0) (xs : List A) → Each (λ x. P (f x)) xs → Each P (map f xs)
each_map f P [] h = tt
each_map f P (x ∷ xs) h = (h.0, each_map f P xs h.1)

-- clauses by their literals
literals_viewed : (bools : List Term) (cs : List Clause) → map (λ c. views bools c.literals.items) cs ≡ map (views bools) (literals cs)
literals_viewed bools [] = refl
literals_viewed bools (c ∷ cs) = ap (λ l. views bools c.literals.items ∷ l) (literals_viewed bools cs)

-- ---- literals
viewed_negated : (bools : List Term) (b : Bool) (t : Term) → signed (not b) t ≡ certificate.negated (signed b t)
viewed_negated bools true t = refl
viewed_negated bools false t = refl

views_negated : (bools : List Term) (ls : List Literal) → views bools (map negated ls) ≡ map certificate.negated (views bools ls)
views_negated bools [] = refl
views_negated bools (l ∷ ls) = ap₂ (λ x xs. x ∷ xs) (viewed_negated bools l.positive (term_at bools l.number)) (views_negated bools ls)

-- the literal with a sign of a term
abbrev of_sign : Sign → Term → certificate.Literal
of_sign Plain t = Yes t
of_sign Negated t = No t

reads_is : {s : State} {n : NumberedLiteral} {l : certificate.Literal} → Reads s n l → (t : Term) × At s.terms n.number t × (l ≡ of_sign n.sign t)
reads_is (reads-plain {t = t} at sorted) = (t, at, refl)
reads_is (reads-negated {t = t} at sorted) = (t, at, refl)

one_read : {s : State} {n : NumberedLiteral} (l k : certificate.Literal) → Reads s n l → Reads s n k → l ≡ k
one_read {s = s} {n = n} l k x y =
    let a = reads_is x in
    let b = reads_is y in
    a.2 ∙ ap (of_sign n.sign) (one_at s.terms n.number a.0 b.0 a.1 b.1) ∙ sym b.2

all_one_read : {s : State} {ns : List NumberedLiteral} (c d : certificate.Clause) → ReadsAll s ns c → ReadsAll s ns d → c ≡ d
all_one_read c d no-literals no-literals = refl
all_one_read c d (one-literal x xs) (one-literal y ys) = ap₂ (λ l ls. l ∷ ls) (one_read _ _ x y) (all_one_read _ _ xs ys)

-- a propagation's literals
propagated : {stack : Stack} {s : State} {ns : List NumberedLiteral} {hs : List ℕ} {c : certificate.Clause} → Derives stack s (Propagate ns hs) c → ReadsAll s ns c
propagated (propagate reads refutes) = reads

reads_one : (s : State) (b : Bool) (n : ℕ) (t : Term) → At s.terms n t → HasSort t BoolSort → Reads s (record { sign = sign_of b; number = n }) (signed b t)
reads_one s true n t at sorted = reads-plain at sorted
reads_one s false n t at sorted = reads-negated at sorted

-- ---- what refutes looks at clauses alone
refutes_over : (s u : State) → s.clauses ≡ u.clauses → {assumed : List certificate.Literal} {hs : List ℕ} → Refutes s assumed hs → Refutes u assumed hs
refutes_over s u e (ends {h = h} {c = c} at none) = ends (subst (λ cs. At cs h c) e at) none
refutes_over s u e (forces {h = h} {c = c} at free only rest) = forces (subst (λ cs. At cs h c) e at) free only (refutes_over s u e rest)

-- ---- one clause
module _ (stack : Stack) (atoms : List ℕ) (r : Reached) (clauses : List Clause) (f : Follows stack atoms (literals clauses) r) where
  abbrev bools : List Term
  bools = terms_of r.terms atoms

  -- the term of an atom
  pub atom_term : (a n : ℕ) → At atoms a n → (t : Term) × At r.terms n t × HasSort t BoolSort × (term_at bools a ≡ t)
  atom_term a n at =
      let w = f.bools a n at in
      let lt : a < length atoms = within a n at in
      (w.0, w.1, w.2, get_or-map (term_at r.terms) atoms a n (Truth true) lt ∙ ap (term_at r.terms) (get_or_from_slice_get atoms a n n at) ∙ get_or_from_slice_get r.terms n w.0 (Truth true) w.1)
    where
      within : (a n : ℕ) → At atoms a n → a < length atoms
      within a n at = slice_get_within atoms a n at

  count : length bools ≡ length atoms
  count = length-map atoms (term_at r.terms)

  pub represented : Represents r.nodes r.terms
  represented = represents r.terms r.nodes f.stands.table f.stands.nodes

  -- each of them has one atom
  distinct : AreDistinct bools
  distinct m n lm ln e =
      let am = slice_get-get_or atoms m 0 (omega (arith, count)) in
      let an = slice_get-get_or atoms n 0 (omega (arith, count)) in
      let tm = atom_term m (get_or atoms m 0) am in
      let tn = atom_term n (get_or atoms n 0) an in
      let same : tm.0 ≡ tn.0 = sym tm.3 ∙ e ∙ tn.3 in
      let number : get_or atoms m 0 ≡ get_or atoms n 0 = represented.distinct _ _ tn.0 (subst (At r.terms (get_or atoms m 0)) same tm.1) tn.1 in
      f.distinct m n (get_or atoms n 0) (subst (At atoms m) number am) an

  module _ (ls : List Literal) (hints : List ℕ) (l : IsLearned atoms clauses ls hints) where
    numbered_atoms : (ks : List Literal) → All (λ k. k.number < length atoms) ks → Each (IsNumbered bools) ks
    numbered_atoms ks h = subst (λ n. Each (λ k. k.number < n) ks) (sym count) (all_each (λ k. k.number < length atoms) ks h)

    refuted : Refutes (state_of r) (map certificate.negated (views bools ls)) (reverse hints)
    refuted =
        let by = bridged bools clauses (map negated ls) (reverse hints) distinct (each_map negated (IsNumbered bools) ls (numbered_atoms ls l.within)) (placed_each _ clauses (λ i c at. numbered_atoms c.literals.items (l.known i c at))) (derived_refutes clauses ls (reverse hints) l.derived) in
        subst (λ ks. Refutes (state_of r) ks (reverse hints)) (views_negated bools ls) (refutes_over (state bools clauses) (state_of r) (literals_viewed bools clauses ∙ sym f.same) by)

    reads : (ks : List Literal) → All (λ k. k.number < length atoms) ks → ReadsAll (state_of r) (map numbered (all_named atoms ks)) (views bools ks)
    reads [] h = no-literals
    reads (k ∷ ks) h =
        let at = slice_get-get_or atoms k.number 0 (All-head (λ k. k.number < length atoms) k ks h) in
        let w = atom_term k.number (get_or atoms k.number 0) at in
        one-literal (subst (λ t. Reads (state_of r) (record { sign = sign_of k.positive; number = get_or atoms k.number 0 }) (signed k.positive t)) (sym w.3) (reads_one (state_of r) k.positive (get_or atoms k.number 0) w.0 w.1 w.2))
        (reads ks (All-tail (λ k. k.number < length atoms) k ks h))

    -- the step derives the clause
    pub derived : Derives stack (state_of r) (Propagate (map numbered (all_named atoms ls)) (reverse hints)) (views bools ls)
    derived = propagate (reads ls l.within) refuted

    -- and no other; so behind it the clauses are the same again
    pub told : (q : Reached) (n : ℕ) → derivation.IsDerived stack (Propagate (map numbered (all_named atoms ls)) (reverse hints)) r q n → Follows stack atoms (literals clauses ++ ls ∷ []) q
    told q n d =
        let terms : q.terms ≡ r.terms = ap (λ s. s.terms) d.state in
        let clause : d.clause ≡ views bools ls = all_one_read _ _ (propagated d.derives) (reads ls l.within) in
        record {
          stands = d.stands;
          bools = λ a n at. subst (λ ts. (t : Term) × At ts n t × HasSort t BoolSort) (sym terms) (f.bools a n at);
          distinct = f.distinct;
          same = ap (λ s. s.clauses) d.state ∙ ap₂ (λ cs c. cs ++ c ∷ []) f.same clause ∙ sym (map-append (views bools) (literals clauses) (ls ∷ [])) ∙ ap (λ ts. map (views (terms_of ts atoms)) (literals clauses ++ ls ∷ [])) (sym terms);
        }

    -- so a propagation of these gives them
    module _ (E : Type 0) (q : Reached) (o : Option ℕ) (ns : List Literal) (hs : List ℕ) (en : ns ≡ all_named atoms ls) (eh : hs ≡ reverse hints) (a : Adds {E = E} stack (Propagate (map numbered ns) hs) r q (Ok o)) where
      abbrev P : List Literal → List ℕ → Option ℕ → Type 0
      P ks js x = Adds {E = E} stack (Propagate (map numbered ks) js) r q (Ok x)

      again : (x : Option ℕ) → o ≡ x → P (all_named atoms ls) (reverse hints) x
      again x e = subst (P (all_named atoms ls) (reverse hints)) e (subst (λ js. P (all_named atoms ls) js o) eh (subst (λ ks. P ks hs o) en a))

      pub told_by : (n : ℕ) → o ≡ Some n → Follows stack atoms (literals clauses ++ ls ∷ []) q
      told_by n e = told q n (again (Some n) e)

      pub never_none : o ≡ None → ⊥
      never_none e = (again None e).1 (views bools ls) derived
