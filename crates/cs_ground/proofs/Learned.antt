-- What a search has learned, clause by clause.
use Rattle.std.proofs.Common.{◌≡◌, ◌+◌, ◌<◌, ◌≤◌, inl, inr, ℕ, zero, suc, List, [], ◌∷◌, ◌++◌, get_or, length, map, take, reverse, Some, None, slice_get, refl, sym, ◌∙◌, ap, subst, arith}
use Rattle.std.proofs.lemmas.List.{length-append, map-append, take-append-le, take_more, length-map, length-take-le}
use Rattle.std.proofs.lemmas.List.Elements.{All-nil}
use Rattle.std.proofs.lemmas.Option.{slice_get_within, get_or_from_slice_get}
use Rattle.cs_certificate.specs.Certificate.{Stack, At, Contains}
use Rattle.cs_certificate.specs.declared.literal.Literal.{Literal}
use Rattle.cs_certificate.specs.declared.literal.Clause.{Clause}
use Rattle.cs_certificate.specs.Bridge.{views}
use Rattle.cs_derivation.specs.Reached.{Reached, state_of}
use Rattle.cs_derivation.specs.View.{reached}
use Rattle.cs_derivation.specs.declared.derivation.Derivation.{Derivation}
use Rattle.cs_search.specs.declared.search.Hints.{Hints}
use Rattle.cs_search.specs.Extended.{AreKnown}
use Rattle.cs_search.specs.Propagation.{IsDerived}
use Rattle.cs_search.specs.Search.{Learns, learns_none, learns_more}
use Rattle.cs_search.proofs.Gets.{get_push_old, get_push_new, get_push_cases}
use Rattle.cs_ground.specs.Atoms.{literals, terms_of}
use Rattle.cs_ground.specs.Replayed.{Follows, IsLearned}

take_all : {A : Type 0} (xs : List A) → take (length xs) xs ≡ xs
take_all [] = refl
take_all (x ∷ xs) = ap (λ ys. x ∷ ys) (take_all xs)

take_past : {A : Type 0} (n : ℕ) (xs : List A) → length xs ≤ n → take n xs ≡ xs
take_past zero [] le = refl
take_past zero (x ∷ xs) le = absurd (omega arith)
take_past (suc n) [] le = refl
take_past (suc n) (x ∷ xs) le = ap (λ ys. x ∷ ys) (take_past n xs (omega arith))

-- a derivation's clauses are as many as those of its state
pub counted : (d : Derivation) → length d.clauses.items ≡ length (state_of (reached d)).clauses
counted d = sym (length-map (literals d.clauses.items) (views (reached d).terms) ∙ length-map d.clauses.items (λ c. c.literals.items))

-- the clauses behind the first ones, each with its hints
pub record AreLearned (first : ℕ) (clauses : List Clause) (steps : List Hints) : Type 0 where
  pub count : length clauses ≡ first + length steps
  pub each : (i : ℕ) (c : Clause) (h : Hints) → At clauses (first + i) c → At steps i h → IsDerived (take (first + i) clauses) c.literals.items (reverse h.numbers.items)

-- one more
learned_more : (first : ℕ) (clauses : List Clause) (steps : List Hints) (c : Clause) (h : Hints) → AreLearned first clauses steps → IsDerived clauses c.literals.items (reverse h.numbers.items) → AreLearned first (clauses ++ c ∷ []) (steps ++ h ∷ [])
learned_more first clauses steps c h are d = record {
  count = length-append clauses (c ∷ []) ∙ ap (λ n. n + 1) are.count ∙ (let e : first + length steps + 1 ≡ first + (length steps + 1) = omega arith in e) ∙ ap (λ n. first + n) (sym (length-append steps (h ∷ [])));
  each = λ i x k at hat. elim (get_push_cases steps i h k hat) [
    | inl old ↦ (
        let lt : i < length steps = slice_get_within steps i k old in
        let le : first + i < length clauses = (let n = are.count in omega arith) in
        elim (get_push_cases clauses (first + i) c x at) [
          | inl o ↦ subst (λ cs. IsDerived cs x.literals.items (reverse k.numbers.items)) (sym (take-append-le (first + i) clauses (c ∷ []) (omega arith))) (are.each i x k o old)
          | inr w ↦ absurd (let e : first + i ≡ length clauses = w.0 in omega arith)
        ])
    | inr w ↦ (
        let end : first + i ≡ length clauses = ap (λ n. first + n) w.0 ∙ sym are.count in
        elim (get_push_cases clauses (first + i) c x at) [
          | inl o ↦ absurd (let lt = slice_get_within clauses (first + i) x o in omega arith)
          | inr v ↦
              let whole : take (first + i) (clauses ++ c ∷ []) ≡ clauses = ap (λ n. take n (clauses ++ c ∷ [])) end ∙ take-append-le (length clauses) clauses (c ∷ []) (omega arith) ∙ take_all clauses in
              subst (λ cs. IsDerived cs x.literals.items (reverse k.numbers.items)) (sym whole)
              (subst (λ (y : Clause). IsDerived clauses y.literals.items (reverse k.numbers.items)) (sym v.1) (subst (λ (j : Hints). IsDerived clauses c.literals.items (reverse j.numbers.items)) (sym w.1) d))
        ])
  ];
}

-- what a search learns
pub learned : (first : List Clause) (none : List Hints) (clauses : List Clause) (steps : List Hints) → none ≡ [] → Learns first none clauses steps → AreLearned (length first) clauses steps
learned first none _ _ e learns_none = record {
  count = (let z : length none ≡ 0 = ap length e in omega arith);
  each = λ i c h at hat. (let no : slice_get [] i ≡ Some h = ap (λ xs. slice_get xs i) (sym e) ∙ hat in let f : None ≡ Some h = no in cc);
}
learned first none _ _ e (learns_more {new = new} {after = after} c hints rest derived falsified fresh) = learned_more (length first) new after c hints (learned first none new after e rest) derived

-- the first clauses stay
pub first_stay : (first : List Clause) (before : List Hints) (clauses : List Clause) (steps : List Hints) → Learns first before clauses steps → (length first ≤ length clauses) × (take (length first) clauses ≡ first)
first_stay first before _ _ learns_none = (omega arith, take_all first)
first_stay first before _ _ (learns_more {new = new} {after = after} c hints rest derived falsified fresh) =
    let w = first_stay first before new after rest in
    let le = w.0 in
    (omega (arith, length-append new (c ∷ [])), take-append-le (length first) new (c ∷ []) w.0 ∙ w.1)

-- so they stand where they stood
pub first_at : (first : List Clause) (before : List Hints) (clauses : List Clause) (steps : List Hints) → Learns first before clauses steps → (i : ℕ) (c : Clause) → At first i c → At clauses i c
first_at first before _ _ learns_none i c at = at
first_at first before _ _ (learns_more {new = new} {after = after} d hints rest derived falsified fresh) i c at = get_push_old new i d c (first_at first before new after rest i c at)

-- what stands in front stands in the whole
pub front_at : {A : Type 0} (n : ℕ) (xs : List A) (i : ℕ) (x : A) → At (take n xs) i x → At xs i x
front_at zero [] i x at = cc
front_at zero (y ∷ ys) i x at = (let e : None ≡ Some x = at in cc)
front_at (suc n) [] i x at = cc
front_at (suc n) (y ∷ ys) zero x at = at
front_at (suc n) (y ∷ ys) (suc i) x at = front_at n ys i x at

-- the first clauses are known where all are
known_front : (n count : ℕ) (clauses : List Clause) → AreKnown clauses count → AreKnown (take n clauses) count
known_front n count clauses k i c at = k i c (front_at n clauses i c at)

-- ---- the loop over what was learned
module _ (stack : Stack) (atoms : List ℕ) (first clauses : List Clause) (steps : List Hints) (known : AreKnown clauses (length atoms)) (l : Learns first [] clauses steps) where
  are : AreLearned (length first) clauses steps
  are = learned first [] clauses steps refl l

  -- at the start
  pub begins : (r : Reached) → Follows stack atoms (literals first) r → Follows stack atoms (literals (take (length first + 0) clauses)) r
  begins r f =
      let e : length first + 0 ≡ length first = omega arith in
      subst (λ cs. Follows stack atoms (literals cs) r) (sym (ap (λ n. take n clauses) e ∙ (first_stay first [] clauses steps l).1)) f

  module _ (i : ℕ) (r : Reached) (f : Follows stack atoms (literals (take (length first + i) clauses)) r) (n : ℕ) (en : n ≡ length (state_of r).clauses) (lt : i < length steps) where
    -- the next clause's number
    pub next : n ≡ length first + i
    next = en ∙ ap length f.same ∙ length-map (literals (take (length first + i) clauses)) _ ∙ length-map (take (length first + i) clauses) _ ∙ length-take-le (length first + i) clauses (let c = are.count in omega arith)

    pub within : n < length clauses
    within = let c = are.count in let e = next in omega arith

    module _ (c : Clause) (at : At clauses n c) (h : Hints) (hat : At steps i h) where
      -- its hints derive it
      pub is_learned : IsLearned atoms (take (length first + i) clauses) c.literals.items h.numbers.items
      is_learned = record {
        known = known_front (length first + i) (length atoms) clauses known;
        within = known n c at;
        derived = are.each i c h (subst (λ m. At clauses m c) next at) hat;
      }

      -- and then there is one more
      pub goes_on : (q : Reached) → Follows stack atoms (literals (take (length first + i) clauses) ++ c.literals.items ∷ []) q → Follows stack atoms (literals (take (length first + (i + 1)) clauses)) q
      goes_on q g =
          let lt' : length first + i < length clauses = (let e = next in let w = within in omega arith) in
          let item : get_or clauses (length first + i) c ≡ c = get_or_from_slice_get clauses (length first + i) c c (subst (λ m. At clauses m c) next at) in
          let more : take (length first + (i + 1)) clauses ≡ take (length first + i) clauses ++ c ∷ [] =
          (let s : length first + (i + 1) ≡ length first + i + 1 = omega arith in ap (λ m. take m clauses) s ∙ take_more clauses (length first + i) c lt' ∙ ap (λ y. take (length first + i) clauses ++ y ∷ []) item) in
          subst (λ ls. Follows stack atoms ls q) (sym (ap literals more ∙ map-append (λ c. c.literals.items) (take (length first + i) clauses) (c ∷ []))) g

  -- at the end
  pub ends : (i : ℕ) (r : Reached) → length steps ≤ i → Follows stack atoms (literals (take (length first + i) clauses)) r → Follows stack atoms (literals clauses) r
  ends i r le f = subst (λ cs. Follows stack atoms (literals cs) r) (take_past (length first + i) clauses (let n = are.count in omega arith)) f

-- with the empty clause there is one
pub empty_stands : (stack : Stack) (atoms : List ℕ) (clauses : List (List Literal)) (r : Reached) → Follows stack atoms (clauses ++ [] ∷ []) r → Contains (state_of r).clauses []
empty_stands stack atoms clauses r f =
    (length (map (views (terms_of r.terms atoms)) clauses), subst (λ cs. At cs (length (map (views (terms_of r.terms atoms)) clauses)) []) (sym (f.same ∙ map-append (views (terms_of r.terms atoms)) clauses ([] ∷ []))) (get_push_new (map (views (terms_of r.terms atoms)) clauses) []))

-- which hints derive from all clauses
pub nothing_more : (atoms : List ℕ) (clauses : List Clause) (hints : List ℕ) → AreKnown clauses (length atoms) → IsDerived clauses [] (reverse hints) → IsLearned atoms clauses [] hints
nothing_more atoms clauses hints known d = record { known = known; within = All-nil (λ l. l.number < length atoms); derived = d }

-- in the same clauses and steps
pub learns_over : (first clauses clauses' : List Clause) (steps steps' : List Hints) → clauses' ≡ clauses → steps' ≡ steps → Learns first [] clauses steps → Learns first [] clauses' steps'
learns_over first clauses clauses' steps steps' ec es l =
    let P : List Clause → Type 0 = λ cs. Learns first [] cs steps' in
    let Q : List Hints → Type 0 = λ ss. Learns first [] clauses ss in
    subst P (sym ec) (subst Q (sym es) l)
