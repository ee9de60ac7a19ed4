-- One step of conflict analysis.
use Rattle.std.proofs.Common.{◌≡◌, ℕ, zero, suc, ◌+◌, ◌<◌, ◌≤◌, ◌⊎◌, inl, inr, true, false, List, [], ◌∷◌, ◌++◌, length, reverse, Some, None, refl, sym, ◌∙◌, subst, ap, arith}
use Rattle.std.specs.List.{slice_get, Contains}
use Rattle.std.proofs.lemmas.List.{reverse-append}
use Rattle.std.proofs.lemmas.Option.{slice_get_within}
use Rattle.std.proofs.lemmas.List.Elements.{All-weaker, All-contains}
use Rattle.cs_certificate.specs.declared.literal.Literal.{Literal}
use Rattle.cs_search.specs.declared.Value.{Value}
use Rattle.cs_search.specs.declared.Entry.{Entry}
use Rattle.cs_certificate.specs.declared.literal.Clause.{Clause}
use Rattle.cs_search.specs.Assignment.{negated, FalseBefore, LeavesOnly, IsFalse, IsClosed, IsTrail}
use Rattle.cs_search.specs.Extended.{IsConflict, AreClosed}
use Rattle.cs_search.specs.Propagation.{IsDerived}
use Rattle.cs_search.specs.Learned.{IsAdded, IsResolved, IsReduced, IsLearned, IsLastDecision}
use Rattle.cs_search.proofs.Statuses.{same_atom, never_both, false_negated}
use Rattle.cs_search.proofs.Added.{contains_nothing, all_from}
use Rattle.cs_search.proofs.Resolution.{same_literal, false_lower, resolvent_derived, conflict_derived}

pub not_contained : (clauses : List Clause) (values : List Value) (trail : List Entry) (start k : ℕ) (e : Entry) (lits : List Literal) (hints : List ℕ) →
    IsTrail clauses values trail → slice_get trail k ≡ Some e → IsResolved clauses values start (k + 1) lits hints → ¬ (Contains lits (negated e.literal)) → IsResolved clauses values start k lits hints
not_contained clauses values trail start k e lits hints t at r nc = record {
  false = all_from (FalseBefore values k) lits (λ m h. elim (false_lower clauses values trail k e m t at (All-contains (FalseBefore values (k + 1)) lits m r.false h)) [
    | inl s ↦ absurd (nc (let P : Literal → Type 0 = λ x. Contains lits x in subst P s h))
    | inr f ↦ f
  ]);
  derived = r.derived;
  later = r.later;
}

pub learned_at : (clauses : List Clause) (values : List Value) (start k : ℕ) (lits : List Literal) (hints : List ℕ) (away : Literal) →
    IsResolved clauses values start k lits hints → Contains lits away → LeavesOnly values start lits away → IsLearned clauses values start k lits hints away
learned_at clauses values start k lits hints away r in' only = record { false = r.false; derived = r.derived; contained = in'; leaves = only; later = r.later }

pub no_decision : (clauses : List Clause) (values : List Value) (trail : List Entry) (start k : ℕ) (e : Entry) (lits : List Literal) (hints : List ℕ) →
    IsTrail clauses values trail → IsLastDecision trail start → start ≤ k → slice_get trail k ≡ Some e → e.reason ≡ None →
    IsResolved clauses values start (k + 1) lits hints → ¬ (LeavesOnly values start lits (negated e.literal)) → ⊥
no_decision clauses values trail start k e lits hints t last le at none r not_only = elim (same_atom start k) [
  | inl s ↦
      let P : ℕ → Type 0 = λ n. LeavesOnly values n lits (negated e.literal) in
      not_only (subst P (sym s) (all_from (λ m. (m ≡ negated e.literal) ⊎ FalseBefore values k m) lits
      (λ m h. false_lower clauses values trail k e m t at (All-contains (FalseBefore values (k + 1)) lits m r.false h))))
  | inr ns ↦
      let w = last.last k e (let n : ¬ (start ≡ k) = ns in omega arith) at in
      let x : None ≡ Some w.0 = sym none ∙ w.1 in cc
]

hints_on : (r : ℕ) (hints hints' : List ℕ) → hints' ≡ hints ++ r ∷ [] → reverse hints' ≡ r ∷ reverse hints
hints_on r hints hints' e = ap (λ x. reverse x) e ∙ reverse-append hints (r ∷ [])

pub resolved_on : (clauses : List Clause) (values : List Value) (trail : List Entry) (start k r : ℕ) (e : Entry) (c : Clause) (lits mid both : List Literal) (hints hints' : List ℕ) →
    IsTrail clauses values trail → slice_get trail k ≡ Some e → e.reason ≡ Some r → slice_get clauses r ≡ Some c →
    IsAdded [] lits (negated e.literal) mid → IsAdded mid c.literals.items e.literal both → hints' ≡ hints ++ r ∷ [] →
    IsResolved clauses values start (k + 1) lits hints → ¬ (LeavesOnly values start lits (negated e.literal)) → IsResolved clauses values start k both hints'
resolved_on clauses values trail start k r e c lits mid both hints hints' t at why here a b eh res not_only =
    let w = t.reasoned k r e at why in
    let same : w.0 ≡ c = let x = sym w.1 ∙ here in cc in
    let P : Clause → Type 0 = λ x. Contains x.literals.items e.literal × LeavesOnly values k x.literals.items e.literal in
    let forced = subst P same (w.2, w.3) in
    let kept : (m : Literal) → Contains lits m → ¬ (m ≡ negated e.literal) → Contains both m = λ m h ne. b.kept m (a.added m h ne) in
    let D : List ℕ → Type 0 = λ hs. IsDerived clauses both hs in
    record {
      false = all_from (FalseBefore values k) both (λ m h. elim (b.only m h) [
        | inl inmid ↦ elim (a.only m inmid) [
          | inl none ↦ absurd (contains_nothing m none)
          | inr old ↦ elim (false_lower clauses values trail k e m t at (All-contains (FalseBefore values (k + 1)) lits m res.false old.0)) [
            | inl s ↦ absurd (old.1 s)
            | inr f ↦ f
          ]
        ]
        | inr new ↦ elim (All-contains (λ m. (m ≡ e.literal) ⊎ FalseBefore values k m) c.literals.items m forced.1 new.0) [
          | inl s ↦ absurd (new.1 s)
          | inr f ↦ f
        ]
      ]);
      derived = subst D (sym (hints_on r hints hints' eh)) (resolvent_derived clauses lits both (reverse hints) r c e.literal here forced.0 b.added kept res.derived);
      later = λ all. not_only (all_from (λ m. (m ≡ negated e.literal) ⊎ FalseBefore values start m) lits
          (λ m h. elim (same_literal m (negated e.literal)) [
            | inl s ↦ inl s
            | inr ns ↦ inr (All-contains (FalseBefore values start) both m all (kept m h ns))
          ]));
    }

pub reason_within : (clauses : List Clause) (values : List Value) (trail : List Entry) (k r : ℕ) (e : Entry) → IsTrail clauses values trail → slice_get trail k ≡ Some e → e.reason ≡ Some r → r < length clauses
reason_within clauses values trail k r e t at why = let w = t.reasoned k r e at why in slice_get_within clauses r w.0 w.1

pub only_at : (v v' : List Value) (n : ℕ) (l l' : List Literal) (u u' : Literal) → v ≡ v' → l ≡ l' → u ≡ u' → LeavesOnly v n l u → LeavesOnly v' n l' u'
only_at v v' n l l' u u' ev el eu h =
    let P : List Value → Type 0 = λ x. LeavesOnly x n l u in
    let Q : List Literal → Type 0 = λ x. LeavesOnly v' n x u in
    let R : Literal → Type 0 = λ x. LeavesOnly v' n l' x in
    subst R eu (subst Q el (subst P ev h))

-- a closed clause isn't false
pub closed_not_false : (values : List Value) (n : ℕ) (c : List Literal) → IsClosed values n c → ¬ (IsFalse values n c)
closed_not_false values n c closed f =
    let u : Literal = record { positive = true; number = 0 } in
    let only : (x : Literal) → LeavesOnly values n c x = λ x. All-weaker (FalseBefore values n) (λ m. (m ≡ x) ⊎ FalseBefore values n m) (λ m h. inr h) c f in
    let yes = closed u (only u) in
    let no = closed (negated u) (only (negated u)) in
    never_both values (negated u) no.0 yes.0 no.2 (false_negated values u yes.0 yes.2)

pub first_resolved : (clauses : List Clause) (values : List Value) (start n i : ℕ) (c : Clause) (lits : List Literal) (hints : List ℕ) →
    slice_get clauses i ≡ Some c → IsConflict clauses values n i → AreClosed clauses values start (length clauses) →
    lits ≡ c.literals.items → hints ≡ i ∷ [] → IsResolved clauses values start n lits hints
first_resolved clauses values start n i c lits hints at w closed el eh =
    let same : w.0 ≡ c = let x = sym w.1 ∙ at in cc in
    let F : Clause → Type 0 = λ x. IsFalse values n x.literals.items in
    let P : List Literal → Type 0 = λ x. IsResolved clauses values start n x hints in
    let D : List ℕ → Type 0 = λ hs. IsDerived clauses c.literals.items (reverse hs) in
    subst P (sym el) record {
      false = subst F same w.2;
      derived = subst D (sym eh) (conflict_derived clauses i c at);
      later = closed_not_false values start c.literals.items (closed i c (slice_get_within clauses i c at) at);
    }

pub false_later : (values : List Value) (m n : ℕ) (c : List Literal) → m ≤ n → IsFalse values m c → IsFalse values n c
false_later values m n c le f = All-weaker (FalseBefore values m) (FalseBefore values n) (λ x h. (h.0, (let a : h.0 < m = h.1 in omega arith), h.2)) c f

pub learned_later : (clauses : List Clause) (values : List Value) (start m n : ℕ) (lits : List Literal) (hints : List ℕ) (u : Literal) → m ≤ n → IsLearned clauses values start m lits hints u → IsLearned clauses values start n lits hints u
learned_later clauses values start m n lits hints u le h = record { false = false_later values m n lits le h.false; derived = h.derived; contained = h.contained; leaves = h.leaves; later = h.later }

pub conflict_within : (clauses : List Clause) (values : List Value) (n i : ℕ) → IsConflict clauses values n i → i < length clauses
conflict_within clauses values n i w = slice_get_within clauses i w.0 w.1

pub reduced_skip : (clauses : List Clause) (values : List Value) (trail : List Entry) (k : ℕ) (e : Entry) (lits : List Literal) (hints : List ℕ) →
    IsTrail clauses values trail → slice_get trail k ≡ Some e → IsReduced clauses values (k + 1) lits hints → ¬ (Contains lits (negated e.literal)) → IsReduced clauses values k lits hints
reduced_skip clauses values trail k e lits hints t at r nc = record {
  false = all_from (FalseBefore values k) lits (λ m h. elim (false_lower clauses values trail k e m t at (All-contains (FalseBefore values (k + 1)) lits m r.false h)) [
    | inl s ↦ absurd (nc (let P : Literal → Type 0 = λ x. Contains lits x in subst P s h))
    | inr f ↦ f
  ]);
  derived = r.derived;
}

pub reduced_on : (clauses : List Clause) (values : List Value) (trail : List Entry) (k r : ℕ) (e : Entry) (c : Clause) (lits mid both : List Literal) (hints hints' : List ℕ) →
    IsTrail clauses values trail → slice_get trail k ≡ Some e → e.reason ≡ Some r → slice_get clauses r ≡ Some c →
    IsAdded [] lits (negated e.literal) mid → IsAdded mid c.literals.items e.literal both → hints' ≡ hints ++ r ∷ [] →
    IsReduced clauses values (k + 1) lits hints → IsReduced clauses values k both hints'
reduced_on clauses values trail k r e c lits mid both hints hints' t at why here a b eh res =
    let w = t.reasoned k r e at why in
    let same : w.0 ≡ c = let x = sym w.1 ∙ here in cc in
    let P : Clause → Type 0 = λ x. Contains x.literals.items e.literal × LeavesOnly values k x.literals.items e.literal in
    let forced = subst P same (w.2, w.3) in
    let kept : (m : Literal) → Contains lits m → ¬ (m ≡ negated e.literal) → Contains both m = λ m h ne. b.kept m (a.added m h ne) in
    let D : List ℕ → Type 0 = λ hs. IsDerived clauses both hs in
    record {
      false = all_from (FalseBefore values k) both (λ m h. elim (b.only m h) [
        | inl inmid ↦ elim (a.only m inmid) [
          | inl none ↦ absurd (contains_nothing m none)
          | inr old ↦ elim (false_lower clauses values trail k e m t at (All-contains (FalseBefore values (k + 1)) lits m res.false old.0)) [
            | inl s ↦ absurd (old.1 s)
            | inr f ↦ f
          ]
        ]
        | inr new ↦ elim (All-contains (λ m. (m ≡ e.literal) ⊎ FalseBefore values k m) c.literals.items m forced.1 new.0) [
          | inl s ↦ absurd (new.1 s)
          | inr f ↦ f
        ]
      ]);
      derived = subst D (sym (hints_on r hints hints' eh)) (resolvent_derived clauses lits both (reverse hints) r c e.literal here forced.0 b.added kept res.derived);
    }

pub none_left : (values : List Value) (lits : List Literal) → IsFalse values 0 lits → lits ≡ []
none_left values [] f = refl
none_left values (x ∷ xs) f = let w = f 0 x (omega arith) in let lt : w.0 < 0 = w.1 in absurd (omega arith)

pub reduced_all : (clauses : List Clause) (values : List Value) (k : ℕ) (lits : List Literal) (hints : List ℕ) → k ≤ 0 → IsReduced clauses values k lits hints → IsDerived clauses [] (reverse hints)
reduced_all clauses values zero lits hints le r = let P : List Literal → Type 0 = λ x. IsDerived clauses x (reverse hints) in subst P (none_left values lits r.false) r.derived
reduced_all clauses values (suc k) lits hints le r = absurd (omega arith)

pub first_reduced : (clauses : List Clause) (values : List Value) (n i : ℕ) (c : Clause) (lits : List Literal) (hints : List ℕ) →
    slice_get clauses i ≡ Some c → IsConflict clauses values n i → lits ≡ c.literals.items → hints ≡ i ∷ [] → IsReduced clauses values n lits hints
first_reduced clauses values n i c lits hints at w el eh =
    let same : w.0 ≡ c = let x = sym w.1 ∙ at in cc in
    let F : Clause → Type 0 = λ x. IsFalse values n x.literals.items in
    let P : List Literal → Type 0 = λ x. IsReduced clauses values n x hints in
    let D : List ℕ → Type 0 = λ hs. IsDerived clauses c.literals.items (reverse hs) in
    subst P (sym el) record { false = subst F same w.2; derived = subst D (sym eh) (conflict_derived clauses i c at) }
