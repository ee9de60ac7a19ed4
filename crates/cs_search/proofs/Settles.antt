-- How far the assignment is taken back.
use Rattle.std.proofs.Common.{◌≡◌, ℕ, zero, suc, ◌<◌, ◌≤◌, ◌⊎◌, inl, inr, List, [], ◌∷◌, ◌++◌, length, take, Some, None, refl, sym, ◌∙◌, subst, ap, arith}
use Rattle.std.specs.List.{slice_get, Contains}
use Rattle.std.proofs.lemmas.Option.{slice_get_within}
use Rattle.std.proofs.lemmas.List.Elements.{All-weaker, All-contains}
use Rattle.cs_certificate.specs.declared.literal.Literal.{Literal}
use Rattle.cs_search.specs.declared.Value.{Value}
use Rattle.cs_search.specs.declared.Entry.{Entry}
use Rattle.cs_certificate.specs.declared.literal.Clause.{Clause}
use Rattle.cs_search.specs.Assignment.{FalseBefore, LeavesOnly, IsTrail, IsClosed, IsClosedAtDecisions}
use Rattle.cs_search.specs.Extended.{IsExtended}
use Rattle.cs_search.specs.Settled.{IsDecision, IsLatest, IsSettled}
use Rattle.cs_search.proofs.Trails.{false_same, true_same}
use Rattle.cs_search.proofs.Gets.{get_push_old, get_push_cases}

pub false_more : (values : List Value) (m n : ℕ) (l : Literal) → m ≤ n → FalseBefore values m l → FalseBefore values n l
false_more values m n l le (p, lt, is) = (p, omega arith, is)

pub only_more : (values : List Value) (m n : ℕ) (c : List Literal) (u : Literal) → m ≤ n → LeavesOnly values m c u → LeavesOnly values n c u
only_more values m n c u le h = All-weaker (λ x. (x ≡ u) ⊎ FalseBefore values m x) (λ x. (x ≡ u) ⊎ FalseBefore values n x) (λ x y. elim y [ inl e ↦ inl e | inr f ↦ inr (false_more values m n x le f) ]) c h

le_or_lt : (j d : ℕ) → (j ≤ d) ⊎ (d < j)
le_or_lt zero d = inl (omega arith)
le_or_lt (suc j) zero = inr (omega arith)
le_or_lt (suc j) (suc d) = elim (le_or_lt j d) [ inl h ↦ inl (omega arith) | inr h ↦ inr (omega arith) ]

pub settled_before : (values : List Value) (trail : List Entry) (lits : List Literal) (forced : Literal) (from cut d : ℕ) →
    LeavesOnly values cut lits forced → cut ≤ from → ¬ (FalseBefore values from forced) → Contains lits forced → IsLatest trail cut (Some d) → ¬ (LeavesOnly values d lits forced) →
    IsSettled values trail lits forced cut
settled_before values trail lits forced from cut d leaves le free in' latest not_only = record {
  leaves = leaves;
  open' = λ f. free (false_more values cut from forced le f);
  closed = λ j lt dec u only. elim (All-contains (λ m. (m ≡ u) ⊎ FalseBefore values j m) lits forced only in') [
    | inl e ↦
        let P : Literal → Type 0 = λ x. LeavesOnly values j lits x in
        absurd (not_only (only_more values j d lits forced (before j lt dec) (subst P (sym e) only)))
    | inr f ↦ absurd (free (false_more values j from forced (omega arith) f))
  ];
}
  where
    before : (j : ℕ) → j < cut → IsDecision trail j → j ≤ d
    before j lt dec = elim (le_or_lt j d) [
      | inl x ↦ x
      | inr x ↦
          let w = latest.2 j dec.0 x lt dec.1 in
          let y : None ≡ Some w.0 = sym dec.2 ∙ w.1 in cc
    ]

pub settled_first : (values : List Value) (trail : List Entry) (lits : List Literal) (forced : Literal) (from cut : ℕ) →
    LeavesOnly values cut lits forced → cut ≤ from → ¬ (FalseBefore values from forced) → IsLatest trail cut None →
    IsSettled values trail lits forced cut
settled_first values trail lits forced from cut leaves le free latest = record {
  leaves = leaves;
  open' = λ f. free (false_more values cut from forced le f);
  closed = λ j lt dec u only. let w = latest j dec.0 lt dec.1 in let y : None ≡ Some w.0 = sym dec.2 ∙ w.1 in cc;
}

-- fewer entries
pub take_kept : {X : Type 0} (xs : List X) (n j : ℕ) (x : X) → slice_get (take n xs) j ≡ Some x → (slice_get xs j ≡ Some x) × (j < n)
take_kept xs zero j x e = cc
take_kept [] (suc n) j x e = cc
take_kept (y ∷ xs) (suc n) zero x e = (e, omega arith)
take_kept (y ∷ xs) (suc n) (suc j) x e = let w = take_kept xs n j x e in (w.0, (let a : j < n = w.1 in omega arith))

pub take_has : {X : Type 0} (xs : List X) (n j : ℕ) (x : X) → j < n → slice_get xs j ≡ Some x → slice_get (take n xs) j ≡ Some x
take_has xs zero j x lt e = absurd (omega arith)
take_has [] (suc n) j x lt e = e
take_has (y ∷ xs) (suc n) zero x lt e = e
take_has (y ∷ xs) (suc n) (suc j) x lt e = take_has xs n j x (omega arith) e

-- a closed clause stays closed where the entries before d stay
pub closed_same : (c c' : List Clause) (values values' : List Value) (trail trail' : List Entry) (d : ℕ) (lits : List Literal) → IsTrail c values trail → IsTrail c' values' trail' →
    ((j : ℕ) (e : Entry) → j < d → slice_get trail' j ≡ Some e → slice_get trail j ≡ Some e) →
    ((j : ℕ) (e : Entry) → j < d → slice_get trail j ≡ Some e → slice_get trail' j ≡ Some e) →
    IsClosed values d lits → IsClosed values' d lits
closed_same c c' values values' trail trail' d lits t t' back on closed u only =
    true_same c c' values values' trail trail' d t t' on u
    (closed u (All-weaker (λ m. (m ≡ u) ⊎ FalseBefore values' d m) (λ m. (m ≡ u) ⊎ FalseBefore values d m)
    (λ m y. elim y [ inl e ↦ inl e | inr f ↦ inr (false_same c c' values values' trail trail' d t t' back m f) ]) lits only))

-- one more clause
pub trail_clause : (clauses : List Clause) (c : Clause) (values : List Value) (trail : List Entry) → IsTrail clauses values trail → IsTrail (clauses ++ c ∷ []) values trail
trail_clause clauses c values trail t = record {
  set = t.set;
  placed = t.placed;
  reasoned = λ j r e at why. let w = t.reasoned j r e at why in (w.0, get_push_old clauses r c w.0 w.1, w.2, w.3);
}

-- what is closed at the decisions, taken back to the cut, with a clause that is settled there
pub closed_back : (clauses : List Clause) (c : Clause) (values values' : List Value) (trail : List Entry) (cut : ℕ) →
    IsTrail clauses values trail → IsTrail clauses values' (take cut trail) → IsClosedAtDecisions clauses values trail → ((d : ℕ) → d < cut → IsDecision trail d → IsClosed values d c.literals.items) →
    IsClosedAtDecisions (clauses ++ c ∷ []) values' (take cut trail)
closed_back clauses c values values' trail cut t t' closed settled d e at none i x here =
    let old = take_kept trail cut d e at in
    let lt : d < cut = old.1 in
    let back : (j : ℕ) (y : Entry) → j < d → slice_get (take cut trail) j ≡ Some y → slice_get trail j ≡ Some y = λ j y l h. (take_kept trail cut j y h).0 in
    let on : (j : ℕ) (y : Entry) → j < d → slice_get trail j ≡ Some y → slice_get (take cut trail) j ≡ Some y = λ j y l h. take_has trail cut j y (omega arith) h in
    closed_same clauses clauses values values' trail (take cut trail) d x.literals.items t t' back on
    (elim (get_push_cases clauses i c x here) [
      | inl h ↦ closed d e old.0 none i x h
      | inr h ↦ let P : Clause → Type 0 = λ y. IsClosed values d y.literals.items in subst P (sym h.1) (settled d lt (e, old.0, none))
    ])

-- propagation keeps the decisions, and what was closed there
pub some_at : {X : Type 0} (xs : List X) (j : ℕ) → j < length xs → (x : X) × (slice_get xs j ≡ Some x)
some_at [] j lt = absurd (omega arith)
some_at (x ∷ xs) zero lt = (x, refl)
some_at (x ∷ xs) (suc j) lt = some_at xs j (omega arith)

pub closed_extended : (clauses : List Clause) (values values' : List Value) (trail trail' : List Entry) →
    IsTrail clauses values trail → IsClosedAtDecisions clauses values trail → IsExtended clauses values trail values' trail' → IsClosedAtDecisions clauses values' trail'
closed_extended clauses values values' trail trail' t closed x d e at none i c here = elim (x.forced d e at) [
  | inr r ↦ (let y : None ≡ Some r.0 = sym none ∙ r.1 in cc)
  | inl old ↦
      closed_same clauses clauses values values' trail trail' d c.literals.items t x.sound
      (λ j y l h. same_below j y (let a = slice_get_within trail d e old in omega arith) h)
      (λ j y l h. x.kept j y h)
      (closed d e old none i c here)
]
  where
    same_below : (j : ℕ) (y : Entry) → j < length trail → slice_get trail' j ≡ Some y → slice_get trail j ≡ Some y
    same_below j y lt h =
        let w = some_at trail j lt in
        let s : w.0 ≡ y = let z = sym (x.kept j w.0 w.1) ∙ h in cc in
        w.1 ∙ ap (λ v. Some v) s
