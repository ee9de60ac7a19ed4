-- What learning a clause makes of a search.
use Rattle.std.proofs.Common.{◌≡◌, ℕ, ◌<◌, ◌⊎◌, inl, inr, List, [], ◌∷◌, ◌++◌, length, take, sym, subst, ap}
use Rattle.std.specs.List.{All, Contains}
use Rattle.std.proofs.lemmas.List.Elements.{All-weaker, All-contains}
use Rattle.cs_certificate.specs.declared.literal.Literal.{Literal}
use Rattle.cs_search.specs.declared.Value.{Value}
use Rattle.cs_search.specs.declared.Entry.{Entry}
use Rattle.cs_certificate.specs.declared.literal.Clause.{Clause}
use Rattle.cs_search.specs.declared.search.Hints.{Hints}
use Rattle.cs_search.specs.declared.search.Search.{Search}
use Rattle.cs_search.specs.Assignment.{negated, FalseBefore, LeavesOnly, IsFalse, IsTrail, IsClosedAtDecisions, IsClosed}
use Rattle.cs_search.specs.Extended.{AreClosed}
use Rattle.cs_search.specs.Learned.{IsLearned, IsLastDecision}
use Rattle.cs_search.specs.Settled.{IsDecision, IsSettled}
use Rattle.cs_search.specs.Search.{IsSearch, IsUncovered, AreSatisfied, Learns, learns_none, learns_more}
use Rattle.cs_search.proofs.Gets.{get_push_cases}
use Rattle.cs_search.proofs.Statuses.{true_negated, atom_within, never_both}
use Rattle.cs_search.proofs.Added.{all_from}
use Rattle.cs_search.proofs.Settles.{closed_back, trail_clause}

pub closed_at_start : (clauses : List Clause) (values : List Value) (trail : List Entry) (start : ℕ) → IsSearch clauses values trail → IsLastDecision trail start → AreClosed clauses values start (length clauses)
closed_at_start clauses values trail start s d i c lt at = s.closed start d.decision.0 d.decision.1 d.decision.2 i c at

pub forced_free : (clauses : List Clause) (values : List Value) (start n : ℕ) (lits : List Literal) (hints : List ℕ) (forced : Literal) → IsLearned clauses values start n lits hints forced → ¬ (FalseBefore values start forced)
forced_free clauses values start n lits hints forced l f = l.later (All-weaker (λ m. (m ≡ forced) ⊎ FalseBefore values start m) (FalseBefore values start)
    (λ m y. elim y [ inl e ↦ (let P : Literal → Type 0 = λ x. FalseBefore values start x in subst P (sym e) f) | inr h ↦ h ]) lits l.leaves)

pub uncovered : (clauses : List Clause) (values : List Value) (trail : List Entry) (start n : ℕ) (lits : List Literal) (hints : List ℕ) (forced : Literal) →
    IsSearch clauses values trail → IsLastDecision trail start → IsLearned clauses values start n lits hints forced → IsUncovered clauses lits
uncovered clauses values trail start n lits hints forced s d l i c at covered =
    let leaves : LeavesOnly values start c.literals.items forced = all_from (λ m. (m ≡ forced) ⊎ FalseBefore values start m) c.literals.items
    (λ m h. All-contains (λ m. (m ≡ forced) ⊎ FalseBefore values start m) lits m l.leaves (All-contains (Contains lits) c.literals.items m covered h)) in
    let yes = s.closed start d.decision.0 d.decision.1 d.decision.2 i c at forced leaves in
    let no = All-contains (FalseBefore values n) lits forced l.false l.contained in
    never_both values forced yes.0 no.0 yes.2 no.2

known_false : (values : List Value) (n : ℕ) (lits : List Literal) → IsFalse values n lits → All (λ l. l.number < length values) lits
known_false values n lits f = All-weaker (FalseBefore values n) (λ l. l.number < length values) (λ l h. atom_within values (negated l) h.0 (true_negated values l h.0 h.2)) lits f

pub pushed_search : (clauses clauses' : List Clause) (values values' : List Value) (trail trail' : List Entry) (c : Clause) (n cut : ℕ) →
    IsSearch clauses values trail → IsFalse values n c.literals.items → ((d : ℕ) → d < cut → IsDecision trail d → IsClosed values d c.literals.items) →
    IsTrail clauses values' trail' → trail' ≡ take cut trail → length values' ≡ length values → clauses' ≡ clauses ++ c ∷ [] →
    IsSearch clauses' values' trail'
pushed_search clauses clauses' values values' trail trail' c n cut s l settled t' et width ec =
    let P : List Clause → Type 0 = λ x. IsSearch x values' trail' in
    let T : List Entry → Type 0 = λ x. IsTrail clauses values' x in
    let C : List Entry → Type 0 = λ x. IsClosedAtDecisions (clauses ++ c ∷ []) values' x in
    let K : ℕ → Type 0 = λ k. All (λ l. l.number < k) c.literals.items in
    let N : ℕ → Clause → Type 0 = λ k x. All (λ l. l.number < k) x.literals.items in
    subst P (sym ec) record {
      sound = trail_clause clauses c values' trail' t';
      known = λ i x at. elim (get_push_cases clauses i c x at) [
        | inl h ↦ (let Q : ℕ → Type 0 = λ k. N k x in subst Q (sym width) (s.known i x h))
        | inr h ↦ (let Q : Clause → Type 0 = λ y. N (length values') y in subst Q (sym h.1) (subst K (sym width) (known_false values n c.literals.items l)))
      ];
      closed = subst C (sym et) (closed_back clauses c values values' trail cut s.sound (subst T et t') s.closed settled);
    }

pub learned_search : (clauses clauses' : List Clause) (values values' : List Value) (trail trail' : List Entry) (c : Clause) (start n cut : ℕ) (hints : List ℕ) (forced : Literal) →
    IsSearch clauses values trail → IsLearned clauses values start n c.literals.items hints forced → IsSettled values trail c.literals.items forced cut →
    IsTrail clauses values' trail' → trail' ≡ take cut trail → length values' ≡ length values → clauses' ≡ clauses ++ c ∷ [] →
    IsSearch clauses' values' trail'
learned_search clauses clauses' values values' trail trail' c start n cut hints forced s l settled t' et width ec =
    pushed_search clauses clauses' values values' trail trail' c n cut s l.false settled.closed t' et width ec

pub learns_one : (clauses clauses' : List Clause) (steps steps' : List Hints) (values : List Value) (trail : List Entry) (c : Clause) (hints : Hints) (start n : ℕ) (forced : Literal) →
    IsSearch clauses values trail → IsLastDecision trail start → IsLearned clauses values start n c.literals.items hints.numbers.items forced →
    clauses' ≡ clauses ++ c ∷ [] → steps' ≡ steps ++ hints ∷ [] → Learns clauses steps clauses' steps'
learns_one clauses clauses' steps steps' values trail c hints start n forced s d l ec es =
    let P : List Clause → Type 0 = λ x. Learns clauses steps x steps' in
    let Q : List Hints → Type 0 = λ x. Learns clauses steps (clauses ++ c ∷ []) x in
    subst P (sym ec) (subst Q (sym es) (learns_more c hints learns_none l.derived (values, trail, n, s.sound, l.false) (uncovered clauses values trail start n c.literals.items hints.numbers.items forced s d l)))

pub learns_twice : (c1 c2 c3 : List Clause) (s1 s2 s3 : List Hints) → Learns c1 s1 c2 s2 → Learns c2 s2 c3 s3 → Learns c1 s1 c3 s3
learns_twice c1 c2 c3 s1 s2 s3 a learns_none = a
learns_twice c1 c2 c3 s1 s2 s3 a (learns_more c hints rest derived falsified fresh) = learns_more c hints (learns_twice c1 _ _ s1 _ _ a rest) derived falsified fresh

pub learned_over : (clauses clauses' : List Clause) (values : List Value) (start n : ℕ) (lits : List Literal) (hints : List ℕ) (forced : Literal) → clauses' ≡ clauses → IsLearned clauses' values start n lits hints forced → IsLearned clauses values start n lits hints forced
learned_over clauses clauses' values start n lits hints forced e l = let P : List Clause → Type 0 = λ x. IsLearned x values start n lits hints forced in subst P e l

pub trail_over : (clauses clauses' : List Clause) (values : List Value) (trail : List Entry) → clauses' ≡ clauses → IsTrail clauses' values trail → IsTrail clauses values trail
trail_over clauses clauses' values trail e t = let P : List Clause → Type 0 = λ x. IsTrail x values trail in subst P e t

pub settled_over : (values values' : List Value) (trail trail' : List Entry) (lits lits' : List Literal) (forced : Literal) (cut : ℕ) → values' ≡ values → trail' ≡ trail → lits' ≡ lits → IsSettled values' trail' lits' forced cut → IsSettled values trail lits forced cut
settled_over values values' trail trail' lits lits' forced cut ev et el h =
    let P : List Value → Type 0 = λ x. IsSettled x trail' lits' forced cut in
    let Q : List Entry → Type 0 = λ x. IsSettled values x lits' forced cut in
    let R : List Literal → Type 0 = λ x. IsSettled values trail x forced cut in
    subst R el (subst Q et (subst P ev h))

pub false_over : (values values' : List Value) (n : ℕ) (l : Literal) → values' ≡ values → FalseBefore values' n l → FalseBefore values n l
false_over values values' n l e f = let P : List Value → Type 0 = λ x. FalseBefore x n l in subst P e f

pub learns_same : (a b : Search) → b.clauses ≡ a.clauses → b.steps ≡ a.steps → Learns a.clauses.items a.steps.items b.clauses.items b.steps.items
learns_same a b ec es =
    let P : List Clause → Type 0 = λ x. Learns a.clauses.items a.steps.items x b.steps.items in
    let Q : List Hints → Type 0 = λ x. Learns a.clauses.items a.steps.items a.clauses.items x in
    subst P (sym (ap (λ v. v.items) ec)) (subst Q (sym (ap (λ v. v.items) es)) learns_none)

pub closed_over : (values values' : List Value) (trail trail' : List Entry) (lits lits' : List Literal) (cut : ℕ) → values' ≡ values → trail' ≡ trail → lits' ≡ lits →
    ((d : ℕ) → d < cut → IsDecision trail' d → IsClosed values' d lits') → (d : ℕ) → d < cut → IsDecision trail d → IsClosed values d lits
closed_over values values' trail trail' lits lits' cut ev et el h =
    let P : List Value → Type 0 = λ x. (d : ℕ) → d < cut → IsDecision trail' d → IsClosed x d lits' in
    let Q : List Entry → Type 0 = λ x. (d : ℕ) → d < cut → IsDecision x d → IsClosed values d lits' in
    let R : List Literal → Type 0 = λ x. (d : ℕ) → d < cut → IsDecision trail d → IsClosed values d x in
    subst R el (subst Q et (subst P ev h))

-- a clause that is false where each clause is satisfied contains none of them
pub satisfied_uncovered : (clauses : List Clause) (values : List Value) (n : ℕ) (lits : List Literal) → AreSatisfied clauses values → IsFalse values n lits → IsUncovered clauses lits
satisfied_uncovered clauses values n lits s f i c at covered =
    let w = s i c at in
    let no = All-contains (FalseBefore values n) lits w.0 f (All-contains (Contains lits) c.literals.items w.0 covered w.2) in
    never_both values w.0 w.1 no.0 w.3 no.2
