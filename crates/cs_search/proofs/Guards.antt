-- What holds of two watched literals.
use Rattle.std.proofs.Common.{◌≡◌, ℕ, zero, suc, ◌+◌, ◌<◌, ◌≤◌, ◌⊎◌, inl, inr, List, length, Option, Some, None, refl, sym, ◌∙◌, subst, ap, arith}
use Rattle.std.specs.List.{slice_get, Contains}
use Rattle.std.proofs.lemmas.Option.{slice_get_within}
use Rattle.std.proofs.lemmas.List.Elements.{All-contains}
use Rattle.cs_certificate.specs.declared.literal.Literal.{Literal}
use Rattle.cs_certificate.specs.declared.literal.Clause.{Clause}
use Rattle.cs_search.specs.declared.Value.{Value}
use Rattle.cs_search.specs.declared.Status.TheVariants.{False}
use Rattle.cs_search.specs.declared.Entry.{Entry}
use Rattle.cs_search.specs.declared.queue.Watch.{Watch}
use Rattle.cs_search.specs.Assignment.{status_of, FalseBefore, TrueBefore, LeavesOnly, IsTrail, IsClosed, NotFalse}
use Rattle.cs_search.specs.Extended.{IsExtended}
use Rattle.cs_search.specs.Settled.{IsDecision}
use Rattle.cs_search.specs.Watched.{IsGuarded, IsWatched, IsOther}
use Rattle.cs_search.specs.Queued.{IsClosedTo}
use Rattle.cs_search.proofs.Statuses.{same_atom, never_both}
use Rattle.cs_search.proofs.Trails.{false_same, true_same}
use Rattle.cs_search.proofs.Settles.{only_more, some_at, false_more}
use Rattle.cs_search.proofs.Tops.{same_place}

pub true_more : (values : List Value) (m n : ℕ) (l : Literal) → m ≤ n → TrueBefore values m l → TrueBefore values n l
true_more values m n l le (p, lt, is) = (p, omega arith, is)

-- a literal that was made true closes its clause
pub true_closed : (values : List Value) (h n : ℕ) (lits : List Literal) (l : Literal) → Contains lits l → TrueBefore values n l → IsClosedTo values h n lits
true_closed values h n lits l in' t u only = elim (All-contains (λ m. (m ≡ u) ⊎ FalseBefore values h m) lits l only in') [
  | inl e ↦ (let P : Literal → Type 0 = λ x. TrueBefore values n x in subst P e t)
  | inr f ↦ absurd (never_both values l t.0 f.0 t.2 f.2)
]

-- a clause whose watched literals are as they have to be is closed
pub watched_closed : (values : List Value) (h n : ℕ) (lits : List Literal) (o : Option Watch) → IsWatched values h n lits o → IsClosedTo values h n lits
watched_closed values h n lits None (l, in', t) u only = true_closed values h n lits l in' t u only
watched_closed values h n lits (Some w) (pair, g) u only =
    let P : Literal → Type 0 = λ m. (m ≡ u) ⊎ FalseBefore values h m in
    let T : Literal → Type 0 = λ x. TrueBefore values n x in
    elim (All-contains P lits w.first only pair.first) [
      | inl a ↦ elim (All-contains P lits w.second only pair.second) [
        | inl b ↦ absurd (pair.apart (a ∙ sym b))
        | inr f ↦ subst T a (g.second f)
      ]
      | inr e ↦ elim (All-contains P lits w.second only pair.second) [
        | inl b ↦ subst T b (g.first e)
        | inr f ↦ (let t = g.first e in absurd (never_both values w.second t.0 f.0 t.2 f.2))
      ]
    ]

pub guarded_less : (values : List Value) (h k n : ℕ) (w : Watch) → h ≤ k → IsGuarded values k n w → IsGuarded values h n w
guarded_less values h k n w le g = record { first = λ f. g.first (false_more values h k w.first le f); second = λ f. g.second (false_more values h k w.second le f) }

pub watched_less : (values : List Value) (h k n : ℕ) (lits : List Literal) (o : Option Watch) → h ≤ k → IsWatched values k n lits o → IsWatched values h n lits o
watched_less values h k n lits None le w = w
watched_less values h k n lits (Some w) le (pair, g) = (pair, guarded_less values h k n w le g)

-- the entries before h are the same on both trails, and those before n are on the new one
pub watched_between : (c c' : List Clause) (values values' : List Value) (trail trail' : List Entry) (h n n' : ℕ) (lits : List Literal) (o : Option Watch) → IsTrail c values trail → IsTrail c' values' trail' →
    ((j : ℕ) (e : Entry) → j < h → slice_get trail' j ≡ Some e → slice_get trail j ≡ Some e) →
    ((j : ℕ) (e : Entry) → j < n → slice_get trail j ≡ Some e → slice_get trail' j ≡ Some e) →
    n ≤ n' → IsWatched values h n lits o → IsWatched values' h n' lits o
watched_between c c' values values' trail trail' h n n' lits None t t' back on le (l, in', is) = (l, in', true_more values' n n' l le (true_same c c' values values' trail trail' n t t' on l is))
watched_between c c' values values' trail trail' h n n' lits (Some w) t t' back on le (pair, g) = (
  pair,
  record {
    first = λ f. true_more values' n n' w.second le (true_same c c' values values' trail trail' n t t' on w.second (g.first (false_same c c' values values' trail trail' h t t' back w.first f)));
    second = λ f. true_more values' n n' w.first le (true_same c c' values values' trail trail' n t t' on w.first (g.second (false_same c c' values values' trail trail' h t t' back w.second f)));
  },
)

pub kept_length : (clauses : List Clause) (values values' : List Value) (trail trail' : List Entry) → IsExtended clauses values trail values' trail' → length trail ≤ length trail'
kept_length clauses values values' trail trail' x = go (length trail) refl
  where
    go : (n : ℕ) → n ≡ length trail → length trail ≤ length trail'
    go zero e = omega arith
    go (suc n) e =
        let w = some_at trail n (omega arith) in
        let lt = slice_get_within trail' n w.0 (x.kept n w.0 w.1) in
        omega arith

pub kept_back : (clauses : List Clause) (values values' : List Value) (trail trail' : List Entry) → IsExtended clauses values trail values' trail' → (j : ℕ) (e : Entry) → j < length trail → slice_get trail' j ≡ Some e → slice_get trail j ≡ Some e
kept_back clauses values values' trail trail' x j e lt at =
    let w = some_at trail j lt in
    let s : w.0 ≡ e = let z = sym (x.kept j w.0 w.1) ∙ at in cc in
    w.1 ∙ ap (λ v. Some v) s

pub watched_extends : (clauses : List Clause) (values values' : List Value) (trail trail' : List Entry) (h n n' : ℕ) (lits : List Literal) (o : Option Watch) → IsTrail clauses values trail → IsExtended clauses values trail values' trail' →
    h ≤ length trail → n ≤ n' → IsWatched values h n lits o → IsWatched values' h n' lits o
watched_extends clauses values values' trail trail' h n n' lits o t x within le w =
    watched_between clauses clauses values values' trail trail' h n n' lits o t x.sound
    (λ j e lt at. kept_back clauses values values' trail trail' x j e (let a : j < h = lt in omega arith) at)
    (λ j e lt at. x.kept j e at) le w

pub decision_back : (clauses : List Clause) (values values' : List Value) (trail trail' : List Entry) (d : ℕ) → IsExtended clauses values trail values' trail' → IsDecision trail' d → IsDecision trail d
decision_back clauses values values' trail trail' d x (e, at, none) = elim (x.forced d e at) [
  | inl old ↦ (e, old, none)
  | inr r ↦ (let y : None ≡ Some r.0 = sym none ∙ r.1 in cc)
]

-- the literal that stays is true
pub guarded_true : (values : List Value) (h n : ℕ) (w : Watch) (away stays : Literal) → IsOther w away (Some stays) → TrueBefore values n stays → IsGuarded values h n w
guarded_true values h n w away stays (inl (a, b)) t = record {
  first = λ f. (let T : Literal → Type 0 = λ x. TrueBefore values n x in subst T (sym b) t);
  second = λ f. (let T : Literal → Type 0 = λ x. TrueBefore values n x in let s = subst T (sym b) t in absurd (never_both values w.second s.0 f.0 s.2 f.2));
}
guarded_true values h n w away stays (inr (b, a)) t = record {
  first = λ f. (let T : Literal → Type 0 = λ x. TrueBefore values n x in let s = subst T (sym a) t in absurd (never_both values w.first s.0 f.0 s.2 f.2));
  second = λ f. (let T : Literal → Type 0 = λ x. TrueBefore values n x in subst T (sym a) t);
}

-- neither is false
pub guarded_free : (values : List Value) (h n : ℕ) (w : Watch) → NotFalse values w.first → NotFalse values w.second → IsGuarded values h n w
guarded_free values h n w a b = record { first = λ f. absurd (a f.0 f.2); second = λ f. absurd (b f.0 f.2) }

-- the literal that stays was not false before the entry that is walked
stays_open : (clauses : List Clause) (values : List Value) (trail : List Entry) (h n : ℕ) (w : Watch) (away stays : Literal) → IsTrail clauses values trail → status_of values away ≡ False h → ¬ (w.first ≡ w.second) → IsOther w away (Some stays) → IsGuarded values h n w →
    FalseBefore values (h + 1) stays → ⊥
stays_open clauses values trail h n w away stays t is apart other g (p, lt, f) = elim (same_atom p h) [
  | inl e ↦
      let same = same_place clauses values trail stays away h t (f ∙ ap (λ x. False x) e) is in
      elim other [ inl o ↦ apart (o.0 ∙ sym same ∙ sym o.1) | inr o ↦ apart (o.1 ∙ same ∙ sym o.0) ]
  | inr ne ↦
      let before : p < h = (let a : p < h + 1 = lt in let b : ¬ (p ≡ h) = ne in omega arith) in
      let F : Literal → Type 0 = λ x. FalseBefore values h x in
      let T : Literal → Type 0 = λ x. TrueBefore values n x in
      let yes : TrueBefore values n away = elim other [
        | inl o ↦ subst T o.0 (g.second (subst F (sym o.1) (p, before, f)))
        | inr o ↦ subst T o.0 (g.first (subst F (sym o.1) (p, before, f)))
      ] in
      never_both values away yes.0 h yes.2 is
]

pub guarded_moved : (clauses : List Clause) (values : List Value) (trail : List Entry) (h n k m : ℕ) (w v : Watch) (away : Literal) → IsTrail clauses values trail → status_of values away ≡ False h → ¬ (w.first ≡ w.second) → IsOther w away (Some v.first) → IsGuarded values h n w →
    NotFalse values v.second → k ≤ h + 1 → IsGuarded values k m v
guarded_moved clauses values trail h n k m w v away t is apart other g free le = record {
  first = λ f. absurd (stays_open clauses values trail h n w away v.first t is apart other g (false_more values k (h + 1) v.first le f));
  second = λ f. absurd (free f.0 f.2);
}

-- neither of the two is the literal that became false at h
pub guarded_next : (clauses : List Clause) (values : List Value) (trail : List Entry) (h n : ℕ) (w : Watch) (away : Literal) → IsTrail clauses values trail → status_of values away ≡ False h → IsOther w away None → IsGuarded values h n w → IsGuarded values (h + 1) n w
guarded_next clauses values trail h n w away t is (a, b) g = record {
  first = λ f. g.first (earlier w.first a f);
  second = λ f. g.second (earlier w.second b f);
}
  where
    earlier : (l : Literal) → ¬ (l ≡ away) → FalseBefore values (h + 1) l → FalseBefore values h l
    earlier l ne (p, lt, f) = elim (same_atom p h) [
      | inl e ↦ absurd (ne (same_place clauses values trail l away h t (f ∙ ap (λ x. False x) e) is))
      | inr other ↦ (p, (let x : p < h + 1 = lt in let y : ¬ (p ≡ h) = other in omega arith), f)
    ]

-- all others were false where the second one was
pub guarded_forced : (values : List Value) (d p : ℕ) (lits : List Literal) (w : Watch) → NotFalse values w.first → status_of values w.second ≡ False p → LeavesOnly values (p + 1) lits w.first → IsClosed values d lits → IsGuarded values d d w
guarded_forced values d p lits w free is leaves closed = record {
  first = λ f. absurd (free f.0 f.2);
  second = λ f. closed w.first (only_more values (p + 1) d lits w.first (let s : f.0 ≡ p = (let t : False f.0 ≡ False p = sym f.2 ∙ is in cc) in let lt : f.0 < d = f.1 in omega arith) leaves);
}
