-- What the clauses watch, as the trail is taken back.
use Rattle.std.proofs.Common.{◌≡◌, ℕ, ◌+◌, ◌<◌, ◌≤◌, inl, inr, List, [], ◌∷◌, ◌++◌, length, take, Option, Some, None, sym, ◌∙◌, subst, ap, arith}
use Rattle.std.specs.List.{slice_get}
use Rattle.std.proofs.lemmas.Option.{slice_get_within}
use Rattle.std.proofs.lemmas.List.{length-append, length-take-le}
use Rattle.cs_certificate.specs.declared.literal.Clause.{Clause}
use Rattle.cs_search.specs.declared.Value.{Value}
use Rattle.cs_search.specs.declared.Entry.{Entry}
use Rattle.cs_search.specs.declared.queue.Watch.{Watch}
use Rattle.cs_search.specs.declared.queue.Queue.{Queue}
use Rattle.cs_search.specs.Assignment.{IsTrail}
use Rattle.cs_search.specs.Rows.{Rows}
use Rattle.cs_search.specs.Watched.{IsWatched, Watches, AreWatched}
use Rattle.cs_search.specs.Queued.{IsListed, IsQueued, IsRewound}
use Rattle.cs_search.specs.Widened.{IsWidened}
use Rattle.cs_search.proofs.Gets.{get_push_old, get_push_cases}
use Rattle.cs_search.proofs.Settles.{take_has, take_kept}
use Rattle.cs_search.proofs.Guards.{watched_between}
use Rattle.cs_search.proofs.Queues.{queued_nothing}

pub queued_back : (clauses : List Clause) (values values' : List Value) (trail trail' : List Entry) (cut : ℕ) (q q' : Queue) → IsTrail clauses values trail → IsTrail clauses values' trail' → trail' ≡ take cut trail → cut ≤ length trail → IsRewound trail cut q q' → IsQueued clauses values trail q → IsQueued clauses values' trail' q'
queued_back clauses values values' trail trail' cut q q' t t' et le (inr (ew, er, eh)) k =
    queued_nothing clauses values' trail' q' ew er (eh ∙ sym (ap (λ x. length x) et ∙ length-take-le cut trail le))
queued_back clauses values values' trail trail' cut q q' t t' et le (inl (ew, er, dec, low, latest)) k =
    let len : length trail' ≡ cut = ap (λ x. length x) et ∙ length-take-le cut trail le in
    let head : q'.head ≤ cut = low in
    let w : q'.watches.items ≡ q.watches.items = ap (λ v. v.items) ew in
    let r : q'.rows.items ≡ q.rows.items = ap (λ v. v.items) er in
    let back : (j : ℕ) (e : Entry) → slice_get trail' j ≡ Some e → (slice_get trail j ≡ Some e) × (j < cut) = λ j e at. take_kept trail cut j e (ap (λ x. slice_get x j) (sym et) ∙ at) in
    let on : (j : ℕ) (e : Entry) → j < cut → slice_get trail j ≡ Some e → slice_get trail' j ≡ Some e = λ j e lt at. ap (λ x. slice_get x j) et ∙ take_has trail cut j e lt at in
    let at : (d n : ℕ) → d ≤ cut → d ≤ n → AreWatched clauses q.watches.items values d d → AreWatched clauses q'.watches.items values' d n =
    λ d n a b old. (let W : Watches → Type 0 = λ x. AreWatched clauses x values' d n in subst W (sym w)
    (λ i c o here e. watched_between clauses clauses values values' trail trail' d d n c.literals.items o t t'
    (λ j y lt h. (back j y h).0) (λ j y lt h. on j y (let z : j < d = lt in omega arith) h) b (old i c o here e))) in
    let L : Watches → Type 0 = λ x. IsListed x q'.rows.items in
    let M : Rows → Type 0 = λ x. IsListed q.watches.items x in
    record {
      listed = subst L (sym w) (subst M (sym r) k.listed);
      count = (let a : length q'.watches.items ≡ length q.watches.items = ap (λ x. length x) w in let b = k.count in omega arith);
      now = at q'.head (length trail') head (omega arith) (k.before q'.head dec);
      before = λ d (e, h, none). (let old = back d e h in let lt : d < cut = old.1 in at d d (omega arith) (omega arith) (k.before d (e, old.0, none)));
      below = λ d (e, h, none). (let old = back d e h in latest d (e, old.0, none) old.1);
      within = omega arith;
    }

-- a decision, where all was walked
pub queued_decided : (clauses : List Clause) (values values' : List Value) (trail trail' : List Entry) (e : Entry) (q : Queue) → IsTrail clauses values trail → IsTrail clauses values' trail' → trail' ≡ trail ++ e ∷ [] → q.head ≡ length trail → IsQueued clauses values trail q → IsQueued clauses values' trail' q
queued_decided clauses values values' trail trail' e q t t' et head k =
    let more : length trail' ≡ length trail + 1 = ap (λ x. length x) et ∙ length-append trail (e ∷ []) in
    let back : (j : ℕ) (y : Entry) → j < length trail → slice_get trail' j ≡ Some y → slice_get trail j ≡ Some y =
    λ j y lt h. elim (get_push_cases trail j e y (ap (λ x. slice_get x j) (sym et) ∙ h)) [ inl old ↦ old | inr w ↦ absurd (let z : j ≡ length trail = w.0 in omega arith) ] in
    let on : (j : ℕ) (y : Entry) → slice_get trail j ≡ Some y → slice_get trail' j ≡ Some y = λ j y h. ap (λ x. slice_get x j) et ∙ get_push_old trail j e y h in
    let H : ℕ → Type 0 = λ h. AreWatched clauses q.watches.items values h (length trail) in
    let all = subst H head k.now in
    let at : (h n m : ℕ) → h ≤ length trail → n ≤ m → AreWatched clauses q.watches.items values h n → AreWatched clauses q.watches.items values' h m =
    λ h n m a b old i c o here w. watched_between clauses clauses values values' trail trail' h n m c.literals.items o t t' (λ j y lt f. back j y (let z : j < h = lt in omega arith) f) (λ j y lt f. on j y f) b (old i c o here w) in
    record {
      listed = k.listed;
      count = k.count;
      now = at q.head (length trail) (length trail') (omega arith) (omega arith) k.now;
      before = λ d (y, h, none). elim (get_push_cases trail d e y (ap (λ x. slice_get x d) (sym et) ∙ h)) [
        | inl old ↦ (let lt = slice_get_within trail d y old in at d d d (omega arith) (omega arith) (k.before d (y, old, none)))
        | inr new ↦ (let P : ℕ → Type 0 = λ x. AreWatched clauses q.watches.items values' x x in subst P (sym new.0) (at (length trail) (length trail) (length trail) (omega arith) (omega arith) all))
      ];
      below = λ d (y, h, none). (let lt = slice_get_within trail' d y h in omega arith);
      within = omega arith;
    }

-- room for more atoms
pub queued_widened : (clauses : List Clause) (values values' : List Value) (trail : List Entry) (q : Queue) → IsWidened values values' → IsQueued clauses values trail q → IsQueued clauses values' trail q
queued_widened clauses values values' trail q w k = record {
  listed = k.listed;
  count = k.count;
  now = at q.head (length trail) k.now;
  before = λ d dec. at d d (k.before d dec);
  below = k.below;
  within = k.within;
}
  where
    one : (h n : ℕ) (lits : _) (o : Option Watch) → IsWatched values h n lits o → IsWatched values' h n lits o
    one h n lits None (l, in', (p, lt, is)) = (l, in', (p, lt, w.same l ∙ is))
    one h n lits (Some v) (pair, g) = (
      pair,
      record {
        first = λ (p, lt, is). (let y = g.first (p, lt, sym (w.same v.first) ∙ is) in (y.0, y.1, w.same v.second ∙ y.2));
        second = λ (p, lt, is). (let y = g.second (p, lt, sym (w.same v.second) ∙ is) in (y.0, y.1, w.same v.first ∙ y.2));
      },
    )

    at : (h n : ℕ) → AreWatched clauses q.watches.items values h n → AreWatched clauses q.watches.items values' h n
    at h n old i c o here e = one h n c.literals.items o (old i c o here e)

pub rewound_over : (trail trail' : List Entry) (cut : ℕ) (q q' : Queue) → trail' ≡ trail → IsRewound trail' cut q q' → IsRewound trail cut q q'
rewound_over trail trail' cut q q' e h = let P : List Entry → Type 0 = λ x. IsRewound x cut q q' in subst P e h

pub queued_over : (clauses clauses' : List Clause) (values : List Value) (trail : List Entry) (q : Queue) → clauses' ≡ clauses → IsQueued clauses' values trail q → IsQueued clauses values trail q
queued_over clauses clauses' values trail q e h = let P : List Clause → Type 0 = λ x. IsQueued x values trail q in subst P e h
