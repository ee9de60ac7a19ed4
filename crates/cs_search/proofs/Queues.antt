-- What the clauses watch, as the trail grows and clauses are visited.
use Rattle.std.proofs.Common.{◌≡◌, ℕ, zero, suc, ◌+◌, ◌<◌, ◌≤◌, ◌⊎◌, inl, inr, List, [], ◌∷◌, ◌++◌, length, set, Option, Some, None, IfSome, IfNone, refl, sym, ◌∙◌, subst, ap, arith}
use Rattle.std.specs.List.{slice_get, All, Contains}
use Rattle.std.proofs.lemmas.Option.{slice_get_within}
use Rattle.std.proofs.lemmas.List.{length-append, length-set}
use Rattle.std.proofs.lemmas.List.Elements.{All-weaker}
use Rattle.cs_certificate.specs.declared.literal.Literal.{Literal}
use Rattle.cs_certificate.specs.declared.literal.Clause.{Clause}
use Rattle.cs_search.specs.declared.Value.{Value}
use Rattle.cs_search.specs.declared.Status.TheVariants.{Unassigned, True, False}
use Rattle.cs_search.specs.declared.Entry.{Entry}
use Rattle.cs_search.specs.declared.queue.Watch.{Watch}
use Rattle.cs_search.specs.declared.queue.Queue.{Queue}
use Rattle.cs_search.specs.declared.propagate.Seen.{Seen}
use Rattle.cs_search.specs.declared.propagate.Seen.TheVariants.{Left}
use Rattle.cs_search.specs.Assignment.{negated, status_of, valued, FalseBefore, TrueBefore, IsTrail, NotFalse, BecameFalse}
use Rattle.cs_search.specs.Extended.{IsExtended, IsConflict, AreClosed, AreKnown}
use Rattle.cs_search.specs.Settled.{IsDecision}
use Rattle.cs_search.specs.Rows.{Rows, row, slot, Has, IsAhead, IsPut, IsTaken}
use Rattle.cs_search.specs.Watched.{IsWatched, Watches, AreWatched, IsOther, IsBeside, IsElsewhere}
use Rattle.cs_search.specs.Queued.{IsEntered, IsListed, IsQueued, IsHeld, AreHeldBut, IsVisit, IsSeen}
use Rattle.cs_search.specs.Chosen.{IsLeft, IsSpare}
use Rattle.cs_search.proofs.Gets.{get_set_same, get_set_other, get_push_cases}
use Rattle.cs_search.proofs.Statuses.{same_atom, status_set_same, false_negated, true_negated, negated_twice}
use Rattle.cs_search.proofs.Settles.{some_at}
use Rattle.cs_search.proofs.Passes.{placed_below, extended_by, known_atom}
use Rattle.cs_search.proofs.Places.{slot_same, literal_same, has_over, put_kept, put_only, put_has}
use Rattle.cs_search.proofs.Guards.{watched_closed, watched_extends, kept_length, decision_back, guarded_true, guarded_moved, guarded_next}

-- lists
entered_twice : (old mid new : Rows) (n : ℕ) (w : Watch) → IsPut old mid (slot w.first) n → IsPut mid new (slot w.second) n → IsEntered old new n w
entered_twice old mid new n w a b = record {
  kept = λ s i h. put_kept mid new (slot w.second) n s i b (put_kept old mid (slot w.first) n s i a h);
  only = λ s i h. elim (put_only mid new (slot w.second) n s i b h) [ inl e ↦ inl e | inr h' ↦ put_only old mid (slot w.first) n s i a h' ];
  first = put_kept mid new (slot w.second) n (slot w.first) n b (put_has old mid (slot w.first) n a);
  second = put_has mid new (slot w.second) n b;
}

pub entered_at : (old mid new : Rows) (n m a b : ℕ) (w : Watch) → m ≡ n → a ≡ slot w.first → b ≡ slot w.second → IsPut old mid a m → IsPut mid new b m → IsEntered old new n w
entered_at old mid new n m a b w en ea eb x y =
    let N : ℕ → Type 0 = λ k. IsEntered old new k w in
    let A : ℕ → Type 0 = λ s. IsPut old mid s m in
    let B : ℕ → Type 0 = λ s. IsPut mid new s m in
    subst N en (entered_twice old mid new m w (subst A ea x) (subst B eb y))

pub listed_nothing : (watches : Watches) (rows : Rows) → watches ≡ [] → rows ≡ [] → IsListed watches rows
listed_nothing watches rows ew er =
    let P : Watches → Type 0 = λ x. IsListed x rows in
    let Q : Rows → Type 0 = λ x. IsListed [] x in
    subst P (sym ew) (subst Q (sym er) record {
      known = λ s i (j, e). (let t : None ≡ Some i = e in cc);
      first = λ i w e. (let t : None ≡ Some (Some w) = e in cc);
      second = λ i w e. (let t : None ≡ Some (Some w) = e in cc);
    })

pub listed_pair : (watches watches' : Watches) (rows rows' : Rows) (w : Watch) → watches' ≡ watches ++ Some w ∷ [] → IsEntered rows rows' (length watches) w → IsListed watches rows → IsListed watches' rows'
listed_pair watches watches' rows rows' w ew x l =
    let more : length (watches ++ Some w ∷ []) ≡ length watches + 1 = length-append watches (Some w ∷ []) in
    let P : Watches → Type 0 = λ y. IsListed y rows' in
    subst P (sym ew) record {
      known = λ s i h. elim (x.only s i h) [
        | inl e ↦ (let a : i ≡ length watches = e in omega arith)
        | inr old ↦ (let lt = l.known s i old in omega arith)
      ];
      first = λ i v at. elim (get_push_cases watches i (Some w) (Some v) at) [
        | inl old ↦ x.kept (slot v.first) i (l.first i v old)
        | inr new ↦
            let s : v ≡ w = let e = new.1 in cc in
            let R : ℕ → Watch → Type 0 = λ k y. Has (row rows' (slot y.first)) k in
            subst (λ (k : ℕ). R k v) (sym new.0) (subst (R (length watches)) (sym s) x.first)
      ];
      second = λ i v at. elim (get_push_cases watches i (Some w) (Some v) at) [
        | inl old ↦ x.kept (slot v.second) i (l.second i v old)
        | inr new ↦
            let s : v ≡ w = let e = new.1 in cc in
            let R : ℕ → Watch → Type 0 = λ k y. Has (row rows' (slot y.second)) k in
            subst (λ (k : ℕ). R k v) (sym new.0) (subst (R (length watches)) (sym s) x.second)
      ];
    }

pub listed_none : (watches watches' : Watches) (rows : Rows) → watches' ≡ watches ++ None ∷ [] → IsListed watches rows → IsListed watches' rows
listed_none watches watches' rows ew l =
    let more : length (watches ++ None ∷ []) ≡ length watches + 1 = length-append watches (None ∷ []) in
    let P : Watches → Type 0 = λ y. IsListed y rows in
    subst P (sym ew) record {
      known = λ s i h. (let lt = l.known s i h in omega arith);
      first = λ i v at. elim (get_push_cases watches i None (Some v) at) [ inl old ↦ l.first i v old | inr new ↦ (let e = new.1 in cc) ];
      second = λ i v at. elim (get_push_cases watches i None (Some v) at) [ inl old ↦ l.second i v old | inr new ↦ (let e = new.1 in cc) ];
    }

-- the clause of the number watches another pair, of which the first one was watched before
pub listed_anew : (watches watches' : Watches) (rows rows' : Rows) (number : ℕ) (w v : Watch) (away : Literal) → slice_get watches number ≡ Some (Some w) → IsOther w away (Some v.first) → watches' ≡ set watches number (Some v) → IsPut rows rows' (slot v.second) number → IsListed watches rows → IsListed watches' rows'
listed_anew watches watches' rows rows' number w v away at other ew put l =
    let lt = slice_get_within watches number (Some w) at in
    let keep = λ (s i : ℕ) (h : Has (row rows s) i). put_kept rows rows' (slot v.second) number s i put h in
    let was : Has (row rows (slot v.first)) number =
    (let R : Literal → Type 0 = λ x. Has (row rows (slot x)) number in elim other [ inl o ↦ subst R o.1 (l.second number w at) | inr o ↦ subst R o.1 (l.first number w at) ]) in
    let P : Watches → Type 0 = λ y. IsListed y rows' in
    let here : (i : ℕ) (u : Watch) → slice_get (set watches number (Some v)) i ≡ Some (Some u) → i ≡ number → u ≡ v = λ i u e same.
    (let t : Some (Some v) ≡ Some (Some u) = sym (get_set_same watches number (Some v) lt) ∙ ap (slice_get (set watches number (Some v))) (sym same) ∙ e in cc) in
    subst P (sym ew) record {
      known = λ s i h. elim (put_only rows rows' (slot v.second) number s i put h) [
        | inl e ↦ (let a : i ≡ number = e in omega (arith, lt, length-set watches number (Some v)))
        | inr old ↦ (let b = l.known s i old in omega (arith, b, length-set watches number (Some v)))
      ];
      first = λ i u e. elim (same_atom i number) [
        | inl same ↦
            let R : ℕ → Watch → Type 0 = λ k y. Has (row rows' (slot y.first)) k in
            subst (λ (k : ℕ). R k u) (sym same) (subst (R number) (sym (here i u e same)) (keep (slot v.first) number was))
        | inr ne ↦ keep (slot u.first) i (l.first i u (sym (get_set_other watches number i (Some v) ne) ∙ e))
      ];
      second = λ i u e. elim (same_atom i number) [
        | inl same ↦
            let R : ℕ → Watch → Type 0 = λ k y. Has (row rows' (slot y.second)) k in
            subst (λ (k : ℕ). R k u) (sym same) (subst (R number) (sym (here i u e same)) (put_has rows rows' (slot v.second) number put))
        | inr ne ↦ keep (slot u.second) i (l.second i u (sym (get_set_other watches number i (Some v) ne) ∙ e))
      ];
    }

order : (a b : ℕ) → (a < b) ⊎ ((a ≡ b) ⊎ (b + 1 ≤ a))
order zero zero = inr (inl refl)
order zero (suc b) = inl (omega arith)
order (suc a) zero = inr (inr (omega arith))
order (suc a) (suc b) = elim (order a b) [ inl h ↦ inl (omega arith) | inr (inl h) ↦ inr (inl (omega arith)) | inr (inr h) ↦ inr (inr (omega arith)) ]

-- the number at k of a row is gone, and its clause watches another literal
pub listed_taken : (watches : Watches) (rows rows' : Rows) (number k : ℕ) (away : Literal) → slice_get (row rows (slot away)) k ≡ Some number → IsElsewhere watches number away → IsTaken rows rows' (slot away) k → IsListed watches rows → IsListed watches rows'
listed_taken watches rows rows' number k away at else' taken l = record {
  known = λ s i h. l.known s i (only s i h);
  first = λ i w e. stays w.first i (l.first i w e) (λ n a. (else' w (ap (slice_get watches) (sym n) ∙ e)).0 a);
  second = λ i w e. stays w.second i (l.second i w e) (λ n a. (else' w (ap (slice_get watches) (sym n) ∙ e)).1 a);
}
  where
    only : (s i : ℕ) → Has (row rows' s) i → Has (row rows s) i
    only s i h = elim (same_atom s (slot away)) [
      | inl e ↦ (let P : ℕ → Type 0 = λ x. Has (row rows x) i in let Q : ℕ → Type 0 = λ x. Has (row rows' x) i in subst P (sym e) (taken.here.only i (subst Q e h)))
      | inr ne ↦ has_over (row rows' s) (row rows s) i (sym (taken.others s ne)) h
    ]

    stays : (l : Literal) (i : ℕ) → Has (row rows (slot l)) i → (i ≡ number → l ≡ away → ⊥) → Has (row rows' (slot l)) i
    stays m i h never = elim (same_atom (slot m) (slot away)) [
      | inr ne ↦ has_over (row rows (slot m)) (row rows' (slot m)) i (taken.others (slot m) ne) h
      | inl e ↦
          let P : ℕ → Type 0 = λ x. Has (row rows' x) i in
          let Q : ℕ → Type 0 = λ x. Has (row rows x) i in
          let h' = subst Q e h in
          subst P (sym e) (elim (order h'.0 k) [
            | inl lt ↦ (h'.0, taken.here.before h'.0 i lt h'.1)
            | inr (inl eq) ↦ absurd (never (let t : Some i ≡ Some number = sym h'.1 ∙ ap (slice_get (row rows (slot away))) eq ∙ at in cc) (slot_same m away e))
            | inr (inr gt) ↦ (let w = taken.here.behind i (h'.0, gt, h'.1) in (w.0, w.2))
          ])
    ]

-- the state
pub queued_extends : (clauses : List Clause) (values values' : List Value) (trail trail' : List Entry) (q : Queue) → IsTrail clauses values trail → IsExtended clauses values trail values' trail' → IsQueued clauses values trail q → IsQueued clauses values' trail' q
queued_extends clauses values values' trail trail' q t x k =
    let more = kept_length clauses values values' trail trail' x in
    record {
      listed = k.listed;
      count = k.count;
      now = λ i c o at w. watched_extends clauses values values' trail trail' q.head (length trail) (length trail') c.literals.items o t x k.within more (k.now i c o at w);
      before = λ d dec i c o at w.
          let dec' = decision_back clauses values values' trail trail' d x dec in
          let lt = slice_get_within trail d dec'.0 dec'.1 in
          watched_extends clauses values values' trail trail' d d d c.literals.items o t x (omega arith) (omega arith) (k.before d dec' i c o at w);
      below = λ d dec. k.below d (decision_back clauses values values' trail trail' d x dec);
      within = (let a = k.within in omega arith);
    }

pub queued_nothing : (clauses : List Clause) (values : List Value) (trail : List Entry) (q : Queue) → q.watches.items ≡ [] → q.rows.items ≡ [] → q.head ≡ length trail → IsQueued clauses values trail q
queued_nothing clauses values trail q ew er eh =
    let none : (i : ℕ) (o : Option Watch) → slice_get q.watches.items i ≡ Some o → ⊥ = λ i o e. (let t : None ≡ Some o = ap (λ x. slice_get x i) (sym ew) ∙ e in cc) in
    record {
      listed = listed_nothing q.watches.items q.rows.items ew er;
      count = (let a : length q.watches.items ≡ 0 = ap (λ x. length x) ew in omega arith);
      now = λ i c o at e. absurd (none i o e);
      before = λ d dec i c o at e. absurd (none i o e);
      below = λ d dec. (let lt = slice_get_within trail d dec.0 dec.1 in omega arith);
      within = omega arith;
    }

pub queued_rows : (clauses : List Clause) (values : List Value) (trail : List Entry) (q q' : Queue) → q'.watches ≡ q.watches → q'.head ≡ q.head → IsListed q'.watches.items q'.rows.items → IsQueued clauses values trail q → IsQueued clauses values trail q'
queued_rows clauses values trail q q' ew eh l k =
    let W : Watches → Type 0 = λ x. AreWatched clauses x values q.head (length trail) in
    let H : ℕ → Type 0 = λ h. AreWatched clauses q'.watches.items values h (length trail) in
    let w : q'.watches.items ≡ q.watches.items = ap (λ v. v.items) ew in
    record {
      listed = l;
      count = (let a : length q'.watches.items ≡ length q.watches.items = ap (λ x. length x) w in let b = k.count in omega arith);
      now = subst H (sym eh) (subst W (sym w) k.now);
      before = λ d dec. (let B : Watches → Type 0 = λ x. AreWatched clauses x values d d in subst B (sym w) (k.before d dec));
      below = λ d dec. (let a = k.below d dec in omega arith);
      within = (let a = k.within in omega arith);
    }

pub queued_pushed : (clauses clauses' : List Clause) (c : Clause) (values : List Value) (trail : List Entry) (q : Queue) → clauses' ≡ clauses ++ c ∷ [] → IsQueued clauses values trail q → IsQueued clauses' values trail q
queued_pushed clauses clauses' c values trail q ec k =
    let more : length clauses' ≡ length clauses + 1 = ap (λ x. length x) ec ∙ length-append clauses (c ∷ []) in
    let old : (i : ℕ) (y : Clause) (o : Option Watch) → slice_get clauses' i ≡ Some y → slice_get q.watches.items i ≡ Some o → slice_get clauses i ≡ Some y =
    λ i y o at e. elim (get_push_cases clauses i c y (ap (λ x. slice_get x i) (sym ec) ∙ at)) [
      | inl h ↦ h
      | inr w ↦ absurd (let lt = slice_get_within q.watches.items i o e in let a = k.count in let b : i ≡ length clauses = w.0 in omega arith)
    ] in
    record {
      listed = k.listed;
      count = (let a = k.count in omega arith);
      now = λ i y o at e. k.now i y o (old i y o at e) e;
      before = λ d dec i y o at e. k.before d dec i y o (old i y o at e) e;
      below = k.below;
      within = k.within;
    }

-- a visit
pub true_placed : (clauses : List Clause) (values : List Value) (trail : List Entry) (l : Literal) (p : ℕ) → IsTrail clauses values trail → status_of values l ≡ True p → TrueBefore values (length trail) l
true_placed clauses values trail l p t is = let w = t.placed l p is in (p, slice_get_within trail p w.0 w.1, is)

pub held_true : (clauses : List Clause) (values values' : List Value) (trail : List Entry) (q : Queue) (number n : ℕ) (away stays : Literal) → IsQueued clauses values trail q → IsBeside q.watches.items number away stays → TrueBefore values' n stays →
    IsHeld clauses q.watches.items values' (q.head + 1) n number
held_true clauses values values' trail q number n away stays k b t c o at e =
    let s : Some b.0 ≡ o = (let u : Some (Some b.0) ≡ Some o = sym b.1 ∙ e in cc) in
    let P : Option Watch → Type 0 = λ x. IsWatched values' (q.head + 1) n c.literals.items x in
    subst P s ((k.now number c (Some b.0) at b.1).0, guarded_true values' (q.head + 1) n b.0 away stays b.2 t)

watched_anew : (clauses : List Clause) (watches watches' : Watches) (values : List Value) (h n number : ℕ) (v : Watch) (c : Clause) → number < length watches → watches' ≡ set watches number (Some v) → slice_get clauses number ≡ Some c → IsWatched values h n c.literals.items (Some v) →
    AreWatched clauses watches values h n → AreWatched clauses watches' values h n
watched_anew clauses watches watches' values h n number v c lt ew at here old i y o cat e =
    let e' : slice_get (set watches number (Some v)) i ≡ Some o = ap (λ x. slice_get x i) (sym ew) ∙ e in
    elim (same_atom i number) [
      | inl same ↦
          let so : Some v ≡ o = (let t : Some (Some v) ≡ Some o = sym (get_set_same watches number (Some v) lt) ∙ ap (slice_get (set watches number (Some v))) (sym same) ∙ e' in cc) in
          let sc : c ≡ y = (let t : Some c ≡ Some y = sym at ∙ ap (slice_get clauses) (sym same) ∙ cat in cc) in
          let P : Option Watch → Type 0 = λ x. IsWatched values h n y.literals.items x in
          let Q : Clause → Type 0 = λ x. IsWatched values h n x.literals.items (Some v) in
          subst P so (subst Q sc here)
      | inr ne ↦ old i y o cat (sym (get_set_other watches number i (Some v) ne) ∙ e')
    ]

-- a pair of which the second literal is not false, and the first one was watched beside the one that is walked
pub record IsMove (clauses : List Clause) (values : List Value) (q q' : Queue) (number : ℕ) (v : Watch) (away : Literal) : Type 0 where
  pub clause : Clause
  pub at : slice_get clauses number ≡ Some clause
  pub beside : IsBeside q.watches.items number away v.first
  pub contained : Contains clause.literals.items v.second
  pub apart : ¬ (v.second ≡ v.first)
  pub free : NotFalse values v.second
  pub watches : q'.watches.items ≡ set q.watches.items number (Some v)
  pub rows : IsPut q.rows.items q'.rows.items (slot v.second) number
  pub head : q'.head ≡ q.head

pub moved_watched : (clauses : List Clause) (values : List Value) (trail : List Entry) (q q' : Queue) (number k m : ℕ) (v : Watch) (away : Literal) → IsTrail clauses values trail → status_of values away ≡ False q.head → IsQueued clauses values trail q → (x : IsMove clauses values q q' number v away) → k ≤ q.head + 1 →
    IsWatched values k m x.clause.literals.items (Some v)
moved_watched clauses values trail q q' number k m v away t is queued x le =
    let w = x.beside.0 in
    let was = queued.now number x.clause (Some w) x.at x.beside.1 in
    let P : Literal → Type 0 = λ y. Contains x.clause.literals.items y in (
      record {
        first = elim x.beside.2 [ inl o ↦ subst P o.1 was.0.second | inr o ↦ subst P o.1 was.0.first ];
        second = x.contained;
        apart = λ e. x.apart (sym e);
      },
      guarded_moved clauses values trail q.head (length trail) k m w v away t is was.0.apart x.beside.2 was.1 x.free le,
    )

pub queued_moved : (clauses : List Clause) (values : List Value) (trail : List Entry) (q q' : Queue) (number : ℕ) (v : Watch) (away : Literal) → IsTrail clauses values trail → status_of values away ≡ False q.head → IsQueued clauses values trail q → IsMove clauses values q q' number v away → IsQueued clauses values trail q'
queued_moved clauses values trail q q' number v away t is k x =
    let lt = slice_get_within q.watches.items number (Some x.beside.0) x.beside.1 in
    let H : ℕ → Type 0 = λ h. AreWatched clauses q'.watches.items values h (length trail) in
    let at : (h n : ℕ) → h ≤ q.head + 1 → AreWatched clauses q.watches.items values h n → AreWatched clauses q'.watches.items values h n =
    λ h n le old. watched_anew clauses q.watches.items q'.watches.items values h n number v x.clause lt x.watches x.at (moved_watched clauses values trail q q' number h n v away t is k x le) old in
    record {
      listed = listed_anew q.watches.items q'.watches.items q.rows.items q'.rows.items number x.beside.0 v away x.beside.1 x.beside.2 x.watches x.rows k.listed;
      count = (let a = k.count in let b : length q'.watches.items ≡ length q.watches.items = ap (λ y. length y) x.watches ∙ length-set q.watches.items number (Some v) in omega arith);
      now = subst H (sym x.head) (at q.head (length trail) (omega arith) k.now);
      before = λ d dec. at d d (let a = k.below d dec in omega arith) (k.before d dec);
      below = λ d dec. (let a = k.below d dec in let b = x.head in omega arith);
      within = (let a = k.within in let b = x.head in omega arith);
    }

pub moved_visit : (clauses : List Clause) (values : List Value) (q q' : Queue) (number h : ℕ) (v : Watch) (away : Literal) → status_of values away ≡ False h → IsMove clauses values q q' number v away → IsVisit q q' number (slot away)
moved_visit clauses values q q' number h v away is x = record {
  head = x.head;
  row = x.rows.others (slot away) (λ e. x.free h (let s = slot_same away v.second e in ap (status_of values) (sym s) ∙ is));
  count = ap (λ y. length y) x.watches ∙ length-set q.watches.items number (Some v);
  others = λ i ne. ap (λ y. slice_get y i) x.watches ∙ get_set_other q.watches.items number i (Some v) ne;
}

pub moved_seen : (clauses : List Clause) (values : List Value) (trail : List Entry) (q q' : Queue) (number : ℕ) (v : Watch) (away : Literal) → IsTrail clauses values trail → status_of values away ≡ False q.head → IsQueued clauses values trail q → IsMove clauses values q q' number v away →
    IsSeen clauses q'.watches.items values (q'.head + 1) (length trail) number away Left
moved_seen clauses values trail q q' number v away t is k x =
    let lt = slice_get_within q.watches.items number (Some x.beside.0) x.beside.1 in
    let here : slice_get q'.watches.items number ≡ Some (Some v) = ap (λ y. slice_get y number) x.watches ∙ get_set_same q.watches.items number (Some v) lt in
    let was = k.now number x.clause (Some x.beside.0) x.at x.beside.1 in
    let there = moved_watched clauses values trail q q' number (q'.head + 1) (length trail) v away t is k x (let a = x.head in omega arith) in (
      λ c o at e.
          let so : Some v ≡ o = (let u : Some (Some v) ≡ Some o = sym here ∙ e in cc) in
          let sc : x.clause ≡ c = (let u : Some x.clause ≡ Some c = sym x.at ∙ at in cc) in
          let P : Option Watch → Type 0 = λ y. IsWatched values (q'.head + 1) (length trail) c.literals.items y in
          let Q : Clause → Type 0 = λ y. IsWatched values (q'.head + 1) (length trail) y.literals.items (Some v) in
          subst P so (subst Q sc there),
      λ u e.
          let su : v ≡ u = (let z : Some (Some v) ≡ Some (Some u) = sym here ∙ e in cc) in
          let P : Watch → Type 0 = λ y. ¬ (y.first ≡ away) × ¬ (y.second ≡ away) in
          subst P su (
            λ a. elim x.beside.2 [ inl o ↦ was.0.apart (o.0 ∙ sym a ∙ sym o.1) | inr o ↦ was.0.apart (o.1 ∙ a ∙ sym o.0) ],
            λ a. x.free q.head (ap (status_of values) a ∙ is),
          ),
    )

pub visit_itself : (q : Queue) (number s : ℕ) → IsVisit q q number s
visit_itself q number s = record { head = refl; row = refl; count = refl; others = λ i ne. refl }

pub elsewhere_held : (clauses : List Clause) (values : List Value) (trail : List Entry) (q : Queue) (number : ℕ) (away : Literal) → IsTrail clauses values trail → status_of values away ≡ False q.head → IsQueued clauses values trail q → IsElsewhere q.watches.items number away →
    IsHeld clauses q.watches.items values (q.head + 1) (length trail) number
elsewhere_held clauses values trail q number away t is k free c None at e = k.now number c None at e
elsewhere_held clauses values trail q number away t is k free c (Some w) at e =
    let was = k.now number c (Some w) at e in
    (was.0, guarded_next clauses values trail q.head (length trail) w away t is (free w e) was.1)

-- a row
held_more : (clauses : List Clause) (values values' : List Value) (trail trail' : List Entry) (q q' : Queue) (h number k m : ℕ) (xs ys : List ℕ) → IsTrail clauses values trail → IsExtended clauses values trail values' trail' → h ≤ length trail →
    ((i : ℕ) → ¬ (i ≡ number) → slice_get q'.watches.items i ≡ slice_get q.watches.items i) → IsHeld clauses q'.watches.items values' h (length trail') number → ((i : ℕ) → ¬ (i ≡ number) → IsAhead xs k i → IsAhead ys m i) →
    AreHeldBut clauses q.watches.items values h (length trail) xs k → AreHeldBut clauses q'.watches.items values' h (length trail') ys m
held_more clauses values values' trail trail' q q' h number k m xs ys t x le others here ahead old i c o at e = elim (same_atom i number) [
  | inl same ↦ inl (here c o (ap (slice_get clauses) (sym same) ∙ at) (ap (slice_get q'.watches.items) (sym same) ∙ e))
  | inr ne ↦ elim (old i c o at (sym (others i ne) ∙ e)) [
    | inl w ↦ inl (watched_extends clauses values values' trail trail' h (length trail) (length trail') c.literals.items o t x le (kept_length clauses values values' trail trail' x) w)
    | inr a ↦ inr (ahead i ne a)
  ]
]

ahead_next : (xs : List ℕ) (k number i : ℕ) → slice_get xs k ≡ Some number → ¬ (i ≡ number) → IsAhead xs k i → IsAhead xs (k + 1) i
ahead_next xs k number i at ne (j, le, e) = elim (same_atom j k) [
  | inl same ↦ absurd (ne (let t : Some i ≡ Some number = sym e ∙ ap (slice_get xs) same ∙ at in cc))
  | inr other ↦ (j, (let a : k ≤ j = le in let b : ¬ (j ≡ k) = other in omega arith), e)
]

pub held_kept : (clauses : List Clause) (values values' : List Value) (trail trail' : List Entry) (q q' : Queue) (number k : ℕ) (away : Literal) → IsTrail clauses values trail → IsExtended clauses values trail values' trail' → status_of values away ≡ False q.head → IsVisit q q' number (slot away) →
    IsHeld clauses q'.watches.items values' (q'.head + 1) (length trail') number → slice_get (row q.rows.items (slot away)) k ≡ Some number →
    AreHeldBut clauses q.watches.items values (q.head + 1) (length trail) (row q.rows.items (slot away)) k → AreHeldBut clauses q'.watches.items values' (q'.head + 1) (length trail') (row q'.rows.items (slot away)) (k + 1)
held_kept clauses values values' trail trail' q q' number k away t x is v here at old =
    let H : ℕ → Type 0 = λ h. AreHeldBut clauses q'.watches.items values' (h + 1) (length trail') (row q'.rows.items (slot away)) (k + 1) in
    let G : ℕ → Type 0 = λ h. IsHeld clauses q'.watches.items values' (h + 1) (length trail') number in
    let lt = placed_below clauses values trail t away q.head is in
    subst H (sym v.head) (held_more clauses values values' trail trail' q q' (q.head + 1) number k (k + 1) (row q.rows.items (slot away)) (row q'.rows.items (slot away)) t x (omega arith) v.others (subst G v.head here)
    (λ i ne a. (let P : List ℕ → Type 0 = λ xs. IsAhead xs (k + 1) i in subst P (sym v.row) (ahead_next (row q.rows.items (slot away)) k number i at ne a))) old)

pub held_taken : (clauses : List Clause) (watches : Watches) (values : List Value) (h n k s : ℕ) (rows rows' : Rows) → IsTaken rows rows' s k → AreHeldBut clauses watches values h n (row rows s) (k + 1) → AreHeldBut clauses watches values h n (row rows' s) k
held_taken clauses watches values h n k s rows rows' taken held i c o at e = elim (held i c o at e) [ inl w ↦ inl w | inr a ↦ inr (taken.here.behind i a) ]

pub held_first : (clauses : List Clause) (values : List Value) (trail : List Entry) (q : Queue) (away : Literal) → IsTrail clauses values trail → status_of values away ≡ False q.head → IsQueued clauses values trail q → AreHeldBut clauses q.watches.items values (q.head + 1) (length trail) (row q.rows.items (slot away)) 0
held_first clauses values trail q away t is k i c None at e = inl (k.now i c None at e)
held_first clauses values trail q away t is k i c (Some w) at e =
    let ahead : (l : Literal) → l ≡ away → Has (row q.rows.items (slot l)) i → IsAhead (row q.rows.items (slot away)) 0 i = λ l same h.
    (let P : Literal → Type 0 = λ x. Has (row q.rows.items (slot x)) i in let h' = subst P same h in (h'.0, omega arith, h'.1)) in
    elim (literal_same w.first away) [
      | inl a ↦ inr (ahead w.first a (k.listed.first i w e))
      | inr na ↦ elim (literal_same w.second away) [
        | inl b ↦ inr (ahead w.second b (k.listed.second i w e))
        | inr nb ↦ inl (let was = k.now i c (Some w) at e in (was.0, guarded_next clauses values trail q.head (length trail) w away t is (na, nb) was.1))
      ]
    ]

pub held_all : (clauses : List Clause) (watches : Watches) (values : List Value) (h n k : ℕ) (xs : List ℕ) → slice_get xs k ≡ None → AreHeldBut clauses watches values h n xs k → AreWatched clauses watches values h n
held_all clauses watches values h n k xs none held i c o at e = elim (held i c o at e) [
  | inl w ↦ w
  | inr a ↦
      let lt = slice_get_within xs a.0 i a.2 in
      let le : k ≤ a.0 = a.1 in
      let s = some_at xs k (omega arith) in
      let t : None ≡ Some s.0 = sym none ∙ s.1 in cc
]

-- a walk
pub walked_false : (clauses : List Clause) (values : List Value) (trail : List Entry) (h : ℕ) (e : Entry) (away : Literal) → IsTrail clauses values trail → slice_get trail h ≡ Some e → away ≡ negated e.literal → status_of values away ≡ False h
walked_false clauses values trail h e away t at is = ap (status_of values) is ∙ false_negated values e.literal h (t.set h e at)

pub queued_advanced : (clauses : List Clause) (values : List Value) (trail : List Entry) (q q' : Queue) (h : ℕ) → q'.watches ≡ q.watches → q'.rows ≡ q.rows → q'.head ≡ q.head + 1 → q.head < length trail → AreWatched clauses q.watches.items values (q.head + 1) (length trail) → IsQueued clauses values trail q → IsQueued clauses values trail q'
queued_advanced clauses values trail q q' h ew er eh lt held k =
    let w : q'.watches.items ≡ q.watches.items = ap (λ v. v.items) ew in
    let r : q'.rows.items ≡ q.rows.items = ap (λ v. v.items) er in
    let W : Watches → Type 0 = λ x. AreWatched clauses x values (q.head + 1) (length trail) in
    let H : ℕ → Type 0 = λ h. AreWatched clauses q'.watches.items values h (length trail) in
    let L : Watches → Type 0 = λ x. IsListed x q'.rows.items in
    let M : Rows → Type 0 = λ x. IsListed q.watches.items x in
    record {
      listed = subst L (sym w) (subst M (sym r) k.listed);
      count = (let a : length q'.watches.items ≡ length q.watches.items = ap (λ x. length x) w in let b = k.count in omega arith);
      now = subst H (sym eh) (subst W (sym w) held);
      before = λ d dec. (let B : Watches → Type 0 = λ x. AreWatched clauses x values d d in subst B (sym w) (k.before d dec));
      below = λ d dec. (let a = k.below d dec in omega arith);
      within = omega arith;
    }

pub closed_all : (clauses : List Clause) (values : List Value) (trail : List Entry) (q : Queue) → q.head ≡ length trail → length q.watches.items ≡ length clauses → IsQueued clauses values trail q → AreClosed clauses values (length trail) (length clauses)
closed_all clauses values trail q eh en k i c lt at =
    let o = some_at q.watches.items i (omega arith) in
    let P : ℕ → Type 0 = λ h. IsWatched values h (length trail) c.literals.items o.0 in
    watched_closed values (length trail) (length trail) c.literals.items o.0 (subst P eh (k.now i c o.0 at o.1))

-- one clause more
watched_push : (clauses : List Clause) (watches watches' : Watches) (values : List Value) (h n : ℕ) (c : Clause) (o : Option Watch) → watches' ≡ watches ++ o ∷ [] → slice_get clauses (length watches) ≡ Some c → IsWatched values h n c.literals.items o → AreWatched clauses watches values h n → AreWatched clauses watches' values h n
watched_push clauses watches watches' values h n c o ew at here old i y p cat e = elim (get_push_cases watches i o p (ap (λ x. slice_get x i) (sym ew) ∙ e)) [
  | inl before ↦ old i y p cat before
  | inr new ↦
      let sc : c ≡ y = (let t : Some c ≡ Some y = sym at ∙ ap (slice_get clauses) (sym new.0) ∙ cat in cc) in
      let P : Option Watch → Type 0 = λ x. IsWatched values h n y.literals.items x in
      let Q : Clause → Type 0 = λ x. IsWatched values h n x.literals.items o in
      subst P (sym new.1) (subst Q sc here)
]

pub queued_entered : (clauses : List Clause) (values values' : List Value) (trail trail' : List Entry) (q q' : Queue) (c : Clause) (o : Option Watch) → IsTrail clauses values trail → IsExtended clauses values trail values' trail' → slice_get clauses (length q.watches.items) ≡ Some c →
    q'.watches.items ≡ q.watches.items ++ o ∷ [] → q'.head ≡ q.head → IsListed q'.watches.items q'.rows.items → IsWatched values' q.head (length trail') c.literals.items o → ((d : ℕ) → IsDecision trail d → IsWatched values d d c.literals.items o) → IsQueued clauses values trail q →
    IsQueued clauses values' trail' q'
queued_entered clauses values values' trail trail' q q' c o t x at ew eh l now before k =
    let y = queued_extends clauses values values' trail trail' q t x k in
    let H : ℕ → Type 0 = λ h. AreWatched clauses q'.watches.items values' h (length trail') in
    record {
      listed = l;
      count = (let a : length q'.watches.items ≡ length q.watches.items + 1 = ap (λ z. length z) ew ∙ length-append q.watches.items (o ∷ []) in let b = slice_get_within clauses (length q.watches.items) c at in omega arith);
      now = subst H (sym eh) (watched_push clauses q.watches.items q'.watches.items values' q.head (length trail') c o ew at now y.now);
      before = λ d dec.
          let dec' = decision_back clauses values values' trail trail' d x dec in
          let lt = slice_get_within trail d dec'.0 dec'.1 in
          watched_push clauses q.watches.items q'.watches.items values' d d c o ew at (watched_extends clauses values values' trail trail' d d d c.literals.items o t x (omega arith) (omega arith) (before d dec')) (y.before d dec);
      below = λ d dec. (let a = y.below d dec in omega arith);
      within = (let a = y.within in omega arith);
    }

-- what a clause leaves
pub left_conflict : (clauses : List Clause) (values : List Value) (trail : List Entry) (i p : ℕ) (l : Literal) → IsTrail clauses values trail → IsLeft clauses values (length trail) i l → status_of values l ≡ False p → IsConflict clauses values (length trail) i
left_conflict clauses values trail i p l t (c, at, in', only) is =
    let P : Literal → Type 0 = λ m. FalseBefore values (length trail) m in
    let here : P l = (p, placed_below clauses values trail t l p is, is) in
    (c, at, All-weaker (λ m. (m ≡ l) ⊎ P m) P (λ m x. elim x [ inl e ↦ subst P (sym e) here | inr f ↦ f ]) c.literals.items only)

pub left_extended : (clauses : List Clause) (values values' : List Value) (trail trail' : List Entry) (i : ℕ) (l : Literal) → IsTrail clauses values trail → AreKnown clauses (length values) → IsLeft clauses values (length trail) i l → status_of values l ≡ Unassigned →
    values' ≡ set values l.number (valued l.positive (length trail)) → trail' ≡ trail ++ record { literal = l; reason = Some i } ∷ [] → IsExtended clauses values trail values' trail'
left_extended clauses values values' trail trail' i l t known (c, at, in', only) free ev et =
    extended_by clauses values values' trail trail' i c l t at (known_atom clauses (length values) i c l known at in') record { contained = in'; free = free; leaves = only } ev et

pub left_true : (clauses : List Clause) (values values' : List Value) (trail trail' : List Entry) (i : ℕ) (l : Literal) → AreKnown clauses (length values) → IsLeft clauses values (length trail) i l →
    values' ≡ set values l.number (valued l.positive (length trail)) → trail' ≡ trail ++ record { literal = l; reason = Some i } ∷ [] → TrueBefore values' (length trail') l
left_true clauses values values' trail trail' i l known (c, at, in', only) ev et = (
  length trail,
  (let n = ap (λ x. length x) et ∙ length-append trail (record { literal = l; reason = Some i } ∷ []) in omega arith),
  ap (λ v. status_of v l) ev ∙ status_set_same values l (length trail) (known_atom clauses (length values) i c l known at in'),
)

pub known_at : (clauses : List Clause) (m n : ℕ) → n ≡ m → AreKnown clauses m → AreKnown clauses n
known_at clauses m n e k = let P : ℕ → Type 0 = λ x. AreKnown clauses x in subst P (sym e) k

pub left_others : (clauses : List Clause) (values vs : List Value) (trail : List Entry) (i : ℕ) (clause : Clause) (lits : List Literal) (q : Queue) (away stays : Literal) → IsTrail clauses values trail → slice_get clauses i ≡ Some clause → vs ≡ values → lits ≡ clause.literals.items → IsQueued clauses values trail q → IsBeside q.watches.items i away stays →
    All (λ m. (m ≡ stays) ⊎ BecameFalse vs m) lits → IsLeft clauses values (length trail) i stays
left_others clauses values vs trail i clause lits q away stays t at ev el k b h =
    let P : List Value → Type 0 = λ x. All (λ m. (m ≡ stays) ⊎ BecameFalse x m) lits in
    let Q : List Literal → Type 0 = λ x. All (λ m. (m ≡ stays) ⊎ BecameFalse values m) x in
    let C : Literal → Type 0 = λ y. Contains clause.literals.items y in
    let was = k.now i clause (Some b.0) at b.1 in (
      clause,
      at,
      elim b.2 [ inl o ↦ subst C o.1 was.0.second | inr o ↦ subst C o.1 was.0.first ],
      All-weaker (λ m. (m ≡ stays) ⊎ BecameFalse values m) (λ m. (m ≡ stays) ⊎ FalseBefore values (length trail) m)
          (λ m x. elim x [ inl e ↦ inl e | inr f ↦ inr (f.0, placed_below clauses values trail t m f.0 f.1, f.1) ]) clause.literals.items (subst Q el (subst P ev h)),
    )

pub move_to : (clauses : List Clause) (values vs : List Value) (q q' : Queue) (i : ℕ) (clause : Clause) (lits : List Literal) (away stays next : Literal) → slice_get clauses i ≡ Some clause → vs ≡ values → lits ≡ clause.literals.items → IsBeside q.watches.items i away stays →
    IsSpare vs lits stays (Some next) → q'.watches.items ≡ set q.watches.items i (Some record { first = stays; second = next }) → IsPut q.rows.items q'.rows.items (slot next) i → q'.head ≡ q.head → IsMove clauses values q q' i record { first = stays; second = next } away
move_to clauses values vs q q' i clause lits away stays next at ev el b s ew put eh =
    let P : List Value → Type 0 = λ x. IsSpare x lits stays (Some next) in
    let Q : List Literal → Type 0 = λ x. IsSpare values x stays (Some next) in
    let s' = subst Q el (subst P ev s) in
    record { clause = clause; at = at; beside = b; contained = s'.0; apart = s'.1; free = s'.2; watches = ew; rows = put; head = eh }

pub elsewhere_over : (watches ws : Watches) (i : ℕ) (away : Literal) → ws ≡ watches → IsElsewhere ws i away → IsElsewhere watches i away
elsewhere_over watches ws i away e h = let P : Watches → Type 0 = λ x. IsElsewhere x i away in subst P e h

pub beside_over : (watches ws : Watches) (i : ℕ) (away stays : Literal) → ws ≡ watches → IsBeside ws i away stays → IsBeside watches i away stays
beside_over watches ws i away stays e h = let P : Watches → Type 0 = λ x. IsBeside x i away stays in subst P e h

pub false_extends : (clauses : List Clause) (values values' : List Value) (trail trail' : List Entry) (l : Literal) (p : ℕ) → IsTrail clauses values trail → IsExtended clauses values trail values' trail' → status_of values l ≡ False p → status_of values' l ≡ False p
false_extends clauses values values' trail trail' l p t x is =
    let w = t.placed (negated l) p (true_negated values l p is) in
    let F : Literal → Type 0 = λ m. status_of values' m ≡ False p in
    let T : Literal → Type 0 = λ m. status_of values' m ≡ True p in
    subst F (negated_twice l) (false_negated values' (negated l) p (subst T w.2 (x.sound.set p w.0 (x.kept p w.0 w.1))))

pub taken_listed : (watches : Watches) (rows mid rows' : Rows) (number k s : ℕ) (away : Literal) → row mid (slot away) ≡ row rows (slot away) → slice_get (row rows (slot away)) k ≡ Some number → s ≡ slot away → IsElsewhere watches number away → IsTaken mid rows' s k → IsListed watches mid → IsListed watches rows'
taken_listed watches rows mid rows' number k s away same at es else' taken l =
    let P : ℕ → Type 0 = λ x. IsTaken mid rows' x k in
    listed_taken watches mid rows' number k away (ap (λ xs. slice_get xs k) same ∙ at) else' (subst P es taken) l

pub held_taken_at : (clauses : List Clause) (watches : Watches) (values : List Value) (h n k s : ℕ) (away : Literal) (rows rows' : Rows) → s ≡ slot away → IsTaken rows rows' s k → AreHeldBut clauses watches values h n (row rows (slot away)) (k + 1) → AreHeldBut clauses watches values h n (row rows' (slot away)) k
held_taken_at clauses watches values h n k s away rows rows' es taken held =
    let P : ℕ → Type 0 = λ x. IsTaken rows rows' x k in
    held_taken clauses watches values h n k (slot away) rows rows' (subst P es taken) held

pub none_then : {P Q : Type 0} (o : Option ℕ) → (P → Q) → IfNone o P → IfNone o Q
none_then None f p = f p
none_then (Some x) f p = tt

pub none_at : {P : Type 0} (o : Option ℕ) → o ≡ None → IfNone o P → P
none_at None e p = p
none_at (Some x) e p = cc

pub seen_at : (clauses : List Clause) (watches : Watches) (values : List Value) (h n i : ℕ) (away : Literal) (s s' : Seen) → s ≡ s' → IsSeen clauses watches values h n i away s → IsSeen clauses watches values h n i away s'
seen_at clauses watches values h n i away s s' e x = let P : Seen → Type 0 = λ y. IsSeen clauses watches values h n i away y in subst P e x

pub held_some : (clauses : List Clause) (watches : Watches) (values : List Value) (h n k : ℕ) (xs : List ℕ) (o : Option ℕ) → o ≡ Some k → IfSome o (AreHeldBut clauses watches values h n xs) → AreHeldBut clauses watches values h n xs k
held_some clauses watches values h n k xs o e x = let P : Option ℕ → Type 0 = λ y. IfSome y (AreHeldBut clauses watches values h n xs) in subst P e x

pub less_some : (a b k next : ℕ) (o : Option ℕ) → o ≡ Some next → IfSome o (λ n. a + k + 1 ≡ b + n) → a + k + 1 ≡ b + next
less_some a b k next o e x = let P : Option ℕ → Type 0 = λ y. IfSome y (λ n. a + k + 1 ≡ b + n) in subst P e x

pub stands_at : (rows rs : Rows) (s k : ℕ) (away : Literal) (o : Option ℕ) → rs ≡ rows → s ≡ slot away → o ≡ slice_get (row rs s) k → slice_get (row rows (slot away)) k ≡ o
stands_at rows rs s k away o er es e = sym (e ∙ ap (λ x. slice_get (row x s) k) er ∙ ap (λ x. slice_get (row rows x) k) es)
