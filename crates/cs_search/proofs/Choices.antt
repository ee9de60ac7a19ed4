-- Which literals of a clause are watched.
use Rattle.std.proofs.Common.{◌≡◌, ℕ, ◌+◌, ◌<◌, ◌≤◌, ◌⊎◌, ◌↔◌, Bool, true, false, IsTrue, inl, inr, List, [], ◌∷◌, ◌++◌, length, Option, Some, None, refl, sym, ◌∙◌, subst, ap, arith}
use Rattle.std.specs.List.{slice_get, All}
use Rattle.std.proofs.lemmas.List.Elements.{All-weaker, All-push, Contains-push, Contains-append_left}
use Rattle.cs_certificate.specs.declared.literal.Literal.{Literal}
use Rattle.cs_certificate.specs.declared.literal.Clause.{Clause}
use Rattle.cs_search.specs.declared.Value.{Value}
use Rattle.cs_search.specs.declared.Entry.{Entry}
use Rattle.cs_search.specs.declared.Status.TheVariants.{False}
use Rattle.cs_search.specs.declared.queue.Watch.{Watch}
use Rattle.cs_search.specs.declared.choose.Choice.{Choice}
use Rattle.cs_search.specs.declared.choose.Choice.TheVariants.{Nothing, Alone, Forced, Free}
use Rattle.cs_search.specs.Assignment.{status_of, FalseBefore, LeavesOnly, IsFalse, IsTrail, BecameFalse, IsPlacedBelow}
use Rattle.cs_search.specs.Chosen.{IsLastFalse, IsChosen, IsChosenAt, IsLeft}
use Rattle.cs_search.specs.Assignment.{TrueBefore}
use Rattle.cs_search.specs.Extended.{IsExtended, IsConflict}
use Rattle.cs_search.specs.Search.{IsSearch}
use Rattle.cs_search.specs.Rows.{Rows}
use Rattle.cs_search.specs.Queued.{IsEntered, IsListed, IsQueued}
use Rattle.cs_search.specs.declared.queue.Queue.{Queue}
use Rattle.cs_search.proofs.Settles.{only_more}
use Rattle.cs_search.proofs.Passes.{placed_below, extended_itself}
use Rattle.cs_search.proofs.Guards.{guarded_true, guarded_free, guarded_forced}
use Rattle.cs_search.proofs.Queues.{queued_entered, listed_none, listed_pair}

pub last_at : (values : List Value) (c c' : List Literal) (but : Literal) (o : Option Literal) → c ≡ c' → IsLastFalse values c but o → IsLastFalse values c' but o
last_at values c c' but o e h = let P : List Literal → Type 0 = λ x. IsLastFalse values x but o in subst P e h

pub option_last : (values : List Value) (c : List Literal) (but : Literal) (o o' : Option Literal) → o ≡ o' → IsLastFalse values c but o → IsLastFalse values c but o'
option_last values c but o o' e h = let P : Option Literal → Type 0 = λ x. IsLastFalse values c but x in subst P e h

pub last_same : (values : List Value) (c : List Literal) (l but : Literal) (o : Option Literal) → l ≡ but → IsLastFalse values c but o → IsLastFalse values (c ++ l ∷ []) but o
last_same values c l but None e h = All-push (λ m. m ≡ but) c l h e
last_same values c l but (Some m) e (in', ne, (p, is, leaves)) = (Contains-append_left c (l ∷ []) m in', ne, (p, is, All-push (λ x. (x ≡ but) ⊎ FalseBefore values (p + 1) x) c l leaves (inl e)))

pub last_first : (values : List Value) (c : List Literal) (l but : Literal) → ¬ (l ≡ but) → BecameFalse values l → IsLastFalse values c but None → IsLastFalse values (c ++ l ∷ []) but (Some l)
last_first values c l but ne (p, is) h = (
  Contains-push c l,
  ne,
  (p, is, All-push (λ x. (x ≡ but) ⊎ FalseBefore values (p + 1) x) c l (All-weaker (λ m. m ≡ but) (λ x. (x ≡ but) ⊎ FalseBefore values (p + 1) x) (λ m e. inl e) c h) (inr (p, omega arith, is))),
)

pub last_later : (values : List Value) (c : List Literal) (top l but : Literal) (a b : ℕ) → ((p : ℕ) → status_of values top ≡ False p → a ≡ p) → ((p : ℕ) → status_of values l ≡ False p → b ≡ p) → a < b → ¬ (l ≡ but) → BecameFalse values l →
    IsLastFalse values c but (Some top) → IsLastFalse values (c ++ l ∷ []) but (Some l)
last_later values c top l but a b at bt lt ne (q, isq) (in', apart, (p, is, leaves)) = (
  Contains-push c l,
  ne,
  (q, isq, All-push (λ x. (x ≡ but) ⊎ FalseBefore values (q + 1) x) c l (only_more values (p + 1) (q + 1) c but (let x = at p is in let y = bt q isq in omega arith) leaves) (inr (q, omega arith, isq))),
)

pub last_stays : (values : List Value) (c : List Literal) (top l but : Literal) (a b : ℕ) → ((p : ℕ) → status_of values top ≡ False p → a ≡ p) → ((p : ℕ) → status_of values l ≡ False p → b ≡ p) → b ≤ a → BecameFalse values l →
    IsLastFalse values c but (Some top) → IsLastFalse values (c ++ l ∷ []) but (Some top)
last_stays values c top l but a b at bt le (q, isq) (in', apart, (p, is, leaves)) = (
  Contains-append_left c (l ∷ []) top in',
  apart,
  (p, is, All-push (λ x. (x ≡ but) ⊎ FalseBefore values (p + 1) x) c l leaves (inr (q, (let x = at p is in let y = bt q isq in omega arith), isq))),
)

pub other_false : (values : List Value) (l but : Literal) (b : Bool) → (IsTrue b ↔ (l ≡ but)) → b ≡ false → (l ≡ but) ⊎ BecameFalse values l → (¬ (l ≡ but)) × BecameFalse values l
other_false values l but b same isnt (inl e) = absurd (let t : b ≡ true = same.1 e in cc)
other_false values l but b same isnt (inr f) = (λ e. (let t : b ≡ true = same.1 e in cc), f)

-- what a choice says of the clause of a number
pub chosen_at : (clauses : List Clause) (i j : ℕ) (c : Clause) (values vs : List Value) (lits : List Literal) (choice : Choice) → j ≡ i → slice_get clauses j ≡ Some c → vs ≡ values → lits ≡ c.literals.items → IsChosen vs lits choice → IsChosenAt clauses i values choice
chosen_at clauses i j c values vs lits choice ei at ev el h =
    let P : List Value → Type 0 = λ x. IsChosen x lits choice in
    let Q : List Literal → Type 0 = λ x. IsChosen values x choice in
    (c, ap (slice_get clauses) (sym ei) ∙ at, subst Q el (subst P ev h))

pub false_all : (values : List Value) (n : ℕ) (c : List Literal) → IsPlacedBelow values n → All (BecameFalse values) c → IsFalse values n c
false_all values n c below h = All-weaker (BecameFalse values) (FalseBefore values n) (λ m f. (f.0, below m f.0 f.1, f.1)) c h

pub leaves_all : (values : List Value) (n : ℕ) (c : List Literal) (l : Literal) → All (λ m. m ≡ l) c → LeavesOnly values n c l
leaves_all values n c l h = All-weaker (λ m. m ≡ l) (λ m. (m ≡ l) ⊎ FalseBefore values n m) (λ m e. inl e) c h

pub leaves_others : (values : List Value) (n : ℕ) (c : List Literal) (l : Literal) → IsPlacedBelow values n → All (λ m. (m ≡ l) ⊎ BecameFalse values m) c → LeavesOnly values n c l
leaves_others values n c l below h =
    All-weaker (λ m. (m ≡ l) ⊎ BecameFalse values m) (λ m. (m ≡ l) ⊎ FalseBefore values n m) (λ m x. elim x [ inl e ↦ inl e | inr f ↦ inr (f.0, below m f.0 f.1, f.1) ]) c h

-- the first clause that is not watched
pub entered_alone : (clauses : List Clause) (values values' : List Value) (trail trail' : List Entry) (q q' : Queue) (l : Literal) → IsSearch clauses values trail → IsExtended clauses values trail values' trail' → IsChosenAt clauses (length q.watches.items) values (Alone l) → TrueBefore values' (length trail') l →
    q'.watches.items ≡ q.watches.items ++ None ∷ [] → q'.rows ≡ q.rows → q'.head ≡ q.head → IsQueued clauses values trail q → IsQueued clauses values' trail' q'
entered_alone clauses values values' trail trail' q q' l s x (c, at, (in', free, all)) t ew er eh k =
    let R : Rows → Type 0 = λ y. IsListed q'.watches.items y in
    queued_entered clauses values values' trail trail' q q' c None s.sound x at ew eh (subst R (sym (ap (λ v. v.items) er)) (listed_none q.watches.items q'.watches.items q.rows.items ew k.listed))
    (l, in', t) (λ d dec. (l, in', s.closed d dec.0 dec.1 dec.2 (length q.watches.items) c at l (leaves_all values d c.literals.items l all))) k

pub entered_forced : (clauses : List Clause) (values values' : List Value) (trail trail' : List Entry) (q q' : Queue) (w : Watch) → IsSearch clauses values trail → IsExtended clauses values trail values' trail' → IsChosenAt clauses (length q.watches.items) values (Forced w) → TrueBefore values' (length trail') w.first →
    q'.watches.items ≡ q.watches.items ++ Some w ∷ [] → IsEntered q.rows.items q'.rows.items (length q.watches.items) w → q'.head ≡ q.head → IsQueued clauses values trail q → IsQueued clauses values' trail' q'
entered_forced clauses values values' trail trail' q q' w s x (c, at, (pair, free, (p, is, leaves))) t ew er eh k =
    queued_entered clauses values values' trail trail' q q' c (Some w) s.sound x at ew eh (listed_pair q.watches.items q'.watches.items q.rows.items q'.rows.items w ew er k.listed)
    (pair, guarded_true values' q.head (length trail') w w.second w.first (inr (refl, refl)) t)
    (λ d dec. (pair, guarded_forced values d p c.literals.items w free is leaves (s.closed d dec.0 dec.1 dec.2 (length q.watches.items) c at))) k

pub entered_free : (clauses : List Clause) (values : List Value) (trail : List Entry) (q q' : Queue) (w : Watch) → IsSearch clauses values trail → IsChosenAt clauses (length q.watches.items) values (Free w) →
    q'.watches.items ≡ q.watches.items ++ Some w ∷ [] → IsEntered q.rows.items q'.rows.items (length q.watches.items) w → q'.head ≡ q.head → IsQueued clauses values trail q → IsQueued clauses values trail q'
entered_free clauses values trail q q' w s (c, at, (pair, a, b)) ew er eh k =
    queued_entered clauses values values trail trail q q' c (Some w) s.sound (extended_itself clauses values trail s.sound) at ew eh (listed_pair q.watches.items q'.watches.items q.rows.items q'.rows.items w ew er k.listed)
    (pair, guarded_free values q.head (length trail) w a b) (λ d dec. (pair, guarded_free values d d w a b)) k

pub left_alone : (clauses : List Clause) (values : List Value) (n i j : ℕ) (l : Literal) → j ≡ i → IsChosenAt clauses i values (Alone l) → IsLeft clauses values n j l
left_alone clauses values n i j l e (c, at, (in', free, all)) = (c, ap (slice_get clauses) e ∙ at, in', leaves_all values n c.literals.items l all)

pub left_forced : (clauses : List Clause) (values : List Value) (trail : List Entry) (i j : ℕ) (w : Watch) → IsTrail clauses values trail → j ≡ i → IsChosenAt clauses i values (Forced w) → IsLeft clauses values (length trail) j w.first
left_forced clauses values trail i j w t e (c, at, (pair, free, (p, is, leaves))) =
    let lt = placed_below clauses values trail t w.second p is in
    (c, ap (slice_get clauses) e ∙ at, pair.first, only_more values (p + 1) (length trail) c.literals.items w.first (omega arith) leaves)

pub chosen_conflict : (clauses : List Clause) (values : List Value) (trail : List Entry) (i : ℕ) → IsTrail clauses values trail → IsChosenAt clauses i values Nothing → IsConflict clauses values (length trail) i
chosen_conflict clauses values trail i t (c, at, all) = (c, at, false_all values (length trail) c.literals.items (placed_below clauses values trail t) all)

pub conflict_at : (clauses : List Clause) (values : List Value) (n i j : ℕ) → j ≡ i → IsConflict clauses values n j → IsConflict clauses values n i
conflict_at clauses values n i j e h = let P : ℕ → Type 0 = λ x. IsConflict clauses values n x in subst P e h

pub conflict_when : (clauses : List Clause) (values : List Value) (n i j : ℕ) (b : Bool) → j ≡ i → b ≡ false → (b ≡ false → IsConflict clauses values n j) → IsConflict clauses values n i
conflict_when clauses values n i j b e isnt h = conflict_at clauses values n i j e (h isnt)
