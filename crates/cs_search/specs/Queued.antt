-- The clauses by their watched literals, and how far the trail was walked.
use Rattle.std.specs.Prelude.{◌≡◌, ℕ, ◌<◌, ◌≤◌, ◌⊎◌, List, [], Option, Some, length, slice_get}
use Rattle.cs_certificate.specs.declared.literal.Literal.{Literal}
use Rattle.cs_certificate.specs.declared.literal.Clause.{Clause}
use Rattle.cs_search.specs.declared.Value.{Value}
use Rattle.cs_search.specs.declared.Entry.{Entry}
use Rattle.cs_search.specs.declared.queue.Watch.{Watch}
use Rattle.cs_search.specs.declared.queue.Queue.{Queue}
use Rattle.cs_search.specs.declared.propagate.Seen.{Seen}
use Rattle.cs_search.specs.declared.propagate.Seen.TheVariants.{Kept, Left, Conflict}
use Rattle.cs_search.specs.Assignment.{TrueBefore, LeavesOnly}
use Rattle.cs_search.specs.Extended.{IsConflict}
use Rattle.cs_search.specs.Settled.{IsDecision}
use Rattle.cs_search.specs.Rows.{Rows, row, slot, Has, IsAhead}
use Rattle.cs_search.specs.Watched.{Watches, IsWatched, AreWatched, IsElsewhere}

-- what the clause forces before h is true before n
abbrev pub IsClosedTo : List Value → ℕ → ℕ → List Literal → Type 0
IsClosedTo values h n c = (u : Literal) → LeavesOnly values h c u → TrueBefore values n u

-- the clause of this number stands in the rows of both, and no other number is new
pub record IsEntered (old new : Rows) (number : ℕ) (w : Watch) : Type 0 where
  pub kept : (s i : ℕ) → Has (row old s) i → Has (row new s) i
  pub only : (s i : ℕ) → Has (row new s) i → (i ≡ number) ⊎ Has (row old s) i
  pub first : Has (row new (slot w.first)) number
  pub second : Has (row new (slot w.second)) number

-- each clause stands in the rows of the literals that it watches
pub record IsListed (watches : Watches) (rows : Rows) : Type 0 where
  pub known : (s i : ℕ) → Has (row rows s) i → i < length watches
  pub first : (i : ℕ) (w : Watch) → slice_get watches i ≡ Some (Some w) → Has (row rows (slot w.first)) i
  pub second : (i : ℕ) (w : Watch) → slice_get watches i ≡ Some (Some w) → Has (row rows (slot w.second)) i

-- what holds of the watched literals by the entries that were walked, and at each decision by those before it
pub record IsQueued (clauses : List Clause) (values : List Value) (trail : List Entry) (q : Queue) : Type 0 where
  pub listed : IsListed q.watches.items q.rows.items
  pub count : length q.watches.items ≤ length clauses
  pub now : AreWatched clauses q.watches.items values q.head (length trail)
  pub before : (d : ℕ) → IsDecision trail d → AreWatched clauses q.watches.items values d d
  pub below : (d : ℕ) → IsDecision trail d → d ≤ q.head
  pub within : q.head ≤ length trail

-- the clause's watched literals are as they have to be once the entries before h were walked
abbrev pub IsHeld : List Clause → Watches → List Value → ℕ → ℕ → ℕ → Type 0
IsHeld clauses watches values h n i = (c : Clause) (o : Option Watch) → slice_get clauses i ≡ Some c → slice_get watches i ≡ Some o → IsWatched values h n c.literals.items o

-- those that are not held yet stand in the row, at k or behind
abbrev pub AreHeldBut : List Clause → Watches → List Value → ℕ → ℕ → List ℕ → ℕ → Type 0
AreHeldBut clauses watches values h n xs k = (i : ℕ) (c : Clause) (o : Option Watch) → slice_get clauses i ≡ Some c → slice_get watches i ≡ Some o → IsWatched values h n c.literals.items o ⊎ IsAhead xs k i

-- what a visit changes: one clause's watched literals, and no number of the row s
pub record IsVisit (old new : Queue) (number s : ℕ) : Type 0 where
  pub head : new.head ≡ old.head
  pub row : row new.rows.items s ≡ row old.rows.items s
  pub count : length new.watches.items ≡ length old.watches.items
  pub others : (i : ℕ) → ¬ (i ≡ number) → slice_get new.watches.items i ≡ slice_get old.watches.items i

abbrev pub IsSeen : List Clause → Watches → List Value → ℕ → ℕ → ℕ → Literal → Seen → Type 0
IsSeen clauses watches values h n i away Kept = IsHeld clauses watches values h n i
IsSeen clauses watches values h n i away Left = IsHeld clauses watches values h n i × IsElsewhere watches i away
IsSeen clauses watches values h n i away Conflict = IsConflict clauses values n i

-- the head is at the latest decision up to the cut, or nothing is watched any more
abbrev pub IsRewound : List Entry → ℕ → Queue → Queue → Type 0
IsRewound trail cut old new =
    ((new.watches ≡ old.watches) × (new.rows ≡ old.rows) × IsDecision trail new.head × (new.head ≤ cut) × ((d : ℕ) → IsDecision trail d → d < cut → d ≤ new.head))
    ⊎ ((new.watches.items ≡ []) × (new.rows.items ≡ []) × (new.head ≡ cut))
