-- What a conflict teaches.
use Rattle.std.specs.Prelude.{◌≡◌, ℕ, ◌<◌, ◌⊎◌, Bool, true, false, ◌&&◌, nat_lt, nat_le, cond, zero, suc, List, Option, Some, None, length, slice_get, reverse}
use Rattle.std.specs.List.{Contains, filter}
use Rattle.cs_certificate.specs.declared.literal.Literal.{Literal}
use Rattle.cs_search.specs.declared.Value.{Value}
use Rattle.cs_search.specs.declared.Entry.{Entry}
use Rattle.cs_search.specs.declared.Status.{Status}
use Rattle.cs_search.specs.declared.Status.TheVariants.{Unassigned, True, False}
use Rattle.cs_certificate.specs.declared.literal.Clause.{Clause}
use Rattle.cs_search.specs.declared.assignment.Assignment.{Assignment}
use Rattle.cs_search.specs.declared.analyse.Analysis.{Analysis}
use Rattle.cs_search.specs.Assignment.{status_of, LeavesOnly, IsFalse, BecameFalse}
use Rattle.cs_search.specs.Propagation.{IsDerived}

-- the literals of both, without the one left out
pub record IsAdded (old : List Literal) (from : List Literal) (except : Literal) (new : List Literal) : Type 0 where
  pub kept : (m : Literal) → Contains old m → Contains new m
  pub added : (m : Literal) → Contains from m → ¬ (m ≡ except) → Contains new m
  pub only : (m : Literal) → Contains new m → Contains old m ⊎ (Contains from m × ¬ (m ≡ except))

-- the literals of one list, and those of the other that are false
pub record IsJoined (values : List Value) (old : List Literal) (from : List Literal) (new : List Literal) : Type 0 where
  pub kept : (m : Literal) → Contains old m → Contains new m
  pub added : (m : Literal) → Contains from m → BecameFalse values m → Contains new m
  pub only : (m : Literal) → Contains new m → Contains old m ⊎ (Contains from m × BecameFalse values m)

abbrev pub is_false_before : ℕ → Status → Bool
is_false_before k Unassigned = false
is_false_before k (True p) = false
is_false_before k (False p) = nat_lt p k

-- those that became false before k
abbrev pub before : List Value → ℕ → List Literal → List Literal
before values k c = filter (λ l. is_false_before k (status_of values l)) c

abbrev pub is_mark : Option Bool → Bool
is_mark None = false
is_mark (Some b) = b

abbrev pub is_met : List Bool → Option Entry → Bool
is_met marks None = false
is_met marks (Some e) = is_mark (slice_get marks e.literal.number)

-- the entry at this place is one of the last level, and its atom is marked
abbrev pub is_late : List Entry → List Bool → ℕ → ℕ → Bool
is_late trail marks start j = nat_le start j && is_met marks (slice_get trail j)

-- how many of the first numbers pass the test
abbrev pub count_below : (ℕ → Bool) → ℕ → ℕ
count_below f zero = 0
count_below f (suc k) = cond (f k) (suc (count_below f k)) (count_below f k)

-- the marks are of the atoms of what was met, all of it false, and those of the last level before k are counted
pub record IsMet (made : Assignment) (start k : ℕ) (a : Analysis) : Type 0 where
  pub width : length a.marks.items ≡ length made.values.items
  pub fell : (m : Literal) → Contains a.met.items m → BecameFalse made.values.items m
  pub marked : (m : Literal) → Contains a.met.items m → slice_get a.marks.items m.number ≡ Some true
  pub only : (m : Literal) → BecameFalse made.values.items m → slice_get a.marks.items m.number ≡ Some true → Contains a.met.items m
  pub counted : a.late ≡ count_below (is_late made.trail.items a.marks.items start) k

-- a clause that is false before k, derived by the hints from last to first, and not false before start
pub record IsResolved (clauses : List Clause) (values : List Value) (start k : ℕ) (literals : List Literal) (hints : List ℕ) : Type 0 where
  pub false : IsFalse values k literals
  pub derived : IsDerived clauses literals (reverse hints)
  pub later : ¬ (IsFalse values start literals)

-- a clause that before the decision at start forces one literal
pub record IsLearned (clauses : List Clause) (values : List Value) (start k : ℕ) (literals : List Literal) (hints : List ℕ) (forced : Literal) : Type 0 where
  pub false : IsFalse values k literals
  pub derived : IsDerived clauses literals (reverse hints)
  pub contained : Contains literals forced
  pub leaves : LeavesOnly values start literals forced
  pub later : ¬ (IsFalse values start literals)

-- the entry at start is a decision, and none later is
pub record IsLastDecision (trail : List Entry) (start : ℕ) : Type 0 where
  pub decision : (e : Entry) × (slice_get trail start ≡ Some e) × (e.reason ≡ None)
  pub last : (j : ℕ) (e : Entry) → start < j → slice_get trail j ≡ Some e → (r : ℕ) × (e.reason ≡ Some r)

-- a clause that is false before k, derived by the hints from last to first
pub record IsReduced (clauses : List Clause) (values : List Value) (k : ℕ) (literals : List Literal) (hints : List ℕ) : Type 0 where
  pub false : IsFalse values k literals
  pub derived : IsDerived clauses literals (reverse hints)

-- what was met and is false before k is such a clause
pub record IsWalked (clauses : List Clause) (made : Assignment) (start k : ℕ) (a : Analysis) : Type 0 where
  pub met : IsMet made start k a
  pub resolved : IsResolved clauses made.values.items start k (before made.values.items k a.met.items) a.hints.items

pub record IsUnwound (clauses : List Clause) (made : Assignment) (k : ℕ) (a : Analysis) : Type 0 where
  pub met : IsMet made 0 k a
  pub reduced : IsReduced clauses made.values.items k (before made.values.items k a.met.items) a.hints.items

-- what was met forces one literal
abbrev pub IsForcing : List Clause → Assignment → ℕ → ℕ → Analysis → Literal → Type 0
IsForcing clauses made start k a forced = IsLearned clauses made.values.items start k (before made.values.items k a.met.items) a.hints.items forced
