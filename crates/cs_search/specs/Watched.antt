-- Two literals of a clause that are watched.
use Rattle.std.specs.Prelude.{◌≡◌, ℕ, ◌⊎◌, List, Option, Some, None, slice_get}
use Rattle.std.specs.List.{Contains}
use Rattle.cs_certificate.specs.declared.literal.Literal.{Literal}
use Rattle.cs_certificate.specs.declared.literal.Clause.{Clause}
use Rattle.cs_search.specs.declared.Value.{Value}
use Rattle.cs_search.specs.declared.queue.Watch.{Watch}
use Rattle.cs_search.specs.Assignment.{FalseBefore, TrueBefore}

-- two different literals of the clause
pub record IsPair (c : List Literal) (w : Watch) : Type 0 where
  pub first : Contains c w.first
  pub second : Contains c w.second
  pub apart : ¬ (w.first ≡ w.second)

-- where one of the two is false before h, the other one is true before n
pub record IsGuarded (values : List Value) (h n : ℕ) (w : Watch) : Type 0 where
  pub first : FalseBefore values h w.first → TrueBefore values n w.second
  pub second : FalseBefore values h w.second → TrueBefore values n w.first

-- a clause with no watched literals has one that is true
abbrev pub IsWatched : List Value → ℕ → ℕ → List Literal → Option Watch → Type 0
IsWatched values h n c None = (l : Literal) × Contains c l × TrueBefore values n l
IsWatched values h n c (Some w) = IsPair c w × IsGuarded values h n w

abbrev pub Watches : Type 0
Watches = List (Option Watch)

abbrev pub AreWatched : List Clause → Watches → List Value → ℕ → ℕ → Type 0
AreWatched clauses watches values h n = (i : ℕ) (c : Clause) (o : Option Watch) → slice_get clauses i ≡ Some c → slice_get watches i ≡ Some o → IsWatched values h n c.literals.items o

-- the other one of the two, where l is one of them
abbrev pub IsOther : Watch → Literal → Option Literal → Type 0
IsOther w l None = ¬ (w.first ≡ l) × ¬ (w.second ≡ l)
IsOther w l (Some m) = ((w.first ≡ l) × (w.second ≡ m)) ⊎ ((w.second ≡ l) × (w.first ≡ m))

-- the clause of this number watches l, and m beside it
abbrev pub IsBeside : Watches → ℕ → Literal → Literal → Type 0
IsBeside watches i l m = (w : Watch) × (slice_get watches i ≡ Some (Some w)) × IsOther w l (Some m)

-- the clause of this number does not watch l
abbrev pub IsElsewhere : Watches → ℕ → Literal → Type 0
IsElsewhere watches i l = (w : Watch) → slice_get watches i ≡ Some (Some w) → IsOther w l None

abbrev pub IsFoundBeside : Watches → ℕ → Literal → Option Literal → Type 0
IsFoundBeside watches i l None = IsElsewhere watches i l
IsFoundBeside watches i l (Some m) = IsBeside watches i l m
