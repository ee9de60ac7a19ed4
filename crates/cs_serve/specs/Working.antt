-- How far a solver is while it works.
use Rattle.std.specs.Prelude.{◌≡◌, ◌⊎◌, ℕ, ◌≤◌, Bool, true, false, List, [], ◌++◌, length, Option, Some, IsSomeAnd, Result, Ok, Err}
use Rattle.vx_ends.specs.Causes.{Rose}
use Rattle.vx_ends.specs.Dialogue.{sent, got}
use Rattle.vx_ends.specs.declared.piece.Piece.{Piece}
use Rattle.cs_session.specs.Views.{State, state}
use Rattle.cs_serve.specs.declared.ending.Ending.{Ending}
use Rattle.cs_serve.specs.declared.ending.Ending.TheVariants as endings
use Rattle.cs_serve.specs.declared.solver.Solver.{Solver}
use Rattle.cs_serve.specs.Serving.{Serves, IsDue, IsInTurn}

-- What is known of the ends before it begins: the bytes that were taken, and whether their dialogue is told, with no piece yet.
pub record Before : Type 0 where
  pub taken : List ℕ
  pub told : Bool

-- the dialogue of what it was given and of what it has put
pub record IsTalk (all put : List ℕ) (pieces : List Piece) : Type 0 where
  pub got_is : got pieces ≡ all
  pub sent_is : sent pieces ≡ put
  pub in_turn : IsInTurn pieces

-- It was given so many bytes; all its answers but what is due stand behind what the sink had taken before; and these bytes are left.
pub record IsAt (before : Before) (given taken : Option (List ℕ)) (talk : Option (List Piece)) (due : List ℕ) (total : ℕ) (left : List ℕ) (s : State) (over : Bool) : Type 0 where
  pub all : List ℕ
  pub text : List ℕ
  pub put : List ℕ
  pub is_given : given ≡ Some all
  pub is_taken : taken ≡ Some (before.taken ++ put)
  pub is_talk : before.told ≡ true → IsSomeAnd talk (IsTalk all put)
  pub is_due : put ++ due ≡ text
  pub counted : length all ≡ total
  pub serves : Serves all text put left s over

-- all answers are put, and it goes on
abbrev pub Stands : Before → Option (List ℕ) → Option (List ℕ) → Option (List Piece) → Solver → Type 0
Stands before given taken talk s = IsAt before given taken talk [] s.total s.left.items (state s.session) false

-- It stops, these answers aren't put yet, and nothing is put behind the answers.
pub record Stops (e : Ending) (before : Before) (given taken : Option (List ℕ)) (talk : Option (List Piece)) (due : List ℕ) (at_end : Bool) : Type 0 where
  pub total : ℕ
  pub left : List ℕ
  pub state : State
  pub over : Bool
  pub at : IsAt before given taken talk due total left state over
  pub ends : IsDue e at.all left over at_end

-- It stops, and all answers are put unless the sink failed.
pub record HasStopped (e : Ending) (before : Before) (given taken : Option (List ℕ)) (talk : Option (List Piece)) (at_end : Bool) : Type 0 where
  pub due : List ℕ
  pub stops : Stops e before given taken talk due at_end
  pub all_put : (due ≡ []) ⊎ (e ≡ endings.SinkFailed)

-- the count hasn't fallen, and it ended by this fault only where the count rose
pub record IsCaused (failed e : Ending) (before now : ℕ) : Type 0 where
  pub later : before ≤ now
  pub rose : e ≡ failed → Rose before now

-- the count is as before, unless it ended by this fault
abbrev pub IsStill : (failed e : Ending) (before now : ℕ) → Type 0
IsStill failed e before now = (e ≡ failed) ⊎ (now ≡ before)

abbrev pub IsStillBut : {T : Type 0} (failed : Ending) (before now : ℕ) → Result T Ending → Type 0
IsStillBut failed before now (Ok _) = now ≡ before
IsStillBut failed before now (Err e) = IsStill failed e before now

-- where the dialogue is told, the answers stand in turn
abbrev pub IsToldInTurn : Before → Option (List Piece) → Type 0
IsToldInTurn before talk = before.told ≡ true → IsSomeAnd talk IsInTurn
