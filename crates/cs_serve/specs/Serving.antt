-- What a solver answers to a stream of commands, and how that ends.
use Rattle.std.specs.Prelude.{◌≡◌, ⊤, ◌⊎◌, ℕ, ◌≤◌, Bool, true, false, List, [], ◌∷◌, ◌++◌, length, drop, Option, Some}
use Rattle.vx_sexp.specs.Beginnings.{GoesOn, IsBeginning}
use Rattle.vx_sexp.specs.Tokens.{is_space}
use Rattle.vx_ends.specs.Dialogue.{sent, got}
use Rattle.vx_ends.specs.declared.piece.Piece.{Piece}
use Rattle.vx_ends.specs.declared.piece.Piece.TheVariants.{Got}
use Rattle.cs_session.specs.declared.reply.Reply.{Reply}
use Rattle.cs_session.specs.declared.reply.Reply.TheVariants.{Success, Unsupported, Failed, Sat, Unsat, Undecided, Proof, Closed}
use Rattle.cs_session.specs.Views.{State}
use Rattle.cs_session.specs.Texts.{reply_text}
use Rattle.cs_session.specs.Replies.{Replies}
use Rattle.cs_session.specs.Answering.{start, EndsAt}
use Rattle.cs_serve.specs.declared.ending.Ending.{Ending}
use Rattle.cs_serve.specs.declared.ending.Ending.TheVariants as endings
use Rattle.cs_serve.specs.Endings.{farewell}

-- the reply to `exit`
abbrev pub is_last : Reply → Bool
is_last Success = false
is_last Unsupported = false
is_last (Failed c) = false
is_last Sat = false
is_last Unsat = false
is_last Undecided = false
is_last (Proof line) = false
is_last Closed = true

-- the most bytes that are read
abbrev pub most : ℕ
most = 1073741824

-- the most bytes that are given at once
abbrev pub most_at_once : ℕ
most_at_once = 65536

-- How far a solver is: the bytes that it was given, the text that it has answered, what of that was put, the bytes that are left,
-- its session, and whether it was told to exit. Each answer is to the first s-expression of what was left then. More is given only
-- where no command is finished in what is left and all answers are put.
pub data Serves : List ℕ → List ℕ → List ℕ → List ℕ → State → Bool → Type 0 where
  begun : Serves [] [] [] [] start false
  given : {all text left : List ℕ} {s : State} (piece : List ℕ) →
      length piece ≤ most_at_once → IsBeginning left → Serves all text text left s false → Serves (all ++ piece) text text (left ++ piece) s false
  answered : {all text old left : List ℕ} {s u : State} (n : ℕ) (r : Reply) →
      Serves all text old left s false → EndsAt n left → Replies left s r u → Serves all (text ++ reply_text r) old (drop n left) u (is_last r)
  put : {all text old left : List ℕ} {s : State} {over : Bool} (new rest : List ℕ) →
      Serves all text old left s over → (old ++ new) ++ rest ≡ text → Serves all text (old ++ new) left s over

-- Why it ends, by what was read, what is left, whether it was told to exit, and whether the input is at its end. Where the
-- input failed or is too long, each command that was finished is answered.
abbrev pub IsDue : Ending → List ℕ → List ℕ → Bool → Bool → Type 0
IsDue endings.Exited all left over at_end = over ≡ true
IsDue endings.Exhausted all left over at_end = (over ≡ false) × (at_end ≡ true) × (is_space left ≡ true)
IsDue endings.BadToken all left over at_end = (over ≡ false) × (GoesOn left → ⊥)
IsDue endings.Unfinished all left over at_end = (over ≡ false) × (at_end ≡ true) × (is_space left ≡ false) × IsBeginning left
IsDue endings.SourceFailed all left over at_end = (over ≡ false) × IsBeginning left
IsDue endings.TooLong all left over at_end = (over ≡ false) × IsBeginning left × (length all ≡ most)
IsDue endings.SinkFailed all left over at_end = ⊤
IsDue endings.Want all left over at_end = ⊤

-- All answers are put, and the farewell behind them; where the sink failed, a beginning of the answers and nothing behind it, or all
-- answers and a beginning of a farewell that was due.
abbrev pub Puts : Ending → List ℕ → List ℕ → List ℕ → (Ending → Type 0) → Type 0
Puts endings.SinkFailed text answers last due = (last ≡ []) ⊎ ((answers ≡ text) × (e : Ending) × due e × (rest : List ℕ) × (last ++ rest ≡ farewell e))
Puts e text answers last due = (answers ≡ text) × (last ≡ farewell e)

-- How it has ended: what was read in all, the answers to it, what of them was put behind what the sink had taken before, what was put
-- behind them, and what is left.
pub record HasEnded (e : Ending) (before : List ℕ) (given taken : Option (List ℕ)) (at_end : Bool) : Type 0 where
  pub all : List ℕ
  pub text : List ℕ
  pub put : List ℕ
  pub last : List ℕ
  pub left : List ℕ
  pub state : State
  pub over : Bool
  pub is_given : given ≡ Some all
  pub is_taken : taken ≡ Some (before ++ put ++ last)
  pub serves : Serves all text put left state over
  pub ends : IsDue e all left over at_end
  pub puts : Puts e text put last (λ d. IsDue d all left over at_end)

-- No command is finished in what is left of some bytes, and these are the answers to those before it.
abbrev pub IsAnswered : List ℕ → List ℕ → Type 0
IsAnswered all text = (left : List ℕ) × (s : State) × Serves all text text left s false × IsBeginning left

-- Each time a piece was got, what was sent before is the answers to all commands that were finished in what was got before.
abbrev pub IsInTurn : List Piece → Type 0
IsInTurn pieces = (front : List Piece) (piece : List ℕ) (rest : List Piece) → pieces ≡ front ++ Got piece ∷ rest → IsAnswered (got front) (sent front)
