-- What the record of a link tells: the checks that its dialogue has had answered.
use Rattle.std.specs.Prelude.{◌≡◌, ⊤, ℕ, ◌≤◌, Bool, true, false, List, [], ◌∷◌, ◌++◌, length}
use Rattle.vx_ends.specs.declared.piece.Piece.{Piece}
use Rattle.vx_ends.specs.Dialogue.{sent, got}
use Rattle.vx_sexp.specs.declared.token.Token.{Token}
use Rattle.vx_smt_meaning.specs.Commands.{Command, CheckSat, empty_level}
use Rattle.vx_smt_meaning.specs.Dialogues.{ArePlain, Answers, Check, checks_told}
use Rattle.vx_smt_text.specs.Text.{commands_text}
use Rattle.vx_dialogue.specs.declared.talk.Talk.{Talk}
use Rattle.vx_dialogue.specs.declared.talk.Talk.TheVariants as talk
use Rattle.vx_dialogue.specs.Items.{ShortItems}
use Rattle.vx_dialogue.specs.Pace.{KeepsPace}
use Rattle.vx_dialogue.specs.Stops.{Explains}

-- Where no call failed, all that was sent is answered, and what is behind it are at most 256 commands of which none is a check.
abbrev pub MayWait : (failed : Bool) → (behind : List Command) → (begun : List ℕ) → Type 0
MayWait false behind begun = (begun ≡ []) × ArePlain behind × (length behind ≤ 256)
MayWait true behind begun = ⊤

-- No further check has its answer: among these commands there is none that was sent whole, and that the next items answer, with all that stand before it.
abbrev pub HoldsNoAnswer : (behind : List Command) → (begun got_later : List ℕ) → Type 0
HoldsNoAnswer behind begun got_later = (front more : List Command) (begun_later : List ℕ) (items : List (List Token)) (rest : List ℕ) → behind ≡ front ++ CheckSat ∷ more
    → begun ≡ commands_text (front ++ CheckSat ∷ []) ++ begun_later → ShortItems got_later items rest → Answers (front ++ CheckSat ∷ []) items → ⊥

-- What was sent is a beginning of the text of a script. The items got begin with a lawful reply to each of its first commands, all of whose text was sent;
-- among these commands are the checks. So many commands as are sent and not answered yet were never more than 256. No further check has its answer, unless one was missed.
pub record TellsOf (failed missed : Bool) (script : List Command) (pieces : List Piece) (checks : List Check) : Type 0 where
  pub answered : List Command
  pub behind : List Command
  pub begun : List ℕ
  pub unsent : List ℕ
  pub items : List (List Token)
  pub got_later : List ℕ
  pub all : script ≡ answered ++ behind
  pub sent_is : sent pieces ≡ commands_text answered ++ begun
  pub begun_is : begun ++ unsent ≡ commands_text behind
  pub got_is : ShortItems (got pieces) items got_later
  pub lawful : Answers answered items
  pub checks_are : checks ≡ checks_told (empty_level ∷ []) answered items
  pub waits : MayWait failed behind begun
  pub held : missed ≡ false → HoldsNoAnswer behind begun got_later
  pub pace : KeepsPace script pieces

-- so that no answer was missed
abbrev pub Tells : (failed : Bool) → List Command → List Piece → List Check → Type 0
Tells failed script pieces checks = TellsOf failed false script pieces checks

-- An answer may be missed: where memory ran out, one that was got may be lost; behind an earlier failure nothing is read.
abbrev pub may_miss : Talk → Bool
may_miss talk.Want = true
may_miss talk.Closed = true
may_miss talk.Pipe = false
may_miss (talk.Garbled kept) = false
may_miss (talk.Refused kept) = false

-- What is told of a link where a call gave no reply: why, and the checks that have had theirs. What was sent is a beginning of the text of this script.
pub record Breaks (talk : Talk) (script : List Command) (pieces : List Piece) (checks : List Check) : Type 0 where
  pub explained : Explains talk pieces
  pub told : TellsOf true (may_miss talk) script pieces checks
