-- What the ends in memory show of themselves.
use Rattle.std.specs.Prelude.{ℕ, ◌+◌, ◌-◌, ◌%◌, ◌^◌, ◌<◌, ◌⊎◌, min, nat_lt, if◌then◌else◌, Contains, Bool, List, [], ◌∷◌, ◌++◌, take, drop, length, Option}
use Rattle.vx_sexp.specs.Finished.{finished}
use Rattle.vx_ends.specs.Dialogue.{sent, got}
use Rattle.vx_ends.specs.declared.memory.NamedText.{NamedText}
use Rattle.vx_ends.specs.declared.piece.Piece.{Piece}
use Rattle.vx_ends.specs.declared.piece.Start.{Start}
use Rattle.vx_ends.specs.declared.piece.Ending.{Ending}
use Rattle.vx_ends.specs.declared.script.Script.{Script}

-- files: the texts by their names, the names that were asked, the count of faults
pub record TextTable : Type 0 where
  pub texts : List NamedText
  pub asked : List (Option (List ℕ))
  pub faults : ℕ

-- a source: the bytes given and those to come, whether the end was met, the calls so far, those that fail, the faults
pub record Stream : Type 0 where
  pub given : List ℕ
  pub left : List ℕ
  pub at_end : Bool
  pub calls : ℕ
  pub fails : List ℕ
  pub faults : ℕ

-- a sink: how many bytes it holds at most, the bytes taken, the count of faults
pub record Store : Type 0 where
  pub room : ℕ
  pub taken : List ℕ
  pub faults : ℕ

-- both ends of a stream: the bytes to come, the most that is given at once, whether the end was met, the pieces, the puts that failed
pub record Talk : Type 0 where
  pub left : List ℕ
  pub most : ℕ
  pub at_end : Bool
  pub dialogue : List Piece
  pub faults : ℕ

-- a link that answers by a script: the script, the calls so far, the dialogue, the count of faults
pub record ScriptTalk : Type 0 where
  pub script : Script
  pub calls : ℕ
  pub dialogue : List Piece
  pub faults : ℕ

-- a spawner of such links: the scripts to come, the starts that fail, and its records
pub record ScriptStarts : Type 0 where
  pub scripts : List Script
  pub fails : List ℕ
  pub starts : List Start
  pub lanes_out : List ℕ
  pub ended : List Ending
  pub faults : ℕ

-- turns that go round: the place behind the one picked last, and how many waited then
pub record Round : Type 0 where
  pub at : ℕ
  pub waited : ℕ

-- the place of the first that waits behind the one picked last; where fewer wait, that one has ended, and the next one has its place
abbrev pub turn_behind : Round → ℕ → ℕ
turn_behind round waiting = (if nat_lt waiting round.waited then round.at - 1 else round.at) % waiting

-- texts, one behind the other
abbrev pub joined : List (List ℕ) → List ℕ
joined [] = []
joined (text ∷ texts) = text ++ joined texts

-- the replies to the finished commands that were sent
abbrev pub answers : Script → List Piece → List ℕ
answers script pieces = joined (take (finished (sent pieces)) script.replies.items)

-- of these, the bytes that were not got yet
abbrev pub ready : Script → List Piece → List ℕ
ready script pieces = drop (length (got pieces)) (answers script pieces)

-- one call more, up to the end of a count's type
abbrev pub one_more : ℕ → ℕ
one_more calls = min (calls + 1) (2 ^ 64 - 1)

-- the next call fails: an earlier one did, or its number is listed
abbrev pub Fails : ScriptTalk → Type 0
Fails talk = (0 < talk.faults) ⊎ Contains talk.script.fails.items (one_more talk.calls)
