-- How many commands wait for their replies, and that the numbers of what is sent fit their types.
use Rattle.std.specs.Prelude.{◌≡◌, ℕ, ◌≤◌, List, ◌++◌, length}
use Rattle.vx_ends.specs.declared.piece.Piece.{Piece}
use Rattle.vx_ends.specs.Dialogue.{sent, got}
use Rattle.vx_sexp.specs.declared.token.Token.{Token}
use Rattle.vx_terms.specs.Interpretations.{Each}
use Rattle.vx_smt_meaning.specs.Commands.{Command}
use Rattle.vx_smt_meaning.specs.Dialogues.{Answers}
use Rattle.vx_smt_text.specs.Text.{commands_text}
use Rattle.vx_smt_text.specs.Small.{IsSmallCommand}
use Rattle.vx_dialogue.specs.Items.{ShortItems}

-- What was sent begins the text of a script. The first of its commands have their replies; those behind them of which something is sent, at most 256, wait for theirs.
-- The numbers of both fit their types.
pub record FewWait (script : List Command) (pieces : List Piece) : Type 0 where
  pub answered : List Command
  pub waiting : List Command
  pub later : List Command
  pub begun : List ℕ
  pub unsent : List ℕ
  pub items : List (List Token)
  pub rest : List ℕ
  pub all : script ≡ (answered ++ waiting) ++ later
  pub sent_is : sent pieces ≡ commands_text answered ++ begun
  pub begun_is : begun ++ unsent ≡ commands_text waiting
  pub few : length waiting ≤ 256
  pub small : Each IsSmallCommand (answered ++ waiting)
  pub got_is : ShortItems (got pieces) items rest
  pub lawful : Answers answered items

-- So it was at every time of the dialogue.
abbrev pub KeepsPace : List Command → List Piece → Type 0
KeepsPace script pieces = (before after : List Piece) → pieces ≡ before ++ after → FewWait script before
