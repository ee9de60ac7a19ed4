-- What a dialogue gathers doesn't hang on its levels.
use Rattle.std.proofs.Common.{◌≡◌, List, ◌∙◌}
use Rattle.vx_ends.specs.declared.piece.Piece.{Piece}
use Rattle.vx_smt_meaning.specs.Commands.{Command}
use Rattle.vx_smt_meaning.specs.Dialogues.{Check}
use Rattle.vx_dialogue.specs.declared.dialogue.Dialogue.{Dialogue}
use Rattle.vx_dialogue.specs.Dialogue.{Gathers}

pub gathers_same : {L : Type 0} (dialogue : L → List Piece) (d e : Dialogue L) → e.link ≡ d.link → e.batch.items ≡ d.batch.items → e.count ≡ d.count → e.unread.items ≡ d.unread.items
    → (commands : List Command) (checks : List Check) → Gathers dialogue d commands checks → Gathers dialogue e commands checks
gathers_same dialogue d e link batch count unread commands checks g = record {
  answered = g.answered;
  gathered = g.gathered;
  items = g.items;
  all = g.all;
  sent_is = rw link g.sent_is;
  batch_is = batch ∙ g.batch_is;
  count_is = count ∙ g.count_is;
  few = g.few;
  pace = rw link g.pace;
  small = g.small;
  plain = g.plain;
  got_is = rw (link, unread) g.got_is;
  lawful = g.lawful;
  checks_are = g.checks_are;
}
