use Rattle.std.proofs.Common.{ℕ, ◌≤◌, ◌-◌, false, List, length, drop, Option}
use Rattle.vx_sexp.specs.Pieces.{Reached}
use Rattle.vx_ends.specs.declared.piece.Piece.{Piece}
use Rattle.cs_session.specs.Views.{state}
use Rattle.cs_serve.specs.Working.{Before, IsAt}
use Rattle.cs_serve.proofs.answer.answer_all.Given as goal

abbrev pub invariant-commands : goal.invariant-commands
invariant-commands l = record {
  within : l.at ≤ length l.bytes;
  reached : Reached l.reading (drop l.at l.bytes);
  works : (before : Before) (given taken : Option (List ℕ)) (talk : Option (List Piece)) (total : ℕ) → IsAt before given taken talk l.fn.due.items total l.bytes (state l.fn.session) false
      → IsAt before given taken talk l.due.items total (drop l.at l.bytes) (state l.session) false;
}

abbrev pub decreases-commands : goal.decreases-commands
decreases-commands l = length l.bytes - l.at
