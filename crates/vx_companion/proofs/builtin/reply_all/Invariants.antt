use Rattle.std.proofs.Common.{◌++◌, ℕ, List, length}
use Rattle.cs_answer.specs.declared.answer.Cause.{Cause}
use Rattle.cs_session.specs.Answering.{Answering}
use Rattle.cs_session.specs.Views.{state}
use Rattle.vx_companion.specs.Companion.{KeepsUp}
use Rattle.vx_companion.proofs.builtin.reply_all.Given as goal

abbrev pub invariant-commands : goal.invariant-commands
invariant-commands l = record {
  answering : (all front : List ℕ) (before : List Cause) → Answering all (front ++ l.fn.replies.items) l.bytes (before ++ l.fn.causes.items) (state l.fn.session) → Answering all (front ++ l.replies.items) l.rest (before ++ l.causes.items) (state l.session);
  keeps_up : (all front : List ℕ) → KeepsUp all l.bytes (front ++ l.fn.replies.items) → KeepsUp all l.rest (front ++ l.replies.items);
}

abbrev pub decreases-commands : goal.decreases-commands
decreases-commands l = length l.rest
