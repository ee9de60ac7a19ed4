use Rattle.vx_examples.proofs.Endings.{assumes_true_ends, assumes_false_stops, assumes_false_never_fails, assumes_unread_fails}
use Rattle.vx_examples.proofs.runs.assumes.Goals as goal

pub returns-clause-true_ends : goal.returns-clause-true_ends
returns-clause-true_ends c = assumes_true_ends

pub returns-clause-false_stops : goal.returns-clause-false_stops
returns-clause-false_stops c = assumes_false_stops

pub returns-clause-false_never_fails : goal.returns-clause-false_never_fails
returns-clause-false_never_fails c = assumes_false_never_fails

pub returns-clause-unread_fails : goal.returns-clause-unread_fails
returns-clause-unread_fails c = assumes_unread_fails
