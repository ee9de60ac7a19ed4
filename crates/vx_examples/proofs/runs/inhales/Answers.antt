use Rattle.vx_examples.proofs.Endings.{inhales_added, inhales_too_much_stops, inhales_too_much_never_ends, inhales_false_stops, inhales_false_never_ends, inhales_true_ends, inhales_unread_fails}
use Rattle.vx_examples.proofs.runs.inhales.Goals as goal

pub returns-clause-added : goal.returns-clause-added
returns-clause-added c = inhales_added

pub returns-clause-too_much_stops : goal.returns-clause-too_much_stops
returns-clause-too_much_stops c = inhales_too_much_stops

pub returns-clause-too_much_never_ends : goal.returns-clause-too_much_never_ends
returns-clause-too_much_never_ends c = inhales_too_much_never_ends

pub returns-clause-false_stops : goal.returns-clause-false_stops
returns-clause-false_stops c = inhales_false_stops

pub returns-clause-false_never_ends : goal.returns-clause-false_never_ends
returns-clause-false_never_ends c = inhales_false_never_ends

pub returns-clause-true_ends : goal.returns-clause-true_ends
returns-clause-true_ends c = inhales_true_ends

pub returns-clause-unread_fails : goal.returns-clause-unread_fails
returns-clause-unread_fails c = inhales_unread_fails
