use Rattle.vx_examples.proofs.Reached.{argument_unread, fails_not, fails_to, held_fine, number_fine, number_unread, takes, takes_not}
use Rattle.vx_examples.proofs.outcomes.taken_by_fuel.Goals as goal

pub returns-clause-takes : goal.returns-clause-takes
returns-clause-takes c = takes

pub returns-clause-takes_not : goal.returns-clause-takes_not
returns-clause-takes_not c = takes_not

pub returns-clause-fails : goal.returns-clause-fails
returns-clause-fails c = fails_to

pub returns-clause-fails_not : goal.returns-clause-fails_not
returns-clause-fails_not c = fails_not

pub returns-clause-argument_unread : goal.returns-clause-argument_unread
returns-clause-argument_unread c = argument_unread

pub returns-clause-number_unread : goal.returns-clause-number_unread
returns-clause-number_unread c = number_unread

pub returns-clause-number : goal.returns-clause-number
returns-clause-number c = number_fine

pub returns-clause-held : goal.returns-clause-held
returns-clause-held c = held_fine
