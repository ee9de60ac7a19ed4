use Rattle.vx_examples.proofs.Compounds.{iterations_end, iterations_stop, iterations_unkept_fails, iterations_wrong_fails, iterations_wrong_never_ends, iterations_unread_fails}
use Rattle.vx_examples.proofs.Kept.{iterations_never_fail}
use Rattle.vx_examples.proofs.compound.iterations.Goals as goal

pub returns-clause-end : goal.returns-clause-end
returns-clause-end c = iterations_end

pub returns-clause-stop : goal.returns-clause-stop
returns-clause-stop c = iterations_stop

pub returns-clause-never_fail : goal.returns-clause-never_fail
returns-clause-never_fail c = iterations_never_fail

pub returns-clause-unkept_fails : goal.returns-clause-unkept_fails
returns-clause-unkept_fails c = iterations_unkept_fails

pub returns-clause-wrong_fails : goal.returns-clause-wrong_fails
returns-clause-wrong_fails c = iterations_wrong_fails

pub returns-clause-wrong_never_ends : goal.returns-clause-wrong_never_ends
returns-clause-wrong_never_ends c = iterations_wrong_never_ends

pub returns-clause-unread_fails : goal.returns-clause-unread_fails
returns-clause-unread_fails c = iterations_unread_fails
