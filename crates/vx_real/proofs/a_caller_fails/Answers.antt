use Rattle.vx_real.proofs.WorkedCalls.{calls_typed, hopes_stop, hopes_possible, hopes_fail}
use Rattle.vx_real.proofs.a_caller_fails.Goals as goal

pub returns-clause-typed : goal.returns-clause-typed
returns-clause-typed c = calls_typed

pub returns-clause-stops : goal.returns-clause-stops
returns-clause-stops c = hopes_stop

pub returns-clause-possible : goal.returns-clause-possible
returns-clause-possible c = hopes_possible

pub returns-clause-fails : goal.returns-clause-fails
returns-clause-fails c = hopes_fail
