use Rattle.vx_real.proofs.Worked.{counts_stop, counts_possible, counts_fail}
use Rattle.vx_real.proofs.a_loop_fails_behind.Goals as goal

pub returns-clause-stops : goal.returns-clause-stops
returns-clause-stops c = counts_stop

pub returns-clause-possible : goal.returns-clause-possible
returns-clause-possible c = counts_possible

pub returns-clause-fails : goal.returns-clause-fails
returns-clause-fails c = counts_fail
