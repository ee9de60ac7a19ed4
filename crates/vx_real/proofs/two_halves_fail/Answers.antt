use Rattle.vx_real.proofs.Worked.{halves_stop, halves_possible, halves_fail}
use Rattle.vx_real.proofs.two_halves_fail.Goals as goal

pub returns-clause-stops : goal.returns-clause-stops
returns-clause-stops c = halves_stop

pub returns-clause-possible : goal.returns-clause-possible
returns-clause-possible c = halves_possible

pub returns-clause-fails : goal.returns-clause-fails
returns-clause-fails c = halves_fail
