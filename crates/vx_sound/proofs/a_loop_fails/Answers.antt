use Rattle.vx_sound.proofs.WorkedLoops.{reaches_fails, reaches_stops}
use Rattle.vx_sound.proofs.a_loop_fails.Goals as goal

pub returns-clause-fails : goal.returns-clause-fails
returns-clause-fails c = reaches_fails

pub returns-clause-stops : goal.returns-clause-stops
returns-clause-stops c = reaches_stops
