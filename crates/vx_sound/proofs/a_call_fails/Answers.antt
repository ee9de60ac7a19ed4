use Rattle.vx_sound.proofs.WorkedCalls.{forbidden_fails, forbidden_stops}
use Rattle.vx_sound.proofs.a_call_fails.Goals as goal

pub returns-clause-fails : goal.returns-clause-fails
returns-clause-fails c = forbidden_fails

pub returns-clause-stops : goal.returns-clause-stops
returns-clause-stops c = forbidden_stops
