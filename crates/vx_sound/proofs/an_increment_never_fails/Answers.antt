use Rattle.vx_sound.proofs.WorkedStore.{inc_never_fails}
use Rattle.vx_sound.proofs.an_increment_never_fails.Goals as goal

pub returns-clause-never_fails : goal.returns-clause-never_fails
returns-clause-never_fails c = inc_never_fails
