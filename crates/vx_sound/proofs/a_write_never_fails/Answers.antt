use Rattle.vx_sound.proofs.Worked.{sets_passes, sets_never_fails}
use Rattle.vx_sound.proofs.a_write_never_fails.Goals as goal

pub returns-clause-passes : goal.returns-clause-passes
returns-clause-passes c = sets_passes

pub returns-clause-never_fails : goal.returns-clause-never_fails
returns-clause-never_fails c = sets_never_fails
