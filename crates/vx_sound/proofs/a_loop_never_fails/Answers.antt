use Rattle.vx_sound.proofs.WorkedLoops.{repeats_passes, repeats_right, repeats_never_fails}
use Rattle.vx_sound.proofs.a_loop_never_fails.Goals as goal

pub returns-clause-passes : goal.returns-clause-passes
returns-clause-passes c = repeats_passes

pub returns-clause-right : goal.returns-clause-right
returns-clause-right c = repeats_right

pub returns-clause-never_fails : goal.returns-clause-never_fails
returns-clause-never_fails c = repeats_never_fails
