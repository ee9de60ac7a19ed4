use Rattle.vx_sound.proofs.WorkedCalls.{calls_typed, uses_passes, uses_never_fail}
use Rattle.vx_sound.proofs.a_call_never_fails.Goals as goal

pub returns-clause-typed : goal.returns-clause-typed
returns-clause-typed c = calls_typed

pub returns-clause-passes : goal.returns-clause-passes
returns-clause-passes c = uses_passes

pub returns-clause-never_fails : goal.returns-clause-never_fails
returns-clause-never_fails c = uses_never_fail
