use Rattle.vx_sound.proofs.WorkedProgram.{writes_typed, passes, writes_never_fail}
use Rattle.vx_sound.proofs.a_typed_program_never_fails.Goals as goal

pub returns-clause-typed : goal.returns-clause-typed
returns-clause-typed c = writes_typed

pub returns-clause-passes : goal.returns-clause-passes
returns-clause-passes c = passes

pub returns-clause-never_fails : goal.returns-clause-never_fails
returns-clause-never_fails c = writes_never_fail
