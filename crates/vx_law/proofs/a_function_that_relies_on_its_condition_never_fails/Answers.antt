use Rattle.vx_law.proofs.WorkedParts.{payload_typed, payload_never_fails}
use Rattle.vx_law.proofs.a_function_that_relies_on_its_condition_never_fails.Goals as goal

pub returns-clause-typed : goal.returns-clause-typed
returns-clause-typed c = payload_typed

pub returns-clause-never : goal.returns-clause-never
returns-clause-never c = payload_never_fails
