use Rattle.vx_law.proofs.WorkedDescent.{descends_typed, descender_never_fails}
use Rattle.vx_law.proofs.a_function_that_applies_itself_never_fails.Goals as goal

pub returns-clause-typed : goal.returns-clause-typed
returns-clause-typed c = descends_typed

pub returns-clause-never : goal.returns-clause-never
returns-clause-never c = descender_never_fails
