use Rattle.vx_law.proofs.WorkedParts.{tagged_typed, part_never_fails}
use Rattle.vx_law.proofs.a_function_whose_precondition_applies_one_never_fails.Goals as goal

pub returns-clause-typed : goal.returns-clause-typed
returns-clause-typed c = tagged_typed

pub returns-clause-never : goal.returns-clause-never
returns-clause-never c = part_never_fails
