-- The two laws.
use Rattle.vx_gen.proofs.Spelled.{generated_spelled}
use Rattle.vx_gen.proofs.Typed.{generated_typed}
use Rattle.vx_gen.proofs.laws.generated_is_typed.Goals as goal

pub returns-clause-spelled : goal.returns-clause-spelled
returns-clause-spelled c = generated_spelled

pub returns-clause-typed : goal.returns-clause-typed
returns-clause-typed c = generated_typed
