use Rattle.vx_law.proofs.Worked.{counts_typed, relies_never_fails, adder_never_fails}
use Rattle.vx_law.proofs.a_method_that_relies_on_a_function_never_fails.Goals as goal

pub returns-clause-typed : goal.returns-clause-typed
returns-clause-typed c = counts_typed

pub returns-clause-method : goal.returns-clause-method
returns-clause-method c = relies_never_fails

pub returns-clause-function : goal.returns-clause-function
returns-clause-function c = adder_never_fails
