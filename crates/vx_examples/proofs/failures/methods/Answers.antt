use Rattle.vx_examples.proofs.Members.{methods_precondition, methods_postcondition_unframed, methods_body, methods_postcondition}
use Rattle.vx_examples.proofs.Kept.{methods_idle}
use Rattle.vx_examples.proofs.failures.methods.Goals as goal

pub returns-clause-precondition : goal.returns-clause-precondition
returns-clause-precondition c = methods_precondition

pub returns-clause-postcondition_unframed : goal.returns-clause-postcondition_unframed
returns-clause-postcondition_unframed c = methods_postcondition_unframed

pub returns-clause-body : goal.returns-clause-body
returns-clause-body c = methods_body

pub returns-clause-postcondition : goal.returns-clause-postcondition
returns-clause-postcondition c = methods_postcondition

pub returns-clause-idle : goal.returns-clause-idle
returns-clause-idle c = methods_idle
