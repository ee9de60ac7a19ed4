use Rattle.vx_examples.proofs.Members.{functions_precondition, functions_body, functions_postcondition, functions_unheld_measure, functions_measure_without_value, functions_application, functions_unmeasured_application, functions_instance_application, functions_promise_application, functions_fine}
use Rattle.vx_examples.proofs.failures.functions.Goals as goal

pub returns-clause-precondition : goal.returns-clause-precondition
returns-clause-precondition c = functions_precondition

pub returns-clause-body : goal.returns-clause-body
returns-clause-body c = functions_body

pub returns-clause-postcondition : goal.returns-clause-postcondition
returns-clause-postcondition c = functions_postcondition

pub returns-clause-unheld_measure : goal.returns-clause-unheld_measure
returns-clause-unheld_measure c = functions_unheld_measure

pub returns-clause-measure_without_value : goal.returns-clause-measure_without_value
returns-clause-measure_without_value c = functions_measure_without_value

pub returns-clause-application : goal.returns-clause-application
returns-clause-application c = functions_application

pub returns-clause-unmeasured_application : goal.returns-clause-unmeasured_application
returns-clause-unmeasured_application c = functions_unmeasured_application

pub returns-clause-instance_application : goal.returns-clause-instance_application
returns-clause-instance_application c = functions_instance_application

pub returns-clause-promise_application : goal.returns-clause-promise_application
returns-clause-promise_application c = functions_promise_application

pub returns-clause-fine : goal.returns-clause-fine
returns-clause-fine c = functions_fine
