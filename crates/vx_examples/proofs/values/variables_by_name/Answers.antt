use Rattle.vx_examples.proofs.Stated.{variables_by_name_of_other_type, variables_by_name_too_many, variables_by_name_differs, variables_by_name_differs_elsewhere, variables_by_name_differs_in_type, variables_by_name_differs_in_number}
use Rattle.vx_examples.proofs.values.variables_by_name.Goals as goal

pub returns-clause-of_other_type : goal.returns-clause-of_other_type
returns-clause-of_other_type c = variables_by_name_of_other_type

pub returns-clause-too_many : goal.returns-clause-too_many
returns-clause-too_many c = variables_by_name_too_many

pub returns-clause-differs : goal.returns-clause-differs
returns-clause-differs c = variables_by_name_differs

pub returns-clause-differs_elsewhere : goal.returns-clause-differs_elsewhere
returns-clause-differs_elsewhere c = variables_by_name_differs_elsewhere

pub returns-clause-differs_in_type : goal.returns-clause-differs_in_type
returns-clause-differs_in_type c = variables_by_name_differs_in_type

pub returns-clause-differs_in_number : goal.returns-clause-differs_in_number
returns-clause-differs_in_number c = variables_by_name_differs_in_number
