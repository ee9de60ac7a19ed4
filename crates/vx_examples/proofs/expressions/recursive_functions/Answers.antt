use Rattle.vx_examples.proofs.Unending.{recursive_functions_has_length, recursive_functions_body_fits, recursive_functions_body_needs_the_list, recursive_functions_applies_with_the_list, recursive_functions_applies_without_the_list, recursive_functions_never_ends, recursive_functions_never_fits}
use Rattle.vx_examples.proofs.expressions.recursive_functions.Goals as goal

pub returns-clause-has_length : goal.returns-clause-has_length
returns-clause-has_length c = recursive_functions_has_length

pub returns-clause-body_fits : goal.returns-clause-body_fits
returns-clause-body_fits c = recursive_functions_body_fits

pub returns-clause-body_needs_the_list : goal.returns-clause-body_needs_the_list
returns-clause-body_needs_the_list c = recursive_functions_body_needs_the_list

pub returns-clause-applies_with_the_list : goal.returns-clause-applies_with_the_list
returns-clause-applies_with_the_list c = recursive_functions_applies_with_the_list

pub returns-clause-applies_without_the_list : goal.returns-clause-applies_without_the_list
returns-clause-applies_without_the_list c = recursive_functions_applies_without_the_list

pub returns-clause-never_ends : goal.returns-clause-never_ends
returns-clause-never_ends c = recursive_functions_never_ends

pub returns-clause-never_fits : goal.returns-clause-never_fits
returns-clause-never_fits c = recursive_functions_never_fits
