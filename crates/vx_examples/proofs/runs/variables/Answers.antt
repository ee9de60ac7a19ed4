use Rattle.vx_examples.proofs.Endings.{variables_unchanged, variables_declared, variables_declared_typed, variables_assigned, variables_never_fails, variables_read, variables_unread, variables_never_ends}
use Rattle.vx_examples.proofs.runs.variables.Goals as goal

pub returns-clause-unchanged : goal.returns-clause-unchanged
returns-clause-unchanged c = variables_unchanged

pub returns-clause-declared : goal.returns-clause-declared
returns-clause-declared c = variables_declared

pub returns-clause-declared_typed : goal.returns-clause-declared_typed
returns-clause-declared_typed c = variables_declared_typed

pub returns-clause-assigned : goal.returns-clause-assigned
returns-clause-assigned c = variables_assigned

pub returns-clause-never_fails : goal.returns-clause-never_fails
returns-clause-never_fails c = variables_never_fails

pub returns-clause-read : goal.returns-clause-read
returns-clause-read c = variables_read

pub returns-clause-unread : goal.returns-clause-unread
returns-clause-unread c = variables_unread

pub returns-clause-never_ends : goal.returns-clause-never_ends
returns-clause-never_ends c = variables_never_ends
