use Rattle.vx_examples.proofs.Endings.{field_writes_written, field_writes_never_fails, field_writes_half_fails, field_writes_half_never_ends, field_writes_null_fails}
use Rattle.vx_examples.proofs.runs.field_writes.Goals as goal

pub returns-clause-written : goal.returns-clause-written
returns-clause-written c = field_writes_written

pub returns-clause-never_fails : goal.returns-clause-never_fails
returns-clause-never_fails c = field_writes_never_fails

pub returns-clause-half_fails : goal.returns-clause-half_fails
returns-clause-half_fails c = field_writes_half_fails

pub returns-clause-half_never_ends : goal.returns-clause-half_never_ends
returns-clause-half_never_ends c = field_writes_half_never_ends

pub returns-clause-null_fails : goal.returns-clause-null_fails
returns-clause-null_fails c = field_writes_null_fails
