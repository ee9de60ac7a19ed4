use Rattle.vx_law.proofs.Eager.{eagers_typed, never_starts, not_allowed}
use Rattle.vx_law.proofs.what_does_not_pass_need_not_start.Goals as goal

pub returns-clause-typed : goal.returns-clause-typed
returns-clause-typed c = eagers_typed

pub returns-clause-never : goal.returns-clause-never
returns-clause-never c = never_starts

pub returns-clause-refuted : goal.returns-clause-refuted
returns-clause-refuted c = not_allowed
