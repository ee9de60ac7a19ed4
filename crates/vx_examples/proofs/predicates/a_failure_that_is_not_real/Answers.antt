use Rattle.vx_examples.proofs.Unopened.{hidden_possible, hidden_never, opened_refuted}
use Rattle.vx_examples.proofs.UnopenedTyped.{hidden_typed}
use Rattle.vx_examples.proofs.predicates.a_failure_that_is_not_real.Goals as goal

pub returns-clause-typed : goal.returns-clause-typed
returns-clause-typed c = hidden_typed

pub returns-clause-possible : goal.returns-clause-possible
returns-clause-possible c = hidden_possible

pub returns-clause-never : goal.returns-clause-never
returns-clause-never c = hidden_never

pub returns-clause-refuted : goal.returns-clause-refuted
returns-clause-refuted c = opened_refuted
