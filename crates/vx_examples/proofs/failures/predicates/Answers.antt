use Rattle.vx_examples.proofs.Members.{predicates_unframed, predicates_framed, predicates_field}
use Rattle.vx_examples.proofs.failures.predicates.Goals as goal

pub returns-clause-unframed : goal.returns-clause-unframed
returns-clause-unframed c = predicates_unframed

pub returns-clause-framed : goal.returns-clause-framed
returns-clause-framed c = predicates_framed

pub returns-clause-field : goal.returns-clause-field
returns-clause-field c = predicates_field
