use Rattle.vx_examples.proofs.Endings.{new_references_created, new_references_bare, new_references_not_null, new_references_not_stored}
use Rattle.vx_examples.proofs.runs.new_references.Goals as goal

pub returns-clause-created : goal.returns-clause-created
returns-clause-created c = new_references_created

pub returns-clause-bare : goal.returns-clause-bare
returns-clause-bare c = new_references_bare

pub returns-clause-not_null : goal.returns-clause-not_null
returns-clause-not_null c = new_references_not_null

pub returns-clause-not_stored : goal.returns-clause-not_stored
returns-clause-not_stored c = new_references_not_stored
