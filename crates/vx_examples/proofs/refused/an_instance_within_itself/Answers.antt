use Rattle.vx_examples.proofs.Looping.{not_grounded, not_held}
use Rattle.vx_examples.proofs.refused.an_instance_within_itself.Goals as goal

pub returns-clause-not_grounded : goal.returns-clause-not_grounded
returns-clause-not_grounded c = not_grounded

pub returns-clause-not_held : goal.returns-clause-not_held
returns-clause-not_held c = not_held
