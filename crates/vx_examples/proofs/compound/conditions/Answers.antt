use Rattle.vx_examples.proofs.Compounds.{conditions_first_side, conditions_other_side, conditions_unread_fails, conditions_forgotten}
use Rattle.vx_examples.proofs.compound.conditions.Goals as goal

pub returns-clause-first_side : goal.returns-clause-first_side
returns-clause-first_side c = conditions_first_side

pub returns-clause-other_side : goal.returns-clause-other_side
returns-clause-other_side c = conditions_other_side

pub returns-clause-unread_fails : goal.returns-clause-unread_fails
returns-clause-unread_fails c = conditions_unread_fails

pub returns-clause-forgotten : goal.returns-clause-forgotten
returns-clause-forgotten c = conditions_forgotten
