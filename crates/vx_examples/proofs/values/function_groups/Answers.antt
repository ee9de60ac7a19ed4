use Rattle.vx_examples.proofs.Stated.{function_groups_mutual, function_groups_reaches, function_groups_not_back, function_groups_not_itself}
use Rattle.vx_examples.proofs.values.function_groups.Goals as goal

pub returns-clause-mutual : goal.returns-clause-mutual
returns-clause-mutual c = function_groups_mutual

pub returns-clause-reaches : goal.returns-clause-reaches
returns-clause-reaches c = function_groups_reaches

pub returns-clause-not_back : goal.returns-clause-not_back
returns-clause-not_back c = function_groups_not_back

pub returns-clause-not_itself : goal.returns-clause-not_itself
returns-clause-not_itself c = function_groups_not_itself
