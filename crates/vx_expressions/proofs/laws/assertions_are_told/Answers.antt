use Rattle.vx_expressions.proofs.Agree as agree
use Rattle.vx_expressions.proofs.laws.assertions_are_told.Goals as goal

pub returns-clause-assertions : goal.returns-clause-assertions
returns-clause-assertions c = agree.assertions

pub returns-clause-values : goal.returns-clause-values
returns-clause-values c = agree.values

pub returns-clause-permissions : goal.returns-clause-permissions
returns-clause-permissions c = agree.permissions

pub returns-clause-others : goal.returns-clause-others
returns-clause-others c = agree.others
