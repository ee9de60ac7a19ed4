use Rattle.vx_statements.proofs.Agree as agree
use Rattle.vx_statements.proofs.laws.statements_are_told.Goals as goal

pub returns-clause-statements : goal.returns-clause-statements
returns-clause-statements c = agree.statements

pub returns-clause-blocks : goal.returns-clause-blocks
returns-clause-blocks c = agree.blocks

pub returns-clause-others : goal.returns-clause-others
returns-clause-others c = agree.other_blocks
