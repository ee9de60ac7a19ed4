use Rattle.vx_expressions.proofs.Agree as agree
use Rattle.vx_expressions.proofs.laws.types_are_told.Goals as goal

pub returns-clause-types : goal.returns-clause-types
returns-clause-types c = agree.types

pub returns-clause-lists : goal.returns-clause-lists
returns-clause-lists c = agree.lists

pub returns-clause-shares : goal.returns-clause-shares
returns-clause-shares c = agree.shares

pub returns-clause-untyped : goal.returns-clause-untyped
returns-clause-untyped c = agree.untyped
