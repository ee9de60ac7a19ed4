use Rattle.vx_expressions.proofs.Agree as agree
use Rattle.vx_expressions.proofs.laws.types_are_single.Goals as goal

pub returns-clause-one : goal.returns-clause-one
returns-clause-one c = agree.one_type

pub returns-clause-apart : goal.returns-clause-apart
returns-clause-apart c = agree.no_values
