use Rattle.vx_law.proofs.Measures.{measures_end}
use Rattle.vx_law.proofs.Groups.{groups_agree}
use Rattle.vx_law.proofs.measures_end.Goals as goal

pub returns-clause-ends : goal.returns-clause-ends
returns-clause-ends c = measures_end

pub returns-clause-groups : goal.returns-clause-groups
returns-clause-groups c = groups_agree
