use Rattle.vx_sound_preds.proofs.Worked.{cells_are_good, chains_are_good, loops_are_not, owes_are_not}
use Rattle.vx_sound_preds.proofs.some_bodies_are_good.Goals as goal

pub returns-clause-cells : goal.returns-clause-cells
returns-clause-cells c = cells_are_good

pub returns-clause-chains : goal.returns-clause-chains
returns-clause-chains c = chains_are_good

pub returns-clause-loops : goal.returns-clause-loops
returns-clause-loops c = loops_are_not

pub returns-clause-owes : goal.returns-clause-owes
returns-clause-owes c = owes_are_not
