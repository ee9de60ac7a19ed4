use Rattle.vx_sound_preds.proofs.Kept.{bodies_covered}
use Rattle.vx_sound_preds.proofs.Worked.{cells_covered, chains_covered, proper_chain}
use Rattle.vx_sound_preds.proofs.passed_bodies_are_covered.Goals as goal

pub returns-clause-covered : goal.returns-clause-covered
returns-clause-covered c = bodies_covered

pub returns-clause-cells : goal.returns-clause-cells
returns-clause-cells c = cells_covered

pub returns-clause-chains : goal.returns-clause-chains
returns-clause-chains c = chains_covered

pub returns-clause-proper : goal.returns-clause-proper
returns-clause-proper c = proper_chain
