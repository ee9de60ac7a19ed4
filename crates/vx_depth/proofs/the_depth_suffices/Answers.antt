use Rattle.vx_depth.proofs.Statements.{depth_suffices}
use Rattle.vx_depth.proofs.Trees.{over_more}
use Rattle.vx_depth.proofs.the_depth_suffices.Goals as goal

pub returns-clause-rules : goal.returns-clause-rules
returns-clause-rules t p d apart m = depth_suffices p d apart m

pub returns-clause-trees : goal.returns-clause-trees
returns-clause-trees t p d apart m x k = over_more p d apart m x k
