use Rattle.vx_depth.proofs.Statements.{same_rules}
use Rattle.vx_depth.proofs.rules_past_a_depth_are_the_same.Goals as goal

pub returns : goal.returns
returns t p n c d all m m' = same_rules p n c d all m m'
