use Rattle.vx_rules.specs.Trees.{walk}
use Rattle.vx_walks.proofs.Laws.{walked_on}
use Rattle.vx_walks.proofs.sides_are_walked_in_order.Goals as goal

pub returns : goal.returns
returns c a b replies = walked_on a (walk b) replies
