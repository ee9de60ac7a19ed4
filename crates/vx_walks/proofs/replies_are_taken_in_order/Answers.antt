use Rattle.std.proofs.Common.{refl}
use Rattle.vx_rules.specs.Trees.{passed}
use Rattle.vx_walks.proofs.Laws.{takes_then}
use Rattle.vx_walks.proofs.replies_are_taken_in_order.Goals as goal

pub returns : goal.returns
returns c t replies = takes_then t passed (λ rs. (rs, refl)) replies
