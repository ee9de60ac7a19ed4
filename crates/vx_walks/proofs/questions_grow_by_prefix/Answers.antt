use Rattle.std.proofs.Common.{[], refl}
use Rattle.vx_rules.specs.Trees.{passed}
use Rattle.vx_walks.proofs.Laws.{grows_then}
use Rattle.vx_walks.proofs.questions_grow_by_prefix.Goals as goal

pub returns : goal.returns
returns c t replies more = grows_then t passed (λ rs more. ([], refl)) replies more
