use Rattle.std.proofs.Common.{refl}
use Rattle.vx_rules.specs.Trees.{passed}
use Rattle.vx_walks.proofs.Laws.{final_then}
use Rattle.vx_walks.proofs.an_end_is_final.Goals as goal

pub returns : goal.returns
returns c t replies more over = final_then t passed (λ rs more h. refl) replies more over
