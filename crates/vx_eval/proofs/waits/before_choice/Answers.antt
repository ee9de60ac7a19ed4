use Rattle.std.proofs.Common.{ap}
use Rattle.vx_heap.specs.Views.{held_term}
use Rattle.vx_rules.specs.Rules.{Giving}
use Rattle.vx_rules.specs.Trees.{Step}
use Rattle.vx_terms.specs.Build.{ite}
use Rattle.vx_terms.specs.Views.{term}
use Rattle.vx_eval.proofs.waits.before_choice.Goals as goal

pub returns : goal.returns
returns c = λ p on.
    ap {B = Giving} (λ y v s. Step (on (ite (term y) (held_term c.args.first) v) s)) c.in_ok-clone.ensures.cases
