use Rattle.std.proofs.Common.{ap}
use Rattle.vx_heap.specs.Views.{held_term}
use Rattle.vx_resolved.specs.Resolved.{expr}
use Rattle.vx_rules.specs.Members.{rules}
use Rattle.vx_rules.specs.Rules.{Giving, eval}
use Rattle.vx_rules.specs.Trees.{Step}
use Rattle.vx_terms.specs.Build.{ite}
use Rattle.vx_eval.proofs.waits.before_else.Goals as goal

pub returns : goal.returns
returns c = λ p on.
    ap {B = Giving} (λ y u s. Step (eval p (rules p) (expr y) s (λ v s1. Step (on (ite (held_term c.args.condition) u v) s1)))) c.in_ok-clone.ensures.cases
