use Rattle.std.proofs.Common.{◌∙◌, ap}
use Rattle.vx_resolved.specs.Resolved.{expr}
use Rattle.vx_rules.specs.Members.{rules}
use Rattle.vx_rules.specs.Rules.{Going, eval}
use Rattle.vx_stack.specs.declared.frame.Hole.{Hole}
use Rattle.vx_stack.specs.Stack.{giving}
use Rattle.vx_eval.proofs.waits.evaluation.Goals as goal

pub returns : goal.returns
returns c = λ p.
    ap {B = Going} (λ y s. eval p (rules p) (expr y) s (giving p c.in_ok-clone-2.field-0.value)) c.in_ok-clone.ensures.cases
    ∙ ap {B = Going} (λ (y : Hole) s. eval p (rules p) (expr c.args.e.now.value) s (giving p y)) c.in_ok-clone-2.ensures.cases
