use Rattle.std.proofs.Common.{◌∙◌, ap}
use Rattle.vx_resolved.specs.Resolved.{expr}
use Rattle.vx_rules.specs.Members.{rules}
use Rattle.vx_rules.specs.Rules.{Going, eval}
use Rattle.vx_stack.specs.declared.frame.Hole.{Hole}
use Rattle.vx_stack.specs.Stack.{giving, going}
use Rattle.vx_eval.proofs.Unfolded.{within}
use Rattle.vx_eval.proofs.operand.restored.Goals as goal

pub returns : goal.returns
returns c = λ p.
    let e = c.in_ok-clone-3.field-0.value in
    let h = c.in_ok-clone.field-0.value in
    ap {B = Going} (going p) c.in_ok-next.ensures.ok
    ∙ ap {B = Going} (λ (y : Hole) s. eval p (rules p) (expr e) s (giving p y)) c.in_ok-behind.ensures.ok
    ∙ ap {B = Going} (λ y. within p y h (giving p c.in_ok-clone-2.field-0.value)) c.in_ok-clone-3.ensures.cases
    ∙ ap {B = Going} (λ y. within p c.args.e.now.value y (giving p c.in_ok-clone-2.field-0.value)) c.in_ok-clone.ensures.cases
    ∙ ap {B = Going} (λ y. within p c.args.e.now.value c.args.heap.now.value (giving p y)) c.in_ok-clone-2.ensures.cases
