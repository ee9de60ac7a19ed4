use Rattle.std.proofs.Common.{◌≡◌, ap, ◌∙◌}
use Rattle.vx_ast.specs.Syntax.{Expr}
use Rattle.vx_resolved.specs.Resolved.{expr}
use Rattle.vx_resolved.specs.Settled.{settled}
use Rattle.vx_rules.specs.Members.{rules}
use Rattle.vx_rules.specs.Rules.{Giving, Going, eval}
use Rattle.vx_stack.specs.Stack.{executed, giving, going}
use Rattle.vx_exec.proofs.loops.evaluated.Goals as goal

pub returns : goal.returns
returns c =
    let p = settled c.args.program.now in
    let on : Giving = executed p c.args.after (going p c.args.next.now.value) in
    let k : giving p c.in_ok-hole.hole.value ≡ on = ap (giving p) c.in_ok-hole.ensures.ok ∙ c.in_ok-given.ensures p in
    ap (going p) c.in_ok-new.ensures.ok
    ∙ ap {B = Going} (λ (e : Expr) s. eval p (rules p) e s (giving p c.in_ok-hole.hole.value)) (ap expr c.in_ok-clone.ensures.cases)
    ∙ ap {B = Going} (λ (g : Giving) s. eval p (rules p) (expr c.args.it.now.condition.value) s g) k
