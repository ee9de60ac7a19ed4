use Rattle.std.proofs.Common.{ap, ◌∙◌}
use Rattle.vx_resolved.specs.declared.Stmt as stmt'
use Rattle.vx_resolved.specs.Resolved.{stmt}
use Rattle.vx_rules.specs.Rules.{Going}
use Rattle.vx_rules.specs.Members.{exec, rules}
use Rattle.vx_stack.specs.declared.frame.Next.{Next}
use Rattle.vx_stack.specs.Stack.{going}
use Rattle.vx_exec.proofs.statement.first_then.Goals as goal

pub returns : goal.returns
returns c = λ p.
    ap {B = Going} (λ (n : Next) s. exec p (rules p) (stmt c.in_ok-clone.field-0.value) s (going p n)) c.in_ok-rest.ensures.ok
    ∙ ap {B = Going} (λ (y : stmt'.Stmt) s. exec p (rules p) (stmt y) s (going p c.args.rest)) c.in_ok-clone.ensures.cases
