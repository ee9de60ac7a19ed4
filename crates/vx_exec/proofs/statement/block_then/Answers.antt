use Rattle.std.proofs.Common.{ap, ◌∙◌}
use Rattle.vx_resolved.specs.declared.Block as block'
use Rattle.vx_resolved.specs.Resolved.{block, stmt}
use Rattle.vx_rules.specs.Rules.{Going}
use Rattle.vx_rules.specs.Members.{exec, exec_all, rules}
use Rattle.vx_stack.specs.declared.frame.Next.{Next}
use Rattle.vx_stack.specs.Stack.{going}
use Rattle.vx_exec.proofs.Forms.{goes_as}
use Rattle.vx_exec.proofs.statement.block_then.Goals as goal

pub returns : goal.returns
returns c = λ p.
    goes_as p _ _ _
    (ap {B = Going} (λ (b : block'.Block) s. exec p (rules p) (stmt c.args.first.now.value) s (λ s1. exec_all p (rules p) (block b) s1 (going p c.in_ok-clone-2.field-0.value))) c.in_ok-clone.ensures.cases
    ∙ ap {B = Going} (λ (n : Next) s. exec p (rules p) (stmt c.args.first.now.value) s (λ s1. exec_all p (rules p) (block c.args.rest.now.value) s1 (going p n))) c.in_ok-clone-2.ensures.cases)
    (c.first_then.ensures p)
