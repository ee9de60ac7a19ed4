use Rattle.std.proofs.Common.{ap, ◌∙◌}
use Rattle.vx_resolved.specs.declared.Block as block'
use Rattle.vx_resolved.specs.Resolved.{block}
use Rattle.vx_resolved.specs.Settled.{settled}
use Rattle.vx_rules.specs.States.{leave}
use Rattle.vx_rules.specs.Rules.{Going}
use Rattle.vx_rules.specs.Members.{exec_all, rules}
use Rattle.vx_stack.specs.declared.frame.Next.{Next}
use Rattle.vx_stack.specs.Stack.{going}
use Rattle.vx_exec.proofs.statement.inner_frame.Goals as goal

pub returns : goal.returns
returns c =
    let p = settled c.args.program.now in
    ap (going p) c.in_ok-inner.ensures.ok
    ∙ ap {B = Going} (λ (b : block'.Block) s. exec_all p (rules p) (block b) s (λ s1. going p c.in_ok-clone-2.field-0.value (leave c.args.kept s1))) c.in_ok-clone.ensures.cases
    ∙ ap {B = Going} (λ (n : Next) s. exec_all p (rules p) (block c.args.block.now.value) s (λ s1. going p n (leave c.args.kept s1))) c.in_ok-clone-2.ensures.cases
