use Rattle.std.proofs.Common.{refl}
use Rattle.vx_terms.specs.Build.{whole_amount}
use Rattle.vx_resolved.specs.Settled.{settled}
use Rattle.vx_rules.specs.Trees.{AssertCode, PermissionCode}
use Rattle.vx_rules.specs.Members.{codes}
use Rattle.vx_stack.specs.Stack.{executed, going}
use Rattle.vx_stack.proofs.Steps.{consumes}
use Rattle.vx_exec.proofs.Forms.{goes_as}
use Rattle.vx_exec.proofs.statement.consuming.Goals as goal

pub returns : goal.returns
returns c =
    let p = settled c.args.program.now in
    goes_as p _ _ _
    (consumes p _ _ (codes AssertCode PermissionCode) whole_amount whole_amount _ (executed p c.args.after (going p c.args.next.now.value)) refl refl (c.in_ok-hole.ensures p))
    (c.consuming_all.ensures p)
