use Rattle.std.proofs.Common.{◌≡◌, refl, ap, ◌∙◌}
use Rattle.vx_resolved.specs.Resolved.{assertion}
use Rattle.vx_resolved.specs.Settled.{settled}
use Rattle.vx_terms.specs.Build.{whole_amount}
use Rattle.vx_rules.specs.Trees.{EntryCode}
use Rattle.vx_rules.specs.Rules.{Giving, Going}
use Rattle.vx_rules.specs.Members.{codes}
use Rattle.vx_stack.specs.declared.waiting.Loop.{Loop}
use Rattle.vx_stack.specs.Stack.{giving, going}
use Rattle.vx_stack.proofs.Steps.{consumes}
use Rattle.vx_exec.proofs.Forms.{goes_as}
use Rattle.vx_exec.proofs.Iterations.{entered}
use Rattle.vx_exec.proofs.loops.entry.Goals as goal

pub returns : goal.returns
returns c =
    let p = settled c.args.program.now in
    let on : Going = going p c.args.next.now.value in
    let k : giving p c.in_ok-hole.hole ≡ entered p c.args.it.now.value c.args.kept on =
    c.in_ok-hole.ensures p ∙ ap {B = Giving} (λ (x : Loop). entered p x c.args.kept on) c.in_ok-clone.ensures.cases in
    goes_as p _ _ _
    (consumes p _ _ (codes EntryCode EntryCode) whole_amount whole_amount _ (entered p c.args.it.now.value c.args.kept on) (ap (λ (x : Loop). assertion x.invariant.value) c.deref.ensures) refl k)
    (c.consuming_all.ensures p)
