use Rattle.std.proofs.Common.{None, ap, ◌∙◌}
use Rattle.vx_resolved.specs.Resolved.{assertion, expr}
use Rattle.vx_resolved.specs.Settled.{settled}
use Rattle.vx_terms.specs.Build.{whole_amount}
use Rattle.vx_rules.specs.Members.{rules}
use Rattle.vx_rules.specs.Rules.{Going, eval}
use Rattle.vx_states.specs.SymStates.{optional_term}
use Rattle.vx_stack.specs.Stack.{executed, going}
use Rattle.vx_stack.proofs.Steps.{produces}
use Rattle.vx_exec.proofs.loops.from_invariant.Goals as goal

pub returns : goal.returns
returns c =
    let p = settled c.args.program.now in
    let rest : Going = λ s. eval p (rules p) (expr c.args.it.now.condition.value) s (executed p c.args.after (going p c.args.next.now.value)) in
    ap (going p) c.in_ok-new.ensures.ok
    ∙ produces p (assertion c.in_ok-clone.field-0.value) (assertion c.args.it.now.invariant.value) c.in_ok-production.production.value whole_amount None (going p c.in_ok-rest.rest.value) rest
    (ap assertion c.in_ok-clone.ensures.cases) c.in_ok-production.ensures.scale (ap optional_term c.in_ok-production.ensures.snapshot) c.in_ok-rest.ensures
