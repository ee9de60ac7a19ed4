use Rattle.std.proofs.Common.{None, ap}
use Rattle.vx_resolved.specs.Resolved.{assertion}
use Rattle.vx_terms.specs.Build.{whole_amount}
use Rattle.vx_states.specs.SymStates.{optional_term}
use Rattle.vx_stack.specs.Stack.{going}
use Rattle.vx_stack.proofs.Steps.{produces}
use Rattle.vx_exec.proofs.waits.inhaling.Goals as goal

pub returns : goal.returns
returns c = λ p. produces p (assertion c.in_ok-clone.field-0.value) (assertion c.args.a.now.value) c.in_ok-production.production.value whole_amount None
    (going p c.in_ok-clone-2.field-0.value) (going p c.args.next.now.value)
    (ap assertion c.in_ok-clone.ensures.cases) c.in_ok-production.ensures.scale (ap optional_term c.in_ok-production.ensures.snapshot) (ap (going p) c.in_ok-clone-2.ensures.cases)
