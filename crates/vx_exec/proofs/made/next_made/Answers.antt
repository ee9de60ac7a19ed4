use Rattle.std.proofs.Common.{◌≡◌, IfOk, ap, subst, sym}
use Rattle.vx_resolved.specs.Settled.{settled}
use Rattle.vx_rules.specs.Rules.{Going}
use Rattle.vx_rules.specs.Trees.{Step}
use Rattle.vx_states.specs.SymStates.{state}
use Rattle.vx_stack.specs.Stack.{going}
use Rattle.vx_stack.proofs.Steps.{stepped_as}
use Rattle.vx_exec.proofs.made.next_made.Goals as goal

pub returns-in-Ok : goal.returns-in-Ok
returns-in-Ok c = λ on h.
    let p = settled c.args.program.now in
    let e : going p c.in-Ok.next ≡ on = subst (λ r. IfOk r (λ x. going p x ≡ on)) c.in-Ok.is h in
    stepped_as p _ _ _ _ _ (ap (λ (y : Going). Step (y (state c.args.state))) (sym e)) c.next.ensures
