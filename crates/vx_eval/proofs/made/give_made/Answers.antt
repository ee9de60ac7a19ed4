use Rattle.std.proofs.Common.{◌≡◌, IfOk, ap, subst, sym}
use Rattle.vx_heap.specs.Views.{held_term}
use Rattle.vx_resolved.specs.Settled.{settled}
use Rattle.vx_rules.specs.Trees.{Step}
use Rattle.vx_states.specs.SymStates.{state}
use Rattle.vx_stack.specs.Stack.{giving}
use Rattle.vx_stack.proofs.Steps.{stepped_as}
use Rattle.vx_eval.proofs.made.give_made.Goals as goal

pub returns-in-Ok : goal.returns-in-Ok
returns-in-Ok c = λ t h.
    let p = settled c.args.program.now in
    let e : held_term c.in-Ok.value ≡ t = subst (λ r. IfOk r (λ v. held_term v ≡ t)) c.in-Ok.is h in
    stepped_as p _ _ _ _ _ (ap (λ y. Step (giving p c.args.hole.now.value y (state c.args.state))) (sym e)) c.give.ensures
