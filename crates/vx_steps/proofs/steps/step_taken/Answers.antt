use Rattle.std.proofs.Common.{false, ap}
use Rattle.vx_resolved.specs.Settled.{settled}
use Rattle.vx_heap.specs.Views.{held_term}
use Rattle.vx_rules.specs.States.{State}
use Rattle.vx_states.specs.SymStates.{state}
use Rattle.vx_stack.specs.declared.frame.Taken.{Taken}
use Rattle.vx_stack.specs.Stack.{with_taken}
use Rattle.vx_stack.proofs.Steps.{stepped_as}
use Rattle.vx_steps.proofs.steps.step_taken.Goals as goal

pub returns-in-Unfold : goal.returns-in-Unfold
returns-in-Unfold c =
    let p = settled c.args.program.now in
    let s : State = state c.args.state in
    stepped_as p _ _ _ _ _ (ap (λ (w : Taken). with_taken p w (held_term c.args.value) false s) c.in-Unfold.is) c.step_body.ensures
