use Rattle.std.proofs.Common.{Some, ap}
use Rattle.vx_funcs.specs.Measures.{decreasing_by}
use Rattle.vx_resolved.specs.Resolved.{measure}
use Rattle.vx_resolved.specs.Settled.{settled}
use Rattle.vx_states.specs.SymStates.{own, state}
use Rattle.vx_stack.specs.Stack.{giving}
use Rattle.vx_stack.proofs.Steps.{stepped_as}
use Rattle.vx_funcs.proofs.measure.step_kind.Goals as goal

pub returns-in-Instance : goal.returns-in-Instance
returns-in-Instance c =
    let p = settled c.args.program.now in
    stepped_as p _ _ _ _ _ (ap (λ y. decreasing_by p (own c.args.own) c.args.x.now.value (Some (measure y)) (giving p c.args.hole.now.value) (state c.args.state)) c.in-Instance.is) c.step_instance.ensures
