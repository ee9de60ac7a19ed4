use Rattle.vx_resolved.specs.Settled.{settled}
use Rattle.vx_stack.specs.Stack.{giving}
use Rattle.vx_stack.proofs.Steps.{stepped_as}
use Rattle.vx_steps.proofs.steps.step_take_over.Goals as goal

pub returns : goal.returns
returns c =
    let p = settled c.args.program.now in
    stepped_as p _ _ _ _ _ (c.in_ok-value.ensures (giving p c.args.hole.now)) c.step_hole.ensures
