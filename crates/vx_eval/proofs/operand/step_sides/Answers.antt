use Rattle.vx_heap.specs.Views.{held_term}
use Rattle.vx_resolved.specs.Settled.{settled}
use Rattle.vx_states.specs.SymStates.{state}
use Rattle.vx_stack.proofs.Steps.{stepped_as}
use Rattle.vx_eval.proofs.Sides.{forks}
use Rattle.vx_eval.proofs.operand.step_sides.Goals as goal

pub returns : goal.returns
returns c =
    let p = settled c.args.program.now in
    stepped_as p _ _ _ _ _
    (forks (held_term c.args.value) (state c.args.state) _ _ _ _ (c.in_ok-left.ensures p) (c.in_ok-right.ensures p)) c.fork.ensures
