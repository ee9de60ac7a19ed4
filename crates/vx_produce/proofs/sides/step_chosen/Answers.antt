use Rattle.std.proofs.Common.{refl}
use Rattle.vx_resolved.specs.Settled.{settled}
use Rattle.vx_stack.proofs.Steps.{stepped_as}
use Rattle.vx_produce.proofs.sides.step_chosen.Goals as goal

pub returns : goal.returns
returns c =
    stepped_as (settled c.args.program.now) _ _ _ _ _
    (rw (c.in_ok-left.ensures, c.in_ok-right.ensures) refl) c.fork.ensures
