use Rattle.std.proofs.Common.{refl}
use Rattle.vx_resolved.specs.Settled.{settled}
use Rattle.vx_stack.proofs.Steps.{stepped_as}
use Rattle.vx_consume.proofs.step_here.Goals as goal

pub returns : goal.returns
returns c =
    stepped_as (settled c.args.program.now) _ _ _ _ _
    (rw (c.in_ok-clone.ensures.cases, c.in_ok-shared.ensures.ok, c.in_ok-scale.ensures.cases, c.in_ok-start.ensures.cases) refl) c.step.ensures
