use Rattle.std.proofs.Common.{refl}
use Rattle.vx_resolved.specs.Settled.{settled}
use Rattle.vx_stack.proofs.Steps.{stepped_as}
use Rattle.vx_steps.proofs.producing.step_share.Goals as goal

pub returns : goal.returns
returns c =
    stepped_as (settled c.args.program.now) _ _ _ _ _
    (rw (c.in_ok-hole.ensures.ok, c.in_ok-clone.ensures.cases, c.in_ok-clone-2.ensures.cases, c.in_ok-clone-3.ensures.cases, c.deref.ensures) refl) c.step.ensures
