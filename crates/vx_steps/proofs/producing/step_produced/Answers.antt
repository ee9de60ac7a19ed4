use Rattle.std.proofs.Common.{refl}
use Rattle.vx_resolved.specs.Settled.{settled}
use Rattle.vx_stack.proofs.Steps.{stepped_as}
use Rattle.vx_steps.proofs.producing.step_produced.Goals as goal

pub returns-in-Share : goal.returns-in-Share
returns-in-Share c = stepped_as (settled c.args.program.now) _ _ _ _ _ (rw c.in-Share.is refl) c.step_share.ensures
