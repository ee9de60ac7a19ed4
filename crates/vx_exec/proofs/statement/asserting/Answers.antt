use Rattle.std.proofs.Common.{refl}
use Rattle.vx_resolved.specs.Settled.{settled}
use Rattle.vx_exec.proofs.Forms.{goes_as}
use Rattle.vx_exec.proofs.statement.asserting.Goals as goal

pub returns : goal.returns
returns c = goes_as (settled c.args.program.now) _ _ _ (rw c.in_ok-clone.ensures.cases refl) c.consuming.ensures
