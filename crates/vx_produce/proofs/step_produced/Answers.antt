use Rattle.std.proofs.Common.{refl}
use Rattle.vx_resolved.specs.Settled.{settled}
use Rattle.vx_stack.proofs.Steps.{stepped_as}
use Rattle.vx_produce.proofs.step_produced.Goals as goal

pub returns-in-Amount : goal.returns-in-Amount
returns-in-Amount c = stepped_as (settled c.args.program.now) _ _ _ _ _ (rw c.in-Amount.is refl) c.step_amount.ensures

pub returns-in-Held : goal.returns-in-Held
returns-in-Held c = stepped_as (settled c.args.program.now) _ _ _ _ _ (rw c.in-Held.is refl) c.step_held.ensures
