use Rattle.std.proofs.Common.{refl}
use Rattle.vx_resolved.specs.Settled.{settled}
use Rattle.vx_stack.proofs.Steps.{stepped_as}
use Rattle.vx_produce.proofs.step_both.Goals as goal

pub returns : goal.returns
returns c =
    stepped_as (settled c.args.program.now) _ _ _ _ _
    (rw (c.in_ok-both.ensures, c.in_ok-add_split.ensures) refl) c.next.ensures
