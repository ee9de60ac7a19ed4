use Rattle.std.proofs.Common.{sym, ap}
use Rattle.vx_resolved.specs.Settled.{settled}
use Rattle.vx_run.specs.Configs.{Setting}
use Rattle.vx_run.specs.ConfigViews.{config_of}
use Rattle.vx_run.specs.Frames.{act, rest, before}
use Rattle.vx_run.specs.Supplies.{supply}
use Rattle.vx_run.specs.declared.frame.Frame.{Frame}
use Rattle.vx_run.proofs.Steps.{follows_as, follows_on}
use Rattle.vx_run.proofs.run.step.Goals as goal

pub returns-in-Change : goal.returns-in-Change
returns-in-Change c =
    let t : Setting = record { program = settled c.args.program.now; steps = c.args.steps } in
    let l = supply c.args.supply.now in
    let k = rest t c.args.frames.now.items in
    follows_as _ _ _ _ (follows_on _ _ _ _ k (c.step_change.ensures l)) (ap (λ (f : Frame). before (act t f) k (config_of c.args.of.now) l) (sym c.in-Change.is))
