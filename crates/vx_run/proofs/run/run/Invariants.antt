use Rattle.std.proofs.Common.{◌≡◌}
use Rattle.vx_resolved.specs.Settled.{settled}
use Rattle.vx_run.specs.Configs.{Setting}
use Rattle.vx_run.specs.ConfigViews.{config_of}
use Rattle.vx_run.specs.Frames.{rest}
use Rattle.vx_run.specs.Supplies.{supply}
use Rattle.vx_run.proofs.run.run.Given as goal

abbrev pub invariant-loop-turn : goal.invariant-loop-turn
invariant-loop-turn l =
    let t : Setting = record { program = settled l.program; steps = l.steps } in
    rest t l.frames.items (config_of l.of) (supply l.supply) ≡ rest t l.fn.frames.items (config_of l.fn.of) (supply l.fn.supply)
