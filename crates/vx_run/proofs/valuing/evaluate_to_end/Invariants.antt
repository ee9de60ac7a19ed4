use Rattle.std.proofs.Common.{◌≡◌}
use Rattle.vx_resolved.specs.Settled.{settled}
use Rattle.vx_run.specs.Configs.{Setting}
use Rattle.vx_run.specs.ConfigViews.{config_of}
use Rattle.vx_run.specs.Frames.{rest}
use Rattle.vx_run.specs.Pending.{act}
use Rattle.vx_run.specs.Supplies.{supply}
use Rattle.vx_run.proofs.valuing.evaluate_to_end.Given as goal

abbrev pub invariant-loop : goal.invariant-loop
invariant-loop l =
    let t : Setting = record { program = settled l.program; steps = 0 } in
    rest t l.frames.items (config_of l.of) (supply l.from) ≡ act t l.fn.first (config_of l.fn.of) (record { source = 0; steps = 0 })
