use Rattle.vx_resolved.specs.Settled.{settled}
use Rattle.vx_machine.specs.Runs.{Follows}
use Rattle.vx_part_rows.proofs.machines.put_steps.Given as goal

abbrev pub invariant-loop-step : goal.invariant-loop-step
invariant-loop-step l = Follows (settled l.program) l.first × Follows (settled l.program) l.other
