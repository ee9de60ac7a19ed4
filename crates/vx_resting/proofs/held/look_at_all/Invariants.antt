use Rattle.std.proofs.Common.{take}
use Rattle.vx_resolved.specs.Settled.{settled}
use Rattle.vx_resting.specs.Held.{AreFirst}
use Rattle.vx_resting.proofs.held.look_at_all.Given as goal

abbrev pub invariant-loop-run : goal.invariant-loop-run
invariant-loop-run l = AreFirst (settled l.program) (take l.run-index l.runs) l.held
