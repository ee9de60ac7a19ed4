use Rattle.std.proofs.Common.{◌≡◌, ◌++◌, map, take, drop}
use Rattle.vx_resting.specs.Held.{rested}
use Rattle.vx_resting.proofs.resting.rest_runs.Given as goal

abbrev pub invariant-loop-run : goal.invariant-loop-run
invariant-loop-run l = l.runs ≡ map (rested l.held) (take l.run-index l.initial.runs) ++ drop l.run-index l.initial.runs
