use Rattle.std.proofs.Common.{◌≡◌, ◌++◌, drop}
use Rattle.vx_meaning.specs.Consistent.{spread}
use Rattle.vx_resolved.specs.Settled.{settled}
use Rattle.vx_run.specs.Flats.{all_written}
use Rattle.vx_run.specs.Flattening.{found}
use Rattle.vx_run.specs.Held.{heap}
use Rattle.vx_run.proofs.possible.spread.Given as goal

abbrev pub invariant-loop-e : goal.invariant-loop-e
invariant-loop-e l =
    found l.all.items ++ all_written (spread (settled l.program) l.steps (heap l.heap.value) (found (drop l.e-index l.held)))
    ≡ all_written (spread (settled l.program) l.steps (heap l.heap.value) (found l.held))
