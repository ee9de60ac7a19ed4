use Rattle.std.proofs.Common.{◌≡◌}
use Rattle.vx_meaning.specs.States.{find_value}
use Rattle.vx_run.specs.Held.{heap, location}
use Rattle.vx_run.proofs.heap.Heap.find.Given as goal

abbrev pub invariant-loop-left : goal.invariant-loop-left
invariant-loop-left l = find_value l.of (heap l.fn.self) (location l.l) ≡ find_value l.of (heap l.left) (location l.l)
