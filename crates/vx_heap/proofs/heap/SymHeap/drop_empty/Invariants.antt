use Rattle.std.proofs.Common.{◌≡◌, ◌-◌, length}
use Rattle.vx_rules.specs.Chunks.{without_empty}
use Rattle.vx_heap.specs.Heaps.{emptied_from}
use Rattle.vx_heap.specs.Views.{heap}
use Rattle.vx_heap.proofs.heap.SymHeap.drop_empty.Given as goal

abbrev pub invariant-loop-at : goal.invariant-loop-at
invariant-loop-at l = emptied_from l.at (heap l.self) ≡ without_empty (heap l.initial.self)

abbrev pub decreases-loop-at : goal.decreases-loop-at
decreases-loop-at l = length (heap l.self) - l.at
