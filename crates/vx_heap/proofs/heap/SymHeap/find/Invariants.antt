use Rattle.std.proofs.Common.{◌≡◌, drop, true}
use Rattle.vx_rules.specs.Chunks.{chosen}
use Rattle.vx_heap.specs.Picked.{picked}
use Rattle.vx_heap.specs.Views.{heap, key}
use Rattle.vx_heap.proofs.heap.SymHeap.find.Given as goal

abbrev pub invariant-loop-at : goal.invariant-loop-at
invariant-loop-at l =
    let k = key l.resource l.arguments in
    picked true k (heap l.self) (drop l.at-index l.at-items) ≡ chosen true k 0 (heap l.self)
