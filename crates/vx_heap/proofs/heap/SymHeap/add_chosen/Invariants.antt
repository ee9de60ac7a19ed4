use Rattle.std.proofs.Common.{◌≡◌, ◌++◌, drop}
use Rattle.vx_rules.specs.Chunks.{chosen}
use Rattle.vx_heap.specs.Picked.{picked}
use Rattle.vx_heap.specs.Views.{candidates_of, heap, key}
use Rattle.vx_heap.proofs.heap.SymHeap.add_chosen.Given as goal

abbrev pub invariant-loop-number : goal.invariant-loop-number
invariant-loop-number l =
    let k = key l.resource l.arguments in
    candidates_of l.found.items ++ picked l.identical k (heap l.self) (drop l.number-index l.number-items) ≡ candidates_of l.initial.found.items ++ chosen l.identical k 0 (heap l.self)
