use Rattle.std.proofs.Common.{◌≡◌, map, take}
use Rattle.vx_heap.specs.Views.{heap, shared}
use Rattle.vx_heap.proofs.heap.SymHeap.of.Given as goal

abbrev pub invariant-loop-chunk : goal.invariant-loop-chunk
invariant-loop-chunk l = heap l.made ≡ map shared (take l.chunk-index l.chunks)
