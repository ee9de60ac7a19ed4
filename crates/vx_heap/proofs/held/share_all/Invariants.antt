use Rattle.std.proofs.Common.{◌≡◌, map, take}
use Rattle.vx_heap.specs.Views.{shared}
use Rattle.vx_heap.proofs.held.share_all.Given as goal

abbrev pub invariant-loop-chunk : goal.invariant-loop-chunk
invariant-loop-chunk l = map shared l.copies.items ≡ map shared (take l.chunk-index l.chunks)
