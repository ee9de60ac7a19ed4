use Rattle.std.specs.Prelude.{length}
use Rattle.vx_heap.proofs.chunk.+are_same.Given as goal

abbrev pub decreases-are_same : goal.decreases-are_same
decreases-are_same l = length l.ss.now
