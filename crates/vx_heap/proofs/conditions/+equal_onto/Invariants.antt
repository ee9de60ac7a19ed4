use Rattle.std.specs.Prelude.{length}
use Rattle.vx_heap.proofs.conditions.+equal_onto.Given as goal

abbrev pub decreases-equal_onto : goal.decreases-equal_onto
decreases-equal_onto l = length l.ss.now
