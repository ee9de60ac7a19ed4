use Rattle.std.proofs.Common.{◌≡◌, ◌∷◌}
use Rattle.vx_run.specs.Fresh.{largest, in_heap}
use Rattle.vx_run.specs.Held.{heap}
use Rattle.vx_run.proofs.fresh.with_heap.Given as goal

abbrev pub invariant-loop-left : goal.invariant-loop-left
invariant-loop-left l = largest (l.most ∷ in_heap (heap l.left)) ≡ largest (l.fn.most ∷ in_heap (heap l.fn.all))
