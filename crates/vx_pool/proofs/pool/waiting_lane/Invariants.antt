use Rattle.std.proofs.Common.{◌≡◌, ◌+◌, take}
use Rattle.vx_pool.specs.Counts.{count}
use Rattle.vx_pool.proofs.pool.waiting_lane.Given as goal

abbrev pub invariant-loop-i : goal.invariant-loop-i
invariant-loop-i l = l.left + count (take l.i l.states) ≡ l.number
