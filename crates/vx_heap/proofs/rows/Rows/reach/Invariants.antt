use Rattle.std.proofs.Common.{◌≡◌, ◌+◌, ◌-◌, ℕ}
use Rattle.vx_heap.specs.Places.{under}
use Rattle.vx_heap.proofs.rows.Rows.reach.Given as goal

abbrev pub invariant-loop-alloc : goal.invariant-loop-alloc
invariant-loop-alloc l = (k : ℕ) → under l.self k ≡ under l.fn.self k

abbrev pub decreases-loop-alloc : goal.decreases-loop-alloc
decreases-loop-alloc l = l.row + 1 - l.self.rows.len
