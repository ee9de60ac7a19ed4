use Rattle.std.proofs.Common.{◌≡◌, ◌<◌, drop}
use Rattle.vx_heap.specs.Places.{row_from, row_of}
use Rattle.vx_heap.proofs.rows.row_of.Given as goal

abbrev pub invariant-loop-b : goal.invariant-loop-b
invariant-loop-b l = (row_from l.row (drop l.b-index l.name) ≡ row_of l.name) × (l.row < 16)
