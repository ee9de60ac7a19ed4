use Rattle.std.proofs.Common.{take, length}
use Rattle.vx_graph.specs.Reach.{InRange}
use Rattle.vx_graph.proofs.edges.are_in_range.Given as goal

abbrev pub invariant-loop-row : goal.invariant-loop-row
invariant-loop-row l = InRange (length l.rows) (take l.row-index l.rows)
