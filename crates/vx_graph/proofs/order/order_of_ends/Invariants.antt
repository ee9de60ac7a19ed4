use Rattle.std.proofs.Common.{length}
use Rattle.vx_graph.specs.Order.{Walks, left_to_do}
use Rattle.vx_graph.proofs.order.order_of_ends.Given as goal

abbrev pub invariant-loop-step : goal.invariant-loop-step
invariant-loop-step l = Walks (length l.rows) l.walk.stack.items l.walk.seen.items l.walk.ends.items

abbrev pub decreases-loop-step : goal.decreases-loop-step
decreases-loop-step l = left_to_do l.rows l.walk.stack.items l.walk.seen.items
