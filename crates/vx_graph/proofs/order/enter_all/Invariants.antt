use Rattle.std.proofs.Common.{◌≡◌, ◌++◌, take}
use Rattle.vx_graph.specs.Order.{entries}
use Rattle.vx_graph.proofs.order.enter_all.Given as goal

abbrev pub invariant-loop-m : goal.invariant-loop-m
invariant-loop-m l = l.stack.items ≡ l.fn.stack.items ++ entries (take l.m-index l.row)
