use Rattle.std.proofs.Common.{◌≡◌, ◌-◌, length}
use Rattle.vx_graph.proofs.Searches.{Searched}
use Rattle.vx_graph.proofs.search.find_within.Given as goal

abbrev pub invariant-loop-next : goal.invariant-loop-next
invariant-loop-next l = record {
  members : length l.found.marks.items ≡ length l.rows;
  searched : Searched l.marks l.rows l.fn.from.0 l.found.order.items l.next;
}

abbrev pub decreases-loop-next : goal.decreases-loop-next
decreases-loop-next l = length l.rows - l.next
