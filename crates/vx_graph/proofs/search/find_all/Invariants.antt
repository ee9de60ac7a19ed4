use Rattle.std.proofs.Common.{◌≡◌, length, take}
use Rattle.vx_graph.proofs.Searches.{FindsAll, Grows}
use Rattle.vx_graph.proofs.search.find_all.Given as goal

abbrev pub invariant-loop-m : goal.invariant-loop-m
invariant-loop-m l = record {
  members : length l.found.marks.items ≡ length l.fn.found.marks.items;
  found : FindsAll l.marks (take l.m-index l.row) l.found.order.items;
  order : Grows l.marks l.row l.fn.found.order.items l.found.order.items;
}
