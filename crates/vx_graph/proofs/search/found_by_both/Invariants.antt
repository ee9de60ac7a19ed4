use Rattle.std.proofs.Common.{◌&&◌}
use Rattle.vx_graph.specs.Listed.{is_in, AreThose}
use Rattle.vx_graph.proofs.search.found_by_both.Given as goal

abbrev pub invariant-loop-n : goal.invariant-loop-n
invariant-loop-n l = AreThose (λ n. is_in l.f.order.items n && is_in l.g.order.items n) l.n l.both.items
