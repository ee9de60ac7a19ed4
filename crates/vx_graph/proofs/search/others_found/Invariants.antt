use Rattle.std.proofs.Common.{◌&&◌, nat_eq}
use Rattle.std.specs.Prelude.{not}
use Rattle.vx_graph.specs.Listed.{is_in, AreThose}
use Rattle.vx_graph.proofs.search.others_found.Given as goal

abbrev pub invariant-loop-n : goal.invariant-loop-n
invariant-loop-n l = AreThose (λ n. not (nat_eq n l.but.0) && is_in l.found.order.items n) l.n l.others.items
