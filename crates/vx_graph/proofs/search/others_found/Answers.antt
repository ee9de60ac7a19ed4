use Rattle.std.proofs.Common.{sym, ap, ◌&&◌, nat_eq}
use Rattle.std.specs.Prelude.{not}
use Rattle.vx_graph.specs.Listed.{is_in}
use Rattle.vx_graph.proofs.search.others_found.Goals as goal

pub loop-n-preserved : goal.loop-n-preserved
loop-n-preserved c = c.in_ok-look.ensures (λ n. not (nat_eq n c.args.but.0) && is_in c.args.found.now.order.items n) (ap (λ b. not (nat_eq c.loop-n.n c.args.but.0) && b) (sym c.has.ensures)) c.loop-n.invariant
