use Rattle.std.proofs.Common.{◌∙◌, sym, ap, ◌&&◌}
use Rattle.vx_graph.specs.Listed.{is_in}
use Rattle.vx_graph.proofs.search.found_by_both.Goals as goal

pub loop-n-preserved : goal.loop-n-preserved
loop-n-preserved c = c.in_ok-look.ensures (λ n. is_in c.args.f.now.order.items n && is_in c.args.g.now.order.items n) (ap (λ b. b && is_in c.args.g.now.order.items c.loop-n.n) (sym c.has.ensures) ∙ ap (λ b. c.has.result && b) (sym c.has-in-loop-n.ensures)) c.loop-n.invariant
