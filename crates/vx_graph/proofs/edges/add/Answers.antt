use Rattle.vx_graph.proofs.Rows.{one_more_edge}
use Rattle.vx_graph.proofs.edges.add.Goals as goal

pub returns-clause-edges : goal.returns-clause-edges
returns-clause-edges c a b = one_more_edge c.args.rows.now.items c.args.from.0 c.index_mut.result.now c.push.new.self c.args.to c.requires c.index_mut.ensures.value c.in_ok-push.ensures.items a b
