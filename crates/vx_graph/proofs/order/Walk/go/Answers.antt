use Rattle.std.proofs.Common.{◌++◌, ◌∷◌, [], subst, length}
use Rattle.vx_graph.specs.Order.{Walks}
use Rattle.vx_graph.proofs.Orders.{walks_left}
use Rattle.vx_graph.proofs.order.Walk.go.Goals as goal

pub returns-in_ok-push-in-Leave-clause-walks : goal.returns-in_ok-push-in-Leave-clause-walks
returns-in_ok-push-in-Leave-clause-walks c =
    let n = length c.args.rows.now in
    let old = c.args.self.now in
    walks_left n old.stack.items old.seen.items old.ends.items c.in-Leave.member c.push.new.self.items
    (subst (λ s. Walks n (old.stack.items ++ s ∷ []) old.seen.items old.ends.items) c.in-Leave.is c.requires.walks) c.in_ok-push-in-Leave.ensures.items
