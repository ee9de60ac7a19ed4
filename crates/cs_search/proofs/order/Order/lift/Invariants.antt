use Rattle.cs_search.proofs.order.Order.lift.Given as goal

abbrev pub decreases-loop-at : goal.decreases-loop-at
decreases-loop-at l = l.at
