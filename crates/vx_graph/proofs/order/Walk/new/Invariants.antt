use Rattle.std.proofs.Common.{◌≡◌, ◌<◌, ℕ, true}
use Rattle.std.specs.Prelude.{All}
use Rattle.vx_graph.specs.Order.{member_of, enters}
use Rattle.vx_graph.proofs.order.Walk.new.Given as goal

abbrev pub invariant-loop-n : goal.invariant-loop-n
invariant-loop-n l = record {
  steps : All (λ s. (member_of s).0 < l.members) l.stack.items;
  all : (k : ℕ) → k < l.n → enters l.stack.items k ≡ true;
}
