use Rattle.std.proofs.Common.{◌≡◌, ℕ, false, length}
use Rattle.vx_graph.specs.Reach.{InRange, leads}
use Rattle.vx_graph.proofs.edges.none.Given as goal

abbrev pub invariant-loop : goal.invariant-loop
invariant-loop l = record {
  members : length l.rows.items ≡ l.counter;
  edges : (a b : ℕ) → leads l.rows.items a b ≡ false;
  within : (n : ℕ) → InRange n l.rows.items;
}
