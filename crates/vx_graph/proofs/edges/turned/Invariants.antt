use Rattle.std.proofs.Common.{◌≡◌, ℕ, length, take}
use Rattle.vx_graph.specs.Reach.{InRange, leads}
use Rattle.vx_graph.proofs.edges.turned.Given as goal

abbrev pub invariant-loop-at : goal.invariant-loop-at
invariant-loop-at l = record {
  members : length l.sources.items ≡ length l.rows;
  edges : (a b : ℕ) → leads l.sources.items b a ≡ leads (take l.at l.rows) a b;
  within : InRange (length l.rows) l.sources.items;
}
