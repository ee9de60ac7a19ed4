use Rattle.std.proofs.Common.{◌≡◌, ◌<◌, ◌||◌, ◌&&◌, ℕ, length, nat_eq, take}
use Rattle.vx_graph.specs.Listed.{is_in}
use Rattle.vx_graph.specs.Reach.{InRange, leads}
use Rattle.vx_graph.proofs.edges.add_all.Given as goal

abbrev pub invariant-loop-m : goal.invariant-loop-m
invariant-loop-m l = record {
  members : length l.rows.items ≡ length l.fn.rows.items;
  edges : (a b : ℕ) → leads l.rows.items a b ≡ (leads l.fn.rows.items a b || (is_in (take l.m-index l.from) a && nat_eq l.to.0 b));
  within : (n : ℕ) → l.to.0 < n → InRange n l.fn.rows.items → InRange n l.rows.items;
}
