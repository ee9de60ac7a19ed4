use Rattle.std.proofs.Common.{◌≡◌, ℕ, false, length}
use Rattle.vx_graph.specs.Reach.{leads}
use Rattle.vx_closure.proofs.rows.unmentioned.Given as goal

abbrev pub invariant-loop : goal.invariant-loop
invariant-loop l = record {
  members : length l.rows.items ≡ l.counter;
  edges : (b c : ℕ) → leads l.rows.items b c ≡ false;
}
