use Rattle.std.proofs.Common.{◌≡◌, length}
use Rattle.cs_search.specs.Search.{IsReady, Learns}
use Rattle.cs_ground.proofs.solving.solved.Given as goal

abbrev pub invariant-loop-turn : goal.invariant-loop-turn
invariant-loop-turn l = record {
  sound : IsReady l.search;
  learns : Learns l.initial.search.clauses.items l.initial.search.steps.items l.search.clauses.items l.search.steps.items;
  width : length l.search.made.values.items ≡ length l.initial.search.made.values.items;
}
