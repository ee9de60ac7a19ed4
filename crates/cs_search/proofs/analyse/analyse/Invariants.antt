use Rattle.std.proofs.Common.{◌≤◌, length}
use Rattle.cs_search.specs.Learned.{IsWalked}
use Rattle.cs_search.proofs.analyse.analyse.Given as goal

abbrev pub invariant-loop-k : goal.invariant-loop-k
invariant-loop-k l = record {
  above : l.start ≤ l.k;
  within : l.k ≤ length l.made.trail.items;
  walked : IsWalked l.clauses l.made l.start l.k l.found;
}

abbrev pub decreases-loop-k : goal.decreases-loop-k
decreases-loop-k l = l.k
