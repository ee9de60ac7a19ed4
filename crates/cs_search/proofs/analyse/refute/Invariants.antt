use Rattle.std.proofs.Common.{◌≤◌, length}
use Rattle.cs_search.specs.Learned.{IsUnwound}
use Rattle.cs_search.proofs.analyse.refute.Given as goal

abbrev pub invariant-loop-k : goal.invariant-loop-k
invariant-loop-k l = record {
  within : l.k ≤ length l.made.trail.items;
  unwound : IsUnwound l.clauses l.made l.k l.found;
}

abbrev pub decreases-loop-k : goal.decreases-loop-k
decreases-loop-k l = l.k
