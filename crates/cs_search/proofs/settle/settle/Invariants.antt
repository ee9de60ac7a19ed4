use Rattle.std.proofs.Common.{◌≤◌}
use Rattle.cs_search.specs.Assignment.{LeavesOnly}
use Rattle.cs_search.specs.Settled.{IsDecision}
use Rattle.cs_search.proofs.settle.settle.Given as goal

abbrev pub invariant-loop-before : goal.invariant-loop-before
invariant-loop-before l = record {
  within : l.cut ≤ l.from;
  leaves : LeavesOnly l.values l.cut l.literals l.forced;
  decision : IsDecision l.trail l.from → IsDecision l.trail l.cut;
}

abbrev pub decreases-loop-before : goal.decreases-loop-before
decreases-loop-before l = l.cut
