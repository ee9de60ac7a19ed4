use Rattle.std.proofs.Common.{◌-◌, length}
use Rattle.cs_search.specs.Extended.{IsExtended}
use Rattle.cs_search.specs.Queued.{IsQueued}
use Rattle.cs_search.proofs.propagate.enter_all.Given as goal

abbrev pub invariant-loop-alloc : goal.invariant-loop-alloc
invariant-loop-alloc l = record {
  extended : IsExtended l.clauses l.initial.made.values.items l.initial.made.trail.items l.made.values.items l.made.trail.items;
  queued : IsQueued l.clauses l.made.values.items l.made.trail.items l.queue;
}

abbrev pub decreases-loop-alloc : goal.decreases-loop-alloc
decreases-loop-alloc l = length l.clauses - length l.queue.watches.items
