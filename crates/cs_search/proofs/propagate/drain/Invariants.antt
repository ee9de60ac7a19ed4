use Rattle.std.proofs.Common.{◌≡◌, ◌+◌, ◌-◌, length}
use Rattle.cs_search.specs.Extended.{IsExtended, unset_count}
use Rattle.cs_search.specs.Queued.{IsQueued}
use Rattle.cs_search.proofs.propagate.drain.Given as goal

abbrev pub invariant-loop-queue : goal.invariant-loop-queue
invariant-loop-queue l = record {
  extended : IsExtended l.clauses l.initial.made.values.items l.initial.made.trail.items l.made.values.items l.made.trail.items;
  queued : IsQueued l.clauses l.made.values.items l.made.trail.items l.queue;
  count : length l.queue.watches.items ≡ length l.initial.queue.watches.items;
}

abbrev pub decreases-loop-queue : goal.decreases-loop-queue
decreases-loop-queue l = (unset_count l.made.values.items + length l.made.trail.items) - l.queue.head
