use Rattle.std.proofs.Common.{◌≡◌, ◌+◌, ◌-◌, length}
use Rattle.cs_search.specs.declared.Status.TheVariants.{False}
use Rattle.cs_search.specs.Assignment.{status_of}
use Rattle.cs_search.specs.Extended.{IsExtended}
use Rattle.cs_search.specs.Rows.{row, slot}
use Rattle.cs_search.specs.Queued.{IsQueued, AreHeldBut}
use Rattle.cs_search.proofs.propagate.visit_row.Given as goal

abbrev pub invariant-loop-number : goal.invariant-loop-number
invariant-loop-number l = record {
  extended : IsExtended l.clauses l.initial.made.values.items l.initial.made.trail.items l.made.values.items l.made.trail.items;
  queued : IsQueued l.clauses l.made.values.items l.made.trail.items l.queue;
  head : l.queue.head ≡ l.initial.queue.head;
  count : length l.queue.watches.items ≡ length l.initial.queue.watches.items;
  falsified : status_of l.made.values.items l.away ≡ False l.queue.head;
  held : AreHeldBut l.clauses l.queue.watches.items l.made.values.items (l.queue.head + 1) (length l.made.trail.items) (row l.queue.rows.items (slot l.away)) l.k;
}

abbrev pub decreases-loop-number : goal.decreases-loop-number
decreases-loop-number l = length (row l.queue.rows.items (slot l.away)) - l.k
