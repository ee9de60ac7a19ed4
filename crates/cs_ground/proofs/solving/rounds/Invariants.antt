use Rattle.std.proofs.Common.{◌≡◌, ◌+◌, ◌*◌, ◌-◌, length}
use Rattle.cs_meter.specs.Units.{limit}
use Rattle.cs_search.specs.Extended.{unset_count}
use Rattle.cs_search.specs.Search.{IsReady, Learns}
use Rattle.cs_ground.proofs.solving.rounds.Given as goal

abbrev pub invariant-loop-e : goal.invariant-loop-e
invariant-loop-e l = record {
  sound : IsReady l.search;
  learns : Learns l.initial.search.clauses.items l.initial.search.steps.items l.search.clauses.items l.search.steps.items;
  width : length l.search.made.values.items ≡ length l.initial.search.made.values.items;
}

abbrev pub decreases-loop-e : goal.decreases-loop-e
decreases-loop-e l = (limit - l.meter.spent) * (length l.search.made.values.items + 1) + unset_count l.search.made.values.items
