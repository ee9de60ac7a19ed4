use Rattle.std.proofs.Common.{◌-◌, ◌≤◌}
use Rattle.cs_meter.specs.Units.{limit}
use Rattle.cs_search.specs.Search.{IsReady}
use Rattle.cs_decide.proofs.turns.run.Given as goal

abbrev pub invariant-loop-answer : goal.invariant-loop-answer
invariant-loop-answer l = IsReady l.search × (l.initial.meter.spent ≤ l.meter.spent)

abbrev pub decreases-loop-answer : goal.decreases-loop-answer
decreases-loop-answer l = limit - l.meter.spent
