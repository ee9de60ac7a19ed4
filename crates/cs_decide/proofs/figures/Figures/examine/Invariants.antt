use Rattle.std.proofs.Common.{◌≤◌}
use Rattle.cs_decide.proofs.figures.Figures.examine.Given as goal

abbrev pub invariant-loop : goal.invariant-loop
invariant-loop l = l.initial.meter.spent ≤ l.meter.spent
