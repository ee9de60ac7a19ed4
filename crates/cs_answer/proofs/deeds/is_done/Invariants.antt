use Rattle.std.proofs.Common.{◌≡◌, drop}
use Rattle.std.specs.List.{list_any}
use Rattle.cs_answer.specs.Deeds as clean
use Rattle.cs_answer.proofs.deeds.is_done.Given as goal

abbrev pub invariant-loop-earlier : goal.invariant-loop-earlier
invariant-loop-earlier l = list_any (clean.leaves_nothing l.step) l.before ≡ list_any (clean.leaves_nothing l.step) (drop l.earlier-index l.before)
