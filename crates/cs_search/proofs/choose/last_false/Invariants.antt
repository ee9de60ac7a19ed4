use Rattle.std.proofs.Common.{take}
use Rattle.cs_search.specs.Chosen.{IsLastFalse}
use Rattle.cs_search.proofs.choose.last_false.Given as goal

abbrev pub invariant-loop-literal : goal.invariant-loop-literal
invariant-loop-literal l = IsLastFalse l.values (take l.literal-index l.literals) l.but l.last
