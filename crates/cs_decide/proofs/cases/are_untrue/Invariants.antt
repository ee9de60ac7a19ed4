use Rattle.std.proofs.Common.{take}
use Rattle.cs_decide.specs.New.{AreUntrue}
use Rattle.cs_decide.proofs.cases.are_untrue.Given as goal

abbrev pub invariant-loop-literal : goal.invariant-loop-literal
invariant-loop-literal l = AreUntrue l.made.values.items (take l.literal-index l.literals)
