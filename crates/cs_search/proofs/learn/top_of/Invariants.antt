use Rattle.std.proofs.Common.{take}
use Rattle.cs_search.specs.Top.{IsTop}
use Rattle.cs_search.proofs.learn.top_of.Given as goal

abbrev pub invariant-loop-literal : goal.invariant-loop-literal
invariant-loop-literal l = IsTop l.made.values.items (take l.literal-index l.literals) l.best
