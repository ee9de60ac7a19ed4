use Rattle.std.proofs.Common.{length, take}
use Rattle.cs_search.specs.Assignment.{IsFalse}
use Rattle.cs_decide.proofs.lemmas.are_false.Given as goal

abbrev pub invariant-loop-literal : goal.invariant-loop-literal
invariant-loop-literal l = IsFalse l.made.values.items (length l.made.trail.items) (take l.literal-index l.literals)
