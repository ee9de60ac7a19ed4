use Rattle.std.proofs.Common.{◌≡◌, drop}
use Rattle.std.specs.List.{list_any}
use Rattle.cs_answer.specs.Deeds as clean
use Rattle.cs_answer.proofs.deeds.has.Given as goal

abbrev pub invariant-loop-literal : goal.invariant-loop-literal
invariant-loop-literal l = list_any (clean.same_literal l.wanted) l.literals ≡ list_any (clean.same_literal l.wanted) (drop l.literal-index l.literals)
