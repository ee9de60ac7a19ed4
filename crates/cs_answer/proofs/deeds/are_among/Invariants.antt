use Rattle.std.proofs.Common.{◌≡◌, drop}
use Rattle.cs_answer.specs.Deeds as clean
use Rattle.cs_answer.proofs.deeds.are_among.Given as goal

abbrev pub invariant-loop-literal : goal.invariant-loop-literal
invariant-loop-literal l = clean.are_among l.literals l.some ≡ clean.are_among l.literals (drop l.literal-index l.some)
