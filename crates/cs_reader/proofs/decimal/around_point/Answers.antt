use Rattle.std.proofs.lemmas.Grind.{common_steps}
use Rattle.std.proofs.Common.{arith}
use Rattle.cs_reader.proofs.decimal.around_point.Goals as goal

pub returns-then-byte-eq46-clause-before : goal.returns-then-byte-eq46-clause-before
returns-then-byte-eq46-clause-before c = grind (arith, common_steps)

pub returns-then-byte-eq46-clause-behind : goal.returns-then-byte-eq46-clause-behind
returns-then-byte-eq46-clause-behind c = grind (arith, common_steps)

pub loop-at-preserved : goal.loop-at-preserved
loop-at-preserved c = grind (arith, common_steps)

pub returns-clause-before : goal.returns-clause-before
returns-clause-before c = grind (arith, common_steps)

pub returns-clause-behind : goal.returns-clause-behind
returns-clause-behind c = grind (arith, common_steps)
