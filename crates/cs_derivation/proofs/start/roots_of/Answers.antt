use Rattle.std.proofs.Common.{arith}
use Rattle.std.proofs.lemmas.Grind.{common_steps}
use Rattle.cs_derivation.proofs.start.roots_of.Goals as goal

pub loop-assertion-preserved : goal.loop-assertion-preserved
loop-assertion-preserved c = grind (arith, common_steps)

pub returns : goal.returns
returns c = grind (arith, common_steps)

pub returns-in_err-place_of : goal.returns-in_err-place_of
returns-in_err-place_of c = grind (arith, common_steps)
