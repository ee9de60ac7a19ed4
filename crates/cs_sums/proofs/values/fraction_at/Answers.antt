use Rattle.std.proofs.Common.{arith}
use Rattle.std.proofs.lemmas.Grind.{elements}
use Rattle.cs_sums.proofs.values.fraction_at.Goals as goal

pub returns-in_err-of-clause-whole : goal.returns-in_err-of-clause-whole
returns-in_err-of-clause-whole c = grind (arith, elements)

pub returns-in_err-value-clause-whole : goal.returns-in_err-value-clause-whole
returns-in_err-value-clause-whole c = grind (arith, elements)

pub returns-in-Int-clause-found : goal.returns-in-Int-clause-found
returns-in-Int-clause-found c = grind (arith, elements)

pub returns-in_default-clause-whole : goal.returns-in_default-clause-whole
returns-in_default-clause-whole c = grind (arith, elements)

pub returns-in_default-2-clause-whole : goal.returns-in_default-2-clause-whole
returns-in_default-2-clause-whole c = grind (arith, elements)
