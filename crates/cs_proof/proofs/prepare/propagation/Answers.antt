use Rattle.std.proofs.Common.{arith}
use Rattle.std.proofs.lemmas.Grind.{common_steps}
use Rattle.cs_proof.proofs.prepare.propagation.Goals as goal

pub returns-in_err-literals-clause-value : goal.returns-in_err-literals-clause-value
returns-in_err-literals-clause-value c = grind (arith, common_steps)

pub returns-then-not-are_bool-clause-value : goal.returns-then-not-are_bool-clause-value
returns-then-not-are_bool-clause-value c = grind (arith, common_steps)

pub returns-in_err-assumed-clause-value : goal.returns-in_err-assumed-clause-value
returns-in_err-assumed-clause-value c = grind (arith, common_steps)

pub returns-in_err-clause-clause-value : goal.returns-in_err-clause-clause-value
returns-in_err-clause-clause-value c = grind (arith, common_steps)

pub returns-clause-value : goal.returns-clause-value
returns-clause-value c = grind (arith, common_steps)
