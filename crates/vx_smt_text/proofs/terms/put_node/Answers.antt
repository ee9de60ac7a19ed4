use Rattle.std.proofs.Common.{arith}
use Rattle.std.proofs.lemmas.Grind.{common_steps}
use Rattle.vx_smt_text.proofs.terms.put_node.Goals as goal

pub returns-in_ok-put_off-in-Not-clause-text : goal.returns-in_ok-put_off-in-Not-clause-text
returns-in_ok-put_off-in-Not-clause-text c = grind (arith, common_steps)

pub returns-in_ok-put_off-in-AllOf-clause-text : goal.returns-in_ok-put_off-in-AllOf-clause-text
returns-in_ok-put_off-in-AllOf-clause-text c = grind (arith, common_steps)

pub returns-in_ok-put_off-in-SomeOf-clause-text : goal.returns-in_ok-put_off-in-SomeOf-clause-text
returns-in_ok-put_off-in-SomeOf-clause-text c = grind (arith, common_steps)
