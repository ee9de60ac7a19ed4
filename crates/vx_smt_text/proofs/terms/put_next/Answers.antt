use Rattle.std.proofs.Common.{arith}
use Rattle.std.proofs.lemmas.Grind.{common_steps}
use Rattle.vx_smt_text.proofs.terms.put_next.Goals as goal

pub returns-in_ok-push-in-Next-clause-text : goal.returns-in_ok-push-in-Next-clause-text
returns-in_ok-push-in-Next-clause-text c = grind (arith, common_steps)

pub returns-in_ok-put_off-in-More-clause-text : goal.returns-in_ok-put_off-in-More-clause-text
returns-in_ok-put_off-in-More-clause-text c = grind (arith, common_steps)
