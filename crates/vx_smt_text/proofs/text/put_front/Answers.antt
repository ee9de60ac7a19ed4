use Rattle.std.proofs.Common.{arith}
use Rattle.std.proofs.lemmas.Grind.{common_steps}
use Rattle.vx_smt_text.proofs.text.put_front.Goals as goal

pub returns-in_ok-put_term-in-Assert : goal.returns-in_ok-put_term-in-Assert
returns-in_ok-put_term-in-Assert c = grind (arith, common_steps)

pub returns-in_ok-put_numeral-in-Push : goal.returns-in_ok-put_numeral-in-Push
returns-in_ok-put_numeral-in-Push c = grind (arith, common_steps)

pub returns-in_ok-put_numeral-in-Pop : goal.returns-in_ok-put_numeral-in-Pop
returns-in_ok-put_numeral-in-Pop c = grind (arith, common_steps)
