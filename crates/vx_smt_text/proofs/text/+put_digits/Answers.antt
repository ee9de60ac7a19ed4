use Rattle.std.proofs.Common.{◌≡◌, [], arith}
use Rattle.std.proofs.lemmas.Grind.{common_steps}
use Rattle.vx_smt_meaning.specs.Words.{digits}
use Rattle.vx_smt_text.proofs.Digits.{digits_none, digits_more}
use Rattle.vx_smt_text.proofs.text.+put_digits.Goals as goal

pub returns-in_ok-push : goal.returns-in_ok-push
returns-in_ok-push t c = let d = digits_more c.args.n c.if-n-gt0.true in grind (arith, common_steps, d)

pub returns-else-n-gt0 : goal.returns-else-n-gt0
returns-else-n-gt0 t c = let d : digits c.args.n ≡ [] = digits_none c.args.n (omega arith) in rw d (grind (arith, common_steps))
