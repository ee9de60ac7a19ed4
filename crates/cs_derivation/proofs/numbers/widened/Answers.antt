use Rattle.std.proofs.Common.{◌∙◌}
use Rattle.std.proofs.lemmas.List.{take_more, take_all}
use Rattle.std.proofs.lemmas.Result.{IfOk-from_err}
use Rattle.cs_derivation.proofs.numbers.widened.Goals as goal

pub returns-in_err-push : goal.returns-in_err-push
returns-in_err-push c = IfOk-from_err _ _ c.from_residual.ensures.0

pub loop-number-preserved : goal.loop-number-preserved
loop-number-preserved c = let e = take_more c.args.numbers.now c.loop-number.number-index 0 c.loop-number-test.true in cc (c.in_ok-push.ensures.items, c.loop-number.invariant)

pub returns : goal.returns
returns c = c.loop-number.invariant ∙ take_all c.loop-number.number-index c.args.numbers.now c.loop-number-test.false
