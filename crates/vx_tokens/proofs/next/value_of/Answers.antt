use Rattle.vx_tokens.proofs.Digits.{too_wide}
use Rattle.vx_tokens.proofs.next.value_of.Goals as goal

pub returns-then-value-digit : goal.returns-then-value-digit
returns-then-value-digit c = too_wide c.loop-digit.value c.loop-digit.digit-index c.args.digits.now _ c.loop-digit-test.true c.if-value-digit.true c.loop-digit.invariant.small c.loop-digit.invariant.rest
