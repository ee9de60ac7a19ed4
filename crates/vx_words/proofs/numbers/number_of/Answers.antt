use Rattle.std.proofs.Common.{sym}
use Rattle.vx_words.proofs.Numerals.{read, unread}
use Rattle.vx_words.proofs.numbers.number_of.Goals as goal

pub returns-then-number-most-clause-number : goal.returns-then-number-most-clause-number
returns-then-number-most-clause-number c =
    read c.args.least c.args.most c.args.text.now (sym c.if-has_plus.ensures) c.in-Ok.number c.in-Ok.ensures.value.0 c.if-least-number.true c.if-number-most.true

pub returns-in-Err-clause-number : goal.returns-in-Err-clause-number
returns-in-Err-clause-number c = unread c.args.least c.args.most c.args.text.now (sym c.if-has_plus.ensures) c.ranges.most.fits c.in-Err.field-0 c.in-Err.ensures.value.0
