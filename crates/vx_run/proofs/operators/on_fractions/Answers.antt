use Rattle.std.proofs.Common.{sym, ◌∙◌, ap}
use Rattle.vx_frac.specs.declared.Op.TheVariants as calls
use Rattle.vx_frac.specs.Fraction.{fraction}
use Rattle.vx_meaning.specs.Values.{PermValue}
use Rattle.vx_resolved.specs.declared.Operator.{Operator}
use Rattle.vx_resolved.specs.Resolved.{operator}
use Rattle.vx_run.specs.Widths.{operate, within_128_bits}
use Rattle.vx_run.proofs.Asked.{computed_is}
use Rattle.vx_run.proofs.operators.on_fractions.Goals as goal

pub returns-in-Add : goal.returns-in-Add
returns-in-Add c =
    c.amount.ensures
    ∙ computed_is c.args.at calls.Add c.args.a c.args.b PermValue _ _ record { value = c.add.ensures.value; over = c.add.ensures.over; fits = c.add.ensures.fits }
    ∙ ap (λ (o : Operator). operate within_128_bits c.args.at (operator o) (PermValue (fraction c.args.a)) (PermValue (fraction c.args.b))) (sym c.in-Add.is)

pub returns-in-Subtract : goal.returns-in-Subtract
returns-in-Subtract c =
    c.amount-in-Subtract.ensures
    ∙ computed_is c.args.at calls.Sub c.args.a c.args.b PermValue _ _ record { value = c.sub.ensures.value; over = c.sub.ensures.over; fits = c.sub.ensures.fits }
    ∙ ap (λ (o : Operator). operate within_128_bits c.args.at (operator o) (PermValue (fraction c.args.a)) (PermValue (fraction c.args.b))) (sym c.in-Subtract.is)

pub returns-in-Multiply : goal.returns-in-Multiply
returns-in-Multiply c =
    c.amount-in-Multiply.ensures
    ∙ computed_is c.args.at calls.Mul c.args.a c.args.b PermValue _ _ record { value = c.mul.ensures.value; over = c.mul.ensures.over; fits = c.mul.ensures.fits }
    ∙ ap (λ (o : Operator). operate within_128_bits c.args.at (operator o) (PermValue (fraction c.args.a)) (PermValue (fraction c.args.b))) (sym c.in-Multiply.is)
