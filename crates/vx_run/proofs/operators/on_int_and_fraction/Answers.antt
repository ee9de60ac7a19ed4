use Rattle.std.proofs.Common.{sym, ◌∙◌, ap}
use Rattle.std.proofs.lemmas.Int.{to_z-of_z}
use Rattle.std.specs.Int.{w128}
use Rattle.vx_frac.specs.declared.Op.TheVariants as calls
use Rattle.vx_frac.specs.Fraction.{fraction}
use Rattle.vx_frac.specs.Fractions.{Fraction, whole, lowest, product}
use Rattle.vx_meaning.specs.Values.{IntValue, PermValue}
use Rattle.vx_resolved.specs.declared.Operator.{Operator}
use Rattle.vx_resolved.specs.Resolved.{operator}
use Rattle.vx_run.specs.Widths.{operate, within_128_bits}
use Rattle.vx_run.proofs.Asked.{computed_is, operation}
use Rattle.vx_run.proofs.operators.on_int_and_fraction.Goals as goal

pub returns-in-Multiply : goal.returns-in-Multiply
returns-in-Multiply c =
    c.amount.ensures
    ∙ computed_is c.args.at calls.Mul c.whole.result c.args.b PermValue _ _ record { value = c.mul.ensures.value; over = c.mul.ensures.over; fits = c.mul.ensures.fits }
    ∙ ap (λ (q : Fraction). operation c.args.at calls.Mul q (fraction c.args.b) (PermValue (lowest (product q (fraction c.args.b))))) (c.whole.ensures ∙ ap whole (to_z-of_z w128 c.args.a c.ranges.a))
    ∙ ap (λ (o : Operator). operate within_128_bits c.args.at (operator o) (IntValue c.args.a) (PermValue (fraction c.args.b))) (sym c.in-Multiply.is)
