use Rattle.std.proofs.Common.{sym, ◌∙◌, ap}
use Rattle.std.proofs.lemmas.Int.{to_z-of_z}
use Rattle.std.specs.Int.{w128}
use Rattle.vx_frac.specs.declared.Op.TheVariants as calls
use Rattle.vx_frac.specs.Fractions.{whole, sum, difference, product}
use Rattle.vx_meaning.specs.Values.{IntValue}
use Rattle.vx_resolved.specs.declared.Operator.{Operator}
use Rattle.vx_resolved.specs.Resolved.{operator}
use Rattle.vx_run.specs.Widths.{operate, within_128_bits}
use Rattle.vx_run.proofs.Asked.{on_whole, whole_sum, whole_difference, whole_product}
use Rattle.vx_run.proofs.operators.on_ints.Goals as goal

pub returns-in-Add : goal.returns-in-Add
returns-in-Add c =
    c.number.ensures
    ∙ on_whole c.args.at calls.Add c.args.a c.args.b _ sum c.whole.result c.whole-in-Add.result _
    (c.whole.ensures ∙ ap whole (to_z-of_z w128 c.args.a c.ranges.a)) (c.whole-in-Add.ensures ∙ ap whole (to_z-of_z w128 c.args.b c.ranges.b)) (whole_sum c.args.a c.args.b)
    record { value = c.add.ensures.value; over = c.add.ensures.over; fits = c.add.ensures.fits }
    ∙ ap (λ (o : Operator). operate within_128_bits c.args.at (operator o) (IntValue c.args.a) (IntValue c.args.b)) (sym c.in-Add.is)

pub returns-in-Subtract : goal.returns-in-Subtract
returns-in-Subtract c =
    c.number-in-Subtract.ensures
    ∙ on_whole c.args.at calls.Sub c.args.a c.args.b _ difference c.whole-in-Subtract.result c.whole-in-Subtract-2.result _
    (c.whole-in-Subtract.ensures ∙ ap whole (to_z-of_z w128 c.args.a c.ranges.a)) (c.whole-in-Subtract-2.ensures ∙ ap whole (to_z-of_z w128 c.args.b c.ranges.b)) (whole_difference c.args.a c.args.b)
    record { value = c.sub.ensures.value; over = c.sub.ensures.over; fits = c.sub.ensures.fits }
    ∙ ap (λ (o : Operator). operate within_128_bits c.args.at (operator o) (IntValue c.args.a) (IntValue c.args.b)) (sym c.in-Subtract.is)

pub returns-in-Multiply : goal.returns-in-Multiply
returns-in-Multiply c =
    c.number-in-Multiply.ensures
    ∙ on_whole c.args.at calls.Mul c.args.a c.args.b _ product c.whole-in-Multiply.result c.whole-in-Multiply-2.result _
    (c.whole-in-Multiply.ensures ∙ ap whole (to_z-of_z w128 c.args.a c.ranges.a)) (c.whole-in-Multiply-2.ensures ∙ ap whole (to_z-of_z w128 c.args.b c.ranges.b)) (whole_product c.args.a c.args.b)
    record { value = c.mul.ensures.value; over = c.mul.ensures.over; fits = c.mul.ensures.fits }
    ∙ ap (λ (o : Operator). operate within_128_bits c.args.at (operator o) (IntValue c.args.a) (IntValue c.args.b)) (sym c.in-Multiply.is)
