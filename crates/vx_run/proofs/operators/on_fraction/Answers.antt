use Rattle.std.proofs.Common.{sym, ◌∙◌, ap}
use Rattle.vx_frac.specs.Fraction.{fraction}
use Rattle.vx_meaning.specs.Values.{IntValue, BoolValue, RefValue, PermValue}
use Rattle.vx_resolved.specs.Resolved.{operator}
use Rattle.vx_run.specs.Widths.{operate, within_128_bits}
use Rattle.vx_run.specs.Views.{value}
use Rattle.vx_run.specs.declared.values.Value.{Value}
use Rattle.vx_run.proofs.Asked.{equality_is}
use Rattle.vx_run.proofs.operators.on_fraction.Goals as goal

pub returns-in-Int : goal.returns-in-Int
returns-in-Int c =
    c.equality.ensures ∙ equality_is c.args.at (operator c.args.op) (PermValue (fraction c.args.a)) (IntValue c.in-Int.field-0) tt
    ∙ ap (λ (w : Value). operate within_128_bits c.args.at (operator c.args.op) (PermValue (fraction c.args.a)) (value w)) (sym c.in-Int.is)

pub returns-in-Bool : goal.returns-in-Bool
returns-in-Bool c =
    c.equality-in-Bool.ensures ∙ equality_is c.args.at (operator c.args.op) (PermValue (fraction c.args.a)) (BoolValue c.in-Bool.field-0) tt
    ∙ ap (λ (w : Value). operate within_128_bits c.args.at (operator c.args.op) (PermValue (fraction c.args.a)) (value w)) (sym c.in-Bool.is)

pub returns-in-Ref : goal.returns-in-Ref
returns-in-Ref c =
    c.equality-in-Ref.ensures ∙ equality_is c.args.at (operator c.args.op) (PermValue (fraction c.args.a)) (RefValue c.in-Ref.field-0) tt
    ∙ ap (λ (w : Value). operate within_128_bits c.args.at (operator c.args.op) (PermValue (fraction c.args.a)) (value w)) (sym c.in-Ref.is)
