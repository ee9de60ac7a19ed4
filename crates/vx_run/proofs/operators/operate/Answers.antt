use Rattle.std.proofs.Common.{sym, ◌∙◌, ap}
use Rattle.vx_meaning.specs.Values.{BoolValue, RefValue}
use Rattle.vx_resolved.specs.Resolved.{operator}
use Rattle.vx_run.specs.Widths.{operate, within_128_bits}
use Rattle.vx_run.specs.Views.{value, only_equality}
use Rattle.vx_run.specs.declared.values.Value.{Value}
use Rattle.vx_run.proofs.Asked.{equality_is}
use Rattle.vx_run.proofs.operators.operate.Goals as goal

pub returns-in-Bool : goal.returns-in-Bool
returns-in-Bool c =
    c.equality.ensures ∙ ap (only_equality c.args.at (operator c.args.op)) c.is_truth.ensures
    ∙ equality_is c.args.at (operator c.args.op) (BoolValue c.in-Bool.a) (value c.args.w) tt
    ∙ ap (λ (v : Value). operate within_128_bits c.args.at (operator c.args.op) (value v) (value c.args.w)) (sym c.in-Bool.is)

pub returns-in-Ref : goal.returns-in-Ref
returns-in-Ref c =
    c.equality-in-Ref.ensures ∙ ap (only_equality c.args.at (operator c.args.op)) c.is_reference.ensures
    ∙ equality_is c.args.at (operator c.args.op) (RefValue c.in-Ref.a) (value c.args.w) tt
    ∙ ap (λ (v : Value). operate within_128_bits c.args.at (operator c.args.op) (value v) (value c.args.w)) (sym c.in-Ref.is)
