use Rattle.std.proofs.Common.{◌∙◌, ap, ap₂, sym, refl, inr}
use Rattle.vx_frac.specs.Fractions.{Fraction}
use Rattle.vx_frac.specs.Fraction.{fraction}
use Rattle.cs_linear.specs.Numbers.{plus, times}
use Rattle.cs_linear.specs.Rows.{factor_at}
use Rattle.cs_linear.specs.Values.{value}
use Rattle.cs_linear.proofs.Lists.{read_as}
use Rattle.cs_linear.proofs.values.follow.Goals as goal

pub returns-in_ok-push-in-Some-clause-value : goal.returns-in_ok-push-in-Some-clause-value
returns-in_ok-push-in-Some-clause-value c =
    let r = c.args.row.now in
    let factor = c.in-Some.ensures.some ∙ ap (λ es. factor_at es c.args.column) c.deref.ensures.value in
    let at = ap value (read_as c.args.values.now r.basic c.index-values-row.result c.requires.known c.index-values-row.is) in
    inr (
      record { column = r.basic; value = c.in_ok-value-in-Some.value },
      c.in_ok-push-in-Some.ensures.items,
      refl,
      c.in_ok-value-in-Some.ensures.value ∙ ap₂ (λ (v f : Fraction). plus v (times f (fraction c.args.by))) (sym at) factor,
    )
