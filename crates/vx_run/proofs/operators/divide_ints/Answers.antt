use Rattle.std.proofs.Common.{◌≡◌, ℤ, pos, of_z, sym, ◌∙◌, ap, ap₂}
use Rattle.std.proofs.lemmas.Int.{to_z-of_z}
use Rattle.std.specs.Int.{w128, int_div_euclid}
use Rattle.vx_frac.specs.Fractions.{fits_i128}
use Rattle.vx_meaning.specs.Values.{IntValue}
use Rattle.vx_resolved.specs.declared.Division.{Division}
use Rattle.vx_resolved.specs.Resolved.{division}
use Rattle.vx_run.specs.Widths.{divide, within_128_bits}
use Rattle.vx_run.specs.Views.{quotient}
use Rattle.vx_run.proofs.Asked.{quotient_is}
use Rattle.vx_run.proofs.operators.divide_ints.Goals as goal

pub returns-in-Quotient : goal.returns-in-Quotient
returns-in-Quotient c =
    c.quotient.ensures
    ∙ ap₂ (λ (x y : ℤ). quotient c.args.at x y (fits_i128 (int_div_euclid x y))) (to_z-of_z w128 c.args.a c.ranges.a) (to_z-of_z w128 c.args.b c.ranges.b)
    ∙ quotient_is c.args.at c.args.a c.args.b (λ (e : c.args.b ≡ pos 0). c.if-b-eq0.false (ap (of_z w128) e))
    ∙ ap (λ (o : Division). divide within_128_bits c.args.at (division o) (IntValue c.args.a) (IntValue c.args.b)) (sym c.in-Quotient.is)
