use Rattle.std.proofs.Common.{rules, ◌≡◌, ◌∙◌, ◌*ℤ◌, ℤ, pos, true, Bool, subst, sym, FitsSigned}
use Rattle.std.specs.Prelude.{◌↔◌, IsSome, IsTrue, int_lt}
use Rattle.std.specs.Int.{w128}
use Rattle.std.proofs.lemmas.Int.{to_z-of_z}
use Rattle.vx_frac.specs.Fraction.{fraction}
use Rattle.vx_frac.specs.Fractions.{denominator}
use Rattle.cs_meter.proofs.Quotients.{turned_fits}
use Rattle.cs_meter.proofs.calls.quotient.Goals as goal

pub returns-then-num-lt0 : goal.returns-then-num-lt0
returns-then-num-lt0 c =
    let a = fraction c.args.a in
    let b = fraction c.args.b in
    let num : c.in_ok-num.num ≡ a.numerator *ℤ denominator b = search rules in
    let den : c.in_ok-den.den ≡ b.numerator *ℤ denominator a = search rules in
    let num_fits : FitsSigned w128 c.in_ok-num.num = search rules in
    let den_fits : FitsSigned w128 c.in_ok-den.den = search rules in
    let below : int_lt b.numerator (pos 0) ≡ true = search rules in
    let fits : ℤ → Type 0 = FitsSigned w128 in
    let num_is = to_z-of_z w128 c.in_ok-num.num num_fits in
    let den_is = to_z-of_z w128 c.in_ok-den.den den_fits in
    subst (λ (t : Bool). IsSome c.turned.result ↔ IsTrue t)
    (turned_fits a b _ _ (num_is ∙ num) (den_is ∙ den) (subst fits (sym num_is) num_fits) (subst fits (sym den_is) den_fits) below) c.turned.ensures
