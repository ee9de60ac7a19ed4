use Rattle.std.proofs.Common.{ℤ, FitsSigned, refl, sym, ◌∙◌, ap, subst}
use Rattle.std.specs.Int.{w128}
use Rattle.vx_frac.specs.Fraction.{fraction}
use Rattle.vx_frac.specs.Fractions.{lowest}
use Rattle.vx_frac.proofs.Fits.{product_written, product_ratio, product_does}
use Rattle.vx_frac.proofs.Frac.mul.Goals as goal

pub returns-in-Some-denominators-clause-value : goal.returns-in-Some-denominators-clause-value
returns-in-Some-denominators-clause-value c =
    let s = c.in-Some.ensures in
    let d = c.in-Some-denominators.ensures.value in
    let l : FitsSigned w128 c.num.result = record { sfits = c.num.type_inv } in
    let r : FitsSigned w128 c.num-2.result = record { sfits = c.num-2.type_inv } in
    let fits : FitsSigned w128 c.in-Some.num = subst (λ (z : ℤ). FitsSigned w128 z) (sym s.1) s.0 in
    c.new.ensures
    ∙ ap lowest
    (product_ratio (fraction c.args.self) (fraction c.args.other) _ c.in-Some.num c.in-Some-denominators.den
    (s.1 ∙ product_written _ _ _ _ l r c.num.ensures c.num-2.ensures) d.1 fits d.0)

pub returns-in-Some-denominators-clause-fits : goal.returns-in-Some-denominators-clause-fits
returns-in-Some-denominators-clause-fits c =
    let l : FitsSigned w128 c.num.result = record { sfits = c.num.type_inv } in
    let r : FitsSigned w128 c.num-2.result = record { sfits = c.num-2.type_inv } in (
      λ e.
          product_does (fraction c.args.self) (fraction c.args.other) _ _ l r c.num.ensures c.num-2.ensures c.in-Some.ensures.0
          c.in-Some-denominators.ensures.value.0,
      λ h. refl,
    )
