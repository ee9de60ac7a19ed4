use Rattle.std.proofs.Common.{◌≡◌, ℤ, ◌*ℤ◌, FitsSigned, refl, sym, ◌∙◌, ap, subst}
use Rattle.std.specs.Int.{w128}
use Rattle.vx_frac.specs.declared.Common.{Common}
use Rattle.vx_frac.specs.Fraction.{fraction, CommonFits}
use Rattle.vx_frac.specs.Fractions.{Fraction, denominator, lowest}
use Rattle.vx_frac.proofs.Fits.{IsCommon, difference_does, difference_not, difference_written, common_ratio}
use Rattle.vx_frac.proofs.Frac.sub.Goals as goal

parts : (a b : Fraction) (c : Common) → CommonFits a b → c ≡ record { left = a.numerator *ℤ denominator b; right = b.numerator *ℤ denominator a; den = denominator a *ℤ denominator b } → IsCommon a b c.left c.right c.den
parts a b c f e = record { fits = f; left = ap (λ (x : Common). x.left) e; right = ap (λ (x : Common). x.right) e; below = ap (λ (x : Common). x.den) e }

pub returns-in-Some-checked_sub-clause-value : goal.returns-in-Some-checked_sub-clause-value
returns-in-Some-checked_sub-clause-value c =
    let v = c.in-Some.ensures.value in
    let s = c.in-Some-checked_sub.ensures in
    let p = parts (fraction c.args.self) (fraction c.args.other) c.in-Some.common v.0 v.1 in
    let fits : FitsSigned w128 c.in-Some-checked_sub.difference = subst (λ (z : ℤ). FitsSigned w128 z) (sym s.1) s.0 in
    c.new.ensures
    ∙ ap lowest
    (common_ratio (fraction c.args.self) (fraction c.args.other) _ c.in-Some-checked_sub.difference c.in-Some.common.den v.0
    (s.1 ∙ difference_written (fraction c.args.self) (fraction c.args.other) _ _ _ p) p.below fits)

pub returns-in-Some-checked_sub-clause-fits : goal.returns-in-Some-checked_sub-clause-fits
returns-in-Some-checked_sub-clause-fits c =
    let v = c.in-Some.ensures.value in
    let s = c.in-Some-checked_sub.ensures in
    (λ e. difference_does _ _ _ _ _ (parts (fraction c.args.self) (fraction c.args.other) c.in-Some.common v.0 v.1) s.0, λ h. refl)

pub returns-in_default-checked_sub-clause-fits : goal.returns-in_default-checked_sub-clause-fits
returns-in_default-checked_sub-clause-fits c =
    let v = c.in-Some.ensures.value in
    (λ e. absurd (cc), λ h. absurd (difference_not _ _ _ _ _ (parts (fraction c.args.self) (fraction c.args.other) c.in-Some.common v.0 v.1) c.in_default-checked_sub.ensures h))
