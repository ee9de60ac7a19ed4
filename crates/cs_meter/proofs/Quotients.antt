-- What a quotient meets where its divisor is below 0.
use Rattle.std.proofs.Common.{◌≡◌, ℤ, pos, ◌*ℤ◌, true, sym, ◌∙◌, ap₂, subst, Bool, ◌&&◌}
use Rattle.std.specs.Prelude.{neg_ℤ, int_lt, FitsSigned, if◌then◌else◌}
use Rattle.std.specs.Int.{w128}
use Rattle.vx_frac.specs.Fractions.{Fraction, denominator, fits_i128, cross_fits}
use Rattle.vx_frac.proofs.Fits.{fits_from, both_true}
use Rattle.cs_meter.specs.Calls.{quotient_fits}

at_true : (s t u : Bool) → s ≡ true → t ≡ true → (s && (if t then u else true)) ≡ u
at_true s t u e f = ap₂ (λ (s t : Bool). s && (if t then u else true)) e f

pub turned_fits : (a b : Fraction) (num den : ℤ) → num ≡ a.numerator *ℤ denominator b → den ≡ b.numerator *ℤ denominator a →
    FitsSigned w128 num → FitsSigned w128 den → int_lt b.numerator (pos 0) ≡ true → (fits_i128 (neg_ℤ num) && fits_i128 (neg_ℤ den)) ≡ quotient_fits a b
turned_fits a b num den en ed fn fd below =
    let fit : ℤ → Type 0 = λ z. fits_i128 z ≡ true in
    ap₂ (λ (x y : ℤ). fits_i128 (neg_ℤ x) && fits_i128 (neg_ℤ y)) en ed
    ∙ sym (at_true (cross_fits a b) (int_lt b.numerator (pos 0)) _ (both_true _ _ (subst fit en (fits_from num fn)) (subst fit ed (fits_from den fd))) below)
