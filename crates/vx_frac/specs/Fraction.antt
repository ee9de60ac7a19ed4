-- The fraction that a `Frac` stands for.
use Rattle.std.specs.Prelude.{◌-◌, ℤ, ◌*ℤ◌, FitsSigned, unsigned_abs}
use Rattle.std.specs.Int.{w128}
use Rattle.vx_frac.specs.declared.Frac.{Frac}
use Rattle.vx_frac.specs.Fractions.{Fraction, denominator}

-- a numerator over a denominator above 0
abbrev pub ratio : ℤ → ℤ → Fraction
ratio num den = record { numerator = num; below = unsigned_abs den - 1 }

abbrev pub fraction : Frac → Fraction
fraction f = ratio f.num f.den

abbrev pub Fits : ℤ → Type 0
Fits z = FitsSigned w128 z

-- two numerators over one denominator
abbrev pub CommonFits : Fraction → Fraction → Type 0
CommonFits a b = Fits (a.numerator *ℤ denominator b) × Fits (b.numerator *ℤ denominator a) × Fits (denominator a *ℤ denominator b)
