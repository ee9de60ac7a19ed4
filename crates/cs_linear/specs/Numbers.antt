-- Sums and products of fractions, in lowest terms.
use Rattle.std.specs.Prelude.{neg_ℤ, IsTrue}
use Rattle.vx_frac.specs.Fractions.{Fraction, lowest, sum, product, sum_fits, difference_fits, product_fits, cross_fits, fits_i128}
use Rattle.vx_frac.specs.Fraction.{fraction}
use Rattle.vx_frac.specs.declared.Op.{Op}
use Rattle.vx_frac.specs.declared.Op.TheVariants as calls
use Rattle.cs_linear.specs.declared.numbers.Stop.{Stop}
use Rattle.cs_linear.specs.declared.numbers.Stop.TheVariants as stops

unfoldable pub plus : Fraction → Fraction → Fraction
plus a b = lowest (sum a b)

unfoldable pub times : Fraction → Fraction → Fraction
times a b = lowest (product a b)

-- a number of this call leaves 128 bits; a division is one by b
abbrev pub Leaves : Op → Fraction → Fraction → Type 0
Leaves calls.Add a b = ¬ (IsTrue (sum_fits a b))
Leaves calls.Sub a b = ¬ (IsTrue (difference_fits a b))
Leaves calls.Mul a b = ¬ (IsTrue (product_fits a b))
Leaves calls.Cmp a b = ¬ (IsTrue (cross_fits a b))
Leaves calls.Div a b = ¬ (IsTrue (fits_i128 (neg_ℤ b.numerator)))

-- what an early end says
abbrev pub IsCause : Stop → Type 0
IsCause (stops.Over o) = Leaves o.op (fraction o.a) (fraction o.b)
IsCause stops.Want = Unit {0}
