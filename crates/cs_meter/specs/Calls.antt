-- Which calls of fractions leave 128 bits.
use Rattle.std.specs.Prelude.{◌≡◌, suc, ◌^◌, nat_le, nat_abs, pos, ◌*ℤ◌, neg_ℤ, int_lt, Bool, true, false, ◌&&◌, ◌||◌, if◌then◌else◌}
use Rattle.vx_frac.specs.Fractions.{Fraction, denominator, fits_i128, sum_fits, difference_fits, product_fits, cross_fits}
use Rattle.vx_frac.specs.declared.Op.{Op}
use Rattle.vx_frac.specs.declared.Op.TheVariants as calls

-- a quotient is met as a comparison is, and where its divisor is below 0 both products turn their signs
abbrev pub quotient_fits : Fraction → Fraction → Bool
quotient_fits a b =
    cross_fits a b && (if int_lt b.numerator (pos 0) then fits_i128 (neg_ℤ (a.numerator *ℤ denominator b)) && fits_i128 (neg_ℤ (b.numerator *ℤ denominator a)) else true)

-- all numbers of a call fit in 128 bits
abbrev pub call_fits : Op → Fraction → Fraction → Bool
call_fits calls.Add a b = sum_fits a b
call_fits calls.Sub a b = difference_fits a b
call_fits calls.Mul a b = product_fits a b
call_fits calls.Cmp a b = cross_fits a b
call_fits calls.Div a b = quotient_fits a b

-- a numerator or a denominator is at least 2^63 in size
abbrev pub is_large : Fraction → Bool
is_large a = nat_le (2 ^ 63) (nat_abs a.numerator) || nat_le (2 ^ 63) (suc a.below)

-- where a call leaves 128 bits, one of its fractions is large
abbrev pub OverIsOfLargeNumbers : Type 0
OverIsOfLargeNumbers = (op : Op) (a b : Fraction) → call_fits op a b ≡ false → (is_large a || is_large b) ≡ true
