-- A call of small fractions fits in 128 bits.
use Rattle.std.proofs.Common.{◌≡◌, ℕ, suc, ◌-◌, ◌*◌, ◌<◌, ◌≤◌, ◌^◌, ℤ, pos, negsuc, ◌+ℤ◌, ◌*ℤ◌, Bool, true, false, ◌||◌, refl, sym, subst, arith}
use Rattle.std.specs.Prelude.{neg_ℤ, nat_abs, nat_le, if◌then◌else◌}
use Rattle.std.proofs.lemmas.Int.{ints, unsigned_abs-mul}
use Rattle.std.proofs.lemmas.Bool.{lt-ltb, or_parts}
use Rattle.std.proofs.lemmas.Nat.{mul-le}
use Rattle.vx_frac.specs.Fractions.{Fraction, denominator, minus, sum, fits_i128, cross_fits, sum_fits, difference_fits, product_fits}
use Rattle.vx_frac.specs.declared.Op.{Op}
use Rattle.vx_frac.specs.declared.Op.TheVariants as calls
use Rattle.vx_frac.proofs.Fits.{both_true}
use Rattle.cs_meter.specs.Calls.{quotient_fits, call_fits, is_large, OverIsOfLargeNumbers}

no_both : (b : Bool) → b ≡ true → b ≡ false → ⊥
no_both true e f = absurd (cc)
no_both false e f = absurd (cc)

-- a number that is below 2^126 in size, and fits
record IsBelow (z : ℤ) : Type 0 where
  size : nat_abs z < 2 ^ 126

within : (z : ℤ) → nat_abs z < 2 ^ 127 → fits_i128 z ≡ true
within (pos n) h = lt-ltb n (2 ^ 127) h
within (negsuc n) h = lt-ltb n (2 ^ 127) (omega (arith, h))

fits : {z : ℤ} → IsBelow z → fits_i128 z ≡ true
fits {z} b = let h = b.size in within z (omega (arith, h))

plus_fits : {y z : ℤ} → IsBelow y → IsBelow z → fits_i128 (y +ℤ z) ≡ true
plus_fits {y} {z} b d = let h = b.size in let k = d.size in within (y +ℤ z) (omega (arith, ints, h, k))

size_neg : (z : ℤ) → nat_abs (neg_ℤ z) ≡ nat_abs z
size_neg z = omega (arith, ints)

turned_fits : {z : ℤ} → IsBelow z → fits_i128 (neg_ℤ z) ≡ true
turned_fits {z} b = fits {z = neg_ℤ z} record { size = subst (λ n. n < 2 ^ 126) (sym (size_neg z)) b.size }

product_below : (m n : ℕ) → m < 2 ^ 63 → n < 2 ^ 63 → m * n < 2 ^ 126
product_below m n h k =
    let le : m * n ≤ (2 ^ 63 - 1) * (2 ^ 63 - 1) = mul-le m n (2 ^ 63 - 1) (2 ^ 63 - 1) (omega (arith, h)) (omega (arith, k)) in
    omega (arith, le)

times : (y z : ℤ) → nat_abs y < 2 ^ 63 → nat_abs z < 2 ^ 63 → IsBelow (y *ℤ z)
times y z h k = record { size = subst (λ n. n < 2 ^ 126) (sym (unsigned_abs-mul y z)) (product_below (nat_abs y) (nat_abs z) h k) }

-- a fraction whose numbers are both below 2^63 in size
record IsSmall (a : Fraction) : Type 0 where
  above : nat_abs a.numerator < 2 ^ 63
  below : nat_abs (denominator a) < 2 ^ 63

-- one's numerator by the other one's denominator, and both denominators
across : (a b : Fraction) → IsSmall a → IsSmall b → IsBelow (a.numerator *ℤ denominator b)
across a b p q = times a.numerator (denominator b) p.above q.below

under : (a b : Fraction) → IsSmall a → IsSmall b → fits_i128 (denominator a *ℤ denominator b) ≡ true
under a b p q = fits (times (denominator a) (denominator b) p.below q.below)

crossed : (a b : Fraction) → IsSmall a → IsSmall b → cross_fits a b ≡ true
crossed a b p q = both_true _ _ (fits (across a b p q)) (fits (across b a q p))

small_minus : (a : Fraction) → IsSmall a → IsSmall (minus a)
small_minus a p = record { above = subst (λ n. n < 2 ^ 63) (sym (size_neg a.numerator)) p.above; below = p.below }

summed : (a b : Fraction) → IsSmall a → IsSmall b → fits_i128 (sum a b).numerator ≡ true
summed a b p q = plus_fits (across a b p q) (across b a q p)

sum_small : (a b : Fraction) → IsSmall a → IsSmall b → sum_fits a b ≡ true
sum_small a b p q = both_true _ _ (crossed a b p q) (both_true _ _ (summed a b p q) (under a b p q))

difference_small : (a b : Fraction) → IsSmall a → IsSmall b → difference_fits a b ≡ true
difference_small a b p q = both_true _ _ (crossed a b p q) (both_true _ _ (summed a (minus b) p (small_minus b q)) (under a b p q))

product_small : (a b : Fraction) → IsSmall a → IsSmall b → product_fits a b ≡ true
product_small a b p q = both_true _ _ (fits (times a.numerator b.numerator p.above q.above)) (under a b p q)

if_true : (c b : Bool) → b ≡ true → (if c then b else true) ≡ true
if_true true b e = e
if_true false b e = refl

quotient_small : (a b : Fraction) → IsSmall a → IsSmall b → quotient_fits a b ≡ true
quotient_small a b p q = both_true _ _ (crossed a b p q) (if_true _ _ (both_true _ _ (turned_fits (across a b p q)) (turned_fits (across b a q p))))

call_small : (op : Op) (a b : Fraction) → IsSmall a → IsSmall b → call_fits op a b ≡ true
call_small calls.Add a b p q = sum_small a b p q
call_small calls.Sub a b p q = difference_small a b p q
call_small calls.Mul a b p q = product_small a b p q
call_small calls.Cmp a b p q = crossed a b p q
call_small calls.Div a b p q = quotient_small a b p q

-- what isn't large is small
size_below : (n : ℕ) → nat_le (2 ^ 63) n ≡ false → n < 2 ^ 63
size_below n e = grind arith

small : (a : Fraction) → is_large a ≡ false → IsSmall a
small a e = let n = or_parts (nat_le (2 ^ 63) (nat_abs a.numerator)) (nat_le (2 ^ 63) (suc a.below)) e in
    record { above = size_below _ n.0; below = size_below _ n.1 }

one_large : (op : Op) (a b : Fraction) → call_fits op a b ≡ false → (l : Bool) → (is_large a || is_large b) ≡ l → l ≡ true
one_large op a b e true h = refl
one_large op a b e false h = let n = or_parts (is_large a) (is_large b) h in absurd (no_both _ (call_small op a b (small a n.0) (small b n.1)) e)

pub over_is_of_large_numbers : OverIsOfLargeNumbers
over_is_of_large_numbers op a b e = one_large op a b e _ refl
