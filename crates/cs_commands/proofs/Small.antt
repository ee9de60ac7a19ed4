-- Literals that are read are small: their numbers stay below 2^127. Those without a minus are at least 0.
use Rattle.std.proofs.Common.{◌≡◌, ℕ, zero, suc, ◌<◌, ◌≤◌, ◌+◌, ◌-◌, ◌*◌, ◌/◌, ◌^◌, ◌&&◌, nat_eq, nat_lt, Bool, true, false, ℤ, pos, negsuc, List, [], ◌∷◌, Option, Some, None, length, refl, arith, ap, ap₂, ◌∙◌, sym, subst}
use Rattle.std.specs.Prelude.{if◌then◌else◌, nat_abs, neg_ℤ, ◌*ℤ◌, ◌+ℤ◌}
use Rattle.std.specs.Option.{option_and_then}
use Rattle.std.proofs.lemmas.Bool.{ltb-true}
use Rattle.std.proofs.Math.Nat.{mul-le-mul_left, le_of_mul-le-mul_right}
use Rattle.std.proofs.lemmas.Option.{same_Some}
use Rattle.vx_frac.specs.Fractions.{Fraction, denominator, lowest, first_where, makes_whole, least_denominator, with_sign, sum, product, cross_fits, sum_fits, product_fits, fits_i128}
use Rattle.vx_frac.specs.Fraction.{ratio}
use Rattle.vx_frac.proofs.Fits.{each_true}
use Rattle.vx_frac.proofs.Lowest.{above, exact, found}
use Rattle.vx_frac.proofs.Sums.{common_is}
use Rattle.vx_sexp.specs.Characters.{is_digit}
use Rattle.vx_sexp.specs.Tokens.{before_point, behind_point}
use Rattle.cs_reader.specs.Items.{◌>>=◌}
use Rattle.cs_reader.specs.Marks.{numeral}
use Rattle.cs_reader.specs.Spelling.{over, inverse_of, multiplied, summed, led_by, part_after, decimal}
use Rattle.cs_commands.specs.Names.{with_digit, digits, number_below}
use Rattle.cs_commands.proofs.Passed.{not_some}

-- ---- numerals: a number that is read is below its limit

digit_below : (limit a d m : ℕ) → with_digit limit a d ≡ Some m → m < limit
digit_below limit a d m e = go (is_digit d) (nat_lt (a * 10 + (d - 48)) limit) refl e
  where
    go : (b c : Bool) → nat_lt (a * 10 + (d - 48)) limit ≡ c → (if b && c then Some (a * 10 + (d - 48)) else None) ≡ Some m → m < limit
    go true true f g = subst (λ n. n < limit) (same_Some _ _ g) (ltb-true (a * 10 + (d - 48)) limit f)
    go true false f g = not_some g
    go false c f g = not_some g

digits_below : (limit a : ℕ) (ds : List ℕ) (n : ℕ) → a < limit → digits limit a ds ≡ Some n → n < limit
digits_below limit a [] n h e = subst (λ m. m < limit) (same_Some _ _ e) h
digits_below limit a (d ∷ ds) n h e = go (with_digit limit a d) refl (λ m k f. digits_below limit m ds n k f) e
  where
    go : (o : Option ℕ) → with_digit limit a d ≡ o → ((m : ℕ) → m < limit → digits limit m ds ≡ Some n → n < limit) → option_and_then (λ m. digits limit m ds) o ≡ Some n → n < limit
    go None f more g = not_some g
    go (Some m) f more g = more m (digit_below limit a d m f) g

pub number_small : (limit : ℕ) (x : List ℕ) (n : ℕ) → 0 < limit → number_below limit x ≡ Some n → n < limit
number_small limit [] n h e = not_some e
number_small limit (d ∷ ds) n h e = go (nat_eq d 48 && nat_lt 0 (length ds)) e
  where
    go : (b : Bool) → (if b then None else digits limit 0 (d ∷ ds)) ≡ Some n → n < limit
    go true g = not_some g
    go false g = digits_below limit 0 (d ∷ ds) n h g

pub abs_neg : (n : ℕ) → nat_abs (neg_ℤ (pos n)) ≡ n
abs_neg zero = refl
abs_neg (suc n) = refl

-- ---- lowest terms are no larger

before_end : (h : ℕ → Bool) (k d : ℕ) → first_where h k d ≤ k + d
before_end h zero d = omega arith
before_end h (suc k) d = go (before_end h k (suc d)) (h d)
  where
    go : first_where h k (suc d) ≤ k + suc d → (b : Bool) → (if b then d else first_where h k (suc d)) ≤ suc k + d
    go r true = omega arith
    go r false = omega arith

least_small : (a : Fraction) → least_denominator a ≤ suc a.below
least_small a = let end = before_end (makes_whole a) a.below 1 in omega arith

abs_signed : (z : ℤ) (n : ℕ) → nat_abs (with_sign z n) ≡ n
abs_signed (pos m) n = refl
abs_signed (negsuc m) n = abs_neg n

-- the size of the numerator times the least denominator, divided by the denominator
abbrev divided : Fraction → ℕ
divided a = (nat_abs a.numerator * least_denominator a) / suc a.below

divided_small : (a : Fraction) → divided a ≤ nat_abs a.numerator
divided_small a =
    let more = mul-le-mul_left (nat_abs a.numerator) (least_small a) in
    let is = exact (nat_abs a.numerator) (least_denominator a) (suc a.below) (found a) in
    le_of_mul-le-mul_right {k = suc a.below} (subst (λ n. n ≤ nat_abs a.numerator * suc a.below) (sym is) more) (omega arith)

below_top : (q n m : ℕ) → q ≤ n → n < m → q < m
below_top q n m h k = omega arith

one_back : (d b m : ℕ) → d ≤ suc b → 1 ≤ d → suc b < m → suc (d - 1) < m
one_back d b m h one k = omega arith

-- its numbers stay below 2^127
abbrev pub IsSmallFraction : Fraction → Type 0
IsSmallFraction a = (nat_abs a.numerator < 2 ^ 127) × (suc a.below < 2 ^ 127)

pub lowest_small : (a : Fraction) → IsSmallFraction a → IsSmallFraction (lowest a)
unfolding lowest
lowest_small a h =
    let size = below_top (divided a) (nat_abs a.numerator) (2 ^ 127) (divided_small a) h.0 in
    (subst (λ n. n < 2 ^ 127) (sym (abs_signed a.numerator (divided a))) size, one_back (least_denominator a) a.below (2 ^ 127) (least_small a) (above (makes_whole a) a.below 1) h.1)

-- ---- fractions that are at least 0

abbrev pub IsUnsigned : Fraction → Type 0
IsUnsigned a = (n : ℕ) × (a.numerator ≡ pos n)

lowest_unsigned : (a : Fraction) → IsUnsigned a → IsUnsigned (lowest a)
unfolding lowest
lowest_unsigned a u = (divided a, ap (λ z. with_sign z (divided a)) u.1)

over_unsigned : (n d : ℕ) → IsUnsigned (over (pos n) d)
over_unsigned n d = lowest_unsigned (ratio (pos n) (pos (suc d))) (n, refl)

fits_small : (z : ℤ) (n : ℕ) → z ≡ pos n → fits_i128 z ≡ true → nat_abs z < 2 ^ 127
fits_small z n is h = subst (λ y. nat_abs y < 2 ^ 127) (sym is) (ltb-true n (2 ^ 127) (ap fits_i128 (sym is) ∙ h))

common_small : (a b : Fraction) (c : ℕ) → suc c ≡ suc a.below * suc b.below → fits_i128 (denominator a *ℤ denominator b) ≡ true → suc c < 2 ^ 127
common_small a b c is h = subst (λ n. n < 2 ^ 127) (sym is) (ltb-true (suc a.below * suc b.below) (2 ^ 127) h)

-- what is read of such parts
abbrev pub IsRead : Fraction → Type 0
IsRead q = IsUnsigned q × IsSmallFraction q

in_lowest : (a : Fraction) → IsUnsigned a → IsSmallFraction a → IsRead (lowest a)
in_lowest a u s = (lowest_unsigned a u, lowest_small a s)

summed_is : (a b q : Fraction) → IsUnsigned a → IsUnsigned b → summed a b ≡ Some q → IsRead q
summed_is a b q u v e = go (sum_fits a b) refl e
  where
    total : (sum a b).numerator ≡ pos (u.0 * suc b.below + v.0 * suc a.below)
    total = ap₂ (λ y z. y *ℤ denominator b +ℤ z *ℤ denominator a) u.1 v.1

    go : (fits : Bool) → sum_fits a b ≡ fits → (if fits then Some (lowest (sum a b)) else None) ≡ Some q → IsRead q
    go true h e =
        let all = each_true (fits_i128 (sum a b).numerator) (fits_i128 (denominator a *ℤ denominator b)) (each_true (cross_fits a b) (fits_i128 (sum a b).numerator && fits_i128 (denominator a *ℤ denominator b)) h).1 in
        subst IsRead (same_Some _ _ e) (in_lowest (sum a b) (u.0 * suc b.below + v.0 * suc a.below, total) (fits_small (sum a b).numerator (u.0 * suc b.below + v.0 * suc a.below) total all.0, common_small a b (sum a b).below (common_is a b) all.1))
    go false h e = not_some e

pub multiplied_is : (a b q : Fraction) → IsUnsigned a → IsUnsigned b → multiplied a b ≡ Some q → IsRead q
multiplied_is a b q u v e = go (product_fits a b) refl e
  where
    total : (product a b).numerator ≡ pos (u.0 * v.0)
    total = ap₂ (λ y z. y *ℤ z) u.1 v.1

    go : (fits : Bool) → product_fits a b ≡ fits → (if fits then Some (lowest (product a b)) else None) ≡ Some q → IsRead q
    go true h e =
        let all = each_true (fits_i128 (a.numerator *ℤ b.numerator)) (fits_i128 (denominator a *ℤ denominator b)) h in
        subst IsRead (same_Some _ _ e) (in_lowest (product a b) (u.0 * v.0, total) (fits_small (product a b).numerator (u.0 * v.0) total all.0, common_small a b (product a b).below (common_is a b) all.1))
    go false h e = not_some e

pub inverse_unsigned : (z : ℤ) (d : ℕ) (i : Fraction) → inverse_of z d ≡ Some i → IsUnsigned i
inverse_unsigned (pos zero) d i e = not_some e
inverse_unsigned (pos (suc n)) d i e = subst IsUnsigned (same_Some _ _ e) (over_unsigned (suc d) n)
inverse_unsigned (negsuc n) d i e = not_some e

-- ---- decimals

undo : {X Y : Type 0} (o : Option X) (k : X → Option Y) (y : Y) → (o >>= k) ≡ Some y → (x : X) × (o ≡ Some x) × (k x ≡ Some y)
undo (Some x) k y e = (x, refl, e)
undo None k y e = not_some e

led_is : (d : ℕ) (part q : Fraction) → IsUnsigned part → led_by d part ≡ Some q → IsUnsigned q
led_is d part q u e = go (is_digit d) e
  where
    go : (b : Bool) → (if b then (summed part (over (pos (d - 48)) 0) >>= λ a. multiplied a (over (pos 1) 9)) else None) ≡ Some q → IsUnsigned q
    go true e =
        let a = undo (summed part (over (pos (d - 48)) 0)) (λ a. multiplied a (over (pos 1) 9)) q e in
        (multiplied_is a.0 (over (pos 1) 9) q (summed_is part (over (pos (d - 48)) 0) a.0 u (over_unsigned (d - 48) 0) a.1).0 (over_unsigned 1 9) a.2).0
    go false e = not_some e

after_is : (part q : Fraction) (ds : List ℕ) → IsUnsigned part → part_after part ds ≡ Some q → IsUnsigned q
after_is part q [] u e = subst IsUnsigned (same_Some _ _ e) u
after_is part q (d ∷ ds) u e = let a = undo (part_after part ds) (led_by d) q e in led_is d a.0 q (after_is part a.0 ds u a.1) a.2

pub decimal_is : (x : List ℕ) (q : Fraction) → decimal x ≡ Some q → IsRead q
decimal_is x q e =
    let n = undo (numeral (before_point x)) (λ n. part_after (over (pos 0) 0) (behind_point x) >>= λ part. summed part (over (pos n) 0)) q e in
    let a = undo (part_after (over (pos 0) 0) (behind_point x)) (λ part. summed part (over (pos n.0) 0)) q n.2 in
    summed_is a.0 (over (pos n.0) 0) q (after_is (over (pos 0) 0) a.0 (behind_point x) (over_unsigned 0 0) a.1) (over_unsigned n.0 0) a.2
