-- Literals that the rules make stay below 2^127.
use Rattle.std.proofs.Common.{◌≡◌, ℕ, zero, suc, ◌<◌, ◌≤◌, ◌+◌, ◌-◌, ◌*◌, ◌/◌, ◌%◌, ◌^◌, Bool, true, false, ◌&&◌, ℤ, pos, negsuc, refl, sym, subst, arith}
use Rattle.std.specs.Prelude.{⊤, nat_abs, neg_ℤ, cond, if◌then◌else◌}
use Rattle.std.specs.Int.{int_div_euclid, int_rem_euclid}
use Rattle.std.proofs.lemmas.Bool.{leb-true}
use Rattle.std.proofs.Math.Nat.{div-le_self, mod-lt, mul-le-mul_left, le_of_mul-le-mul_right}
use Rattle.vx_frac.specs.Fractions.{Fraction, lowest, first_where, makes_whole, least_denominator, with_sign, over}
use Rattle.vx_frac.proofs.Lowest.{exact, found}
use Rattle.vx_terms.specs.Terms.{Term, Truth, Number, Part, Constant, Apply, Not, Binary, Ite, AllOf, SomeOf}
use Rattle.vx_terms.specs.Build.{Literals, Numbers, Parts, Truths, Neither, literals_of, limit, fits, folds, folded_number, folded_part}
use Rattle.vx_smt_text.specs.Shaped.{IsShaped}

abbrev pub IsLow : ℕ → Type 0
IsLow n = n < 2 ^ 127

abbrev pub IsLowNumber : ℤ → Type 0
IsLowNumber z = IsLow (nat_abs z)

at_limit : (n m : ℕ) → 0 < m → n ≤ m - 1 → n < m
at_limit n m h k = omega arith

some_low : 0 < 2 ^ 127
some_low = omega arith

pub one_low : 1 < 2 ^ 127
one_low = omega arith

fits_low : (z : ℤ) → fits z ≡ true → IsLowNumber z
fits_low z e = at_limit (nat_abs z) (2 ^ 127) some_low (leb-true (nat_abs z) limit e)

second_true : (a b : Bool) → (a && b) ≡ true → b ≡ true
second_true true b e = e
second_true false b e = absurd (cc)

-- ---- what is folded

pub folded_number_shaped : (z : ℤ) (t : Term) → IsShaped t → IsShaped (folded_number z t)
folded_number_shaped z t h = go (fits z) refl
  where
    go : (b : Bool) → fits z ≡ b → IsShaped (cond b (Number z) t)
    go true e = fits_low z e
    go false e = h

pub folded_part_shaped : (met : Bool) (a : Fraction) (t : Term) → IsShaped t → IsShaped (folded_part met a t)
folded_part_shaped met a t h = go (folds met a) refl
  where
    go : (b : Bool) → folds met a ≡ b → IsShaped (cond b (Part a) t)
    go true e = fits_low a.numerator (second_true met (fits a.numerator) e)
    go false e = h

-- ---- quotients and remainders

abs_neg : (n : ℕ) → nat_abs (neg_ℤ (pos n)) ≡ n
abs_neg zero = refl
abs_neg (suc n) = refl

le_low : (n m : ℕ) → n ≤ m → IsLow m → IsLow n
le_low n m h k = go (2 ^ 127) k
  where
    go : (l : ℕ) → m < l → n < l
    go l k = omega arith

more_le : (n m : ℕ) → n ≤ m → suc n ≤ suc m
more_le n m h = omega arith

quotient_below : (m n : ℤ) → nat_abs (int_div_euclid m n) ≤ nat_abs m
quotient_below (pos a) (pos b) = div-le_self a b
quotient_below (pos a) (negsuc b) = subst (λ n. n ≤ a) (sym (abs_neg (a / suc b))) (div-le_self a (suc b))
quotient_below (negsuc a) (pos b) = more_le (a / b) a (div-le_self a b)
quotient_below (negsuc a) (negsuc b) = more_le (a / suc b) a (div-le_self a (suc b))

pub quotient_low : (m n : ℤ) → IsLowNumber m → IsLowNumber (int_div_euclid m n)
quotient_low m n h = le_low (nat_abs (int_div_euclid m n)) (nat_abs m) (quotient_below m n) h

lt_low : (n m : ℕ) → n < m → IsLow m → IsLow n
lt_low n m h k = go (2 ^ 127) k
  where
    go : (l : ℕ) → m < l → n < l
    go l k = omega arith

left_below : (n m : ℕ) → 0 < m → m - 1 - n < m
left_below n m h = omega arith

pub remainder_low : (m : ℤ) (n : ℕ) → IsLow (suc n) → IsLowNumber (int_rem_euclid m (pos (suc n)))
remainder_low (pos a) n h = lt_low (a % suc n) (suc n) (mod-lt a (omega arith)) h
remainder_low (negsuc a) n h = lt_low (suc n - 1 - a % suc n) (suc n) (left_below (a % suc n) (suc n) (omega arith)) h

pub remainder_low_below : (m : ℤ) (n : ℕ) → IsLow (suc n) → IsLowNumber (int_rem_euclid m (negsuc n))
remainder_low_below (pos a) n h = lt_low (a % suc n) (suc n) (mod-lt a (omega arith)) h
remainder_low_below (negsuc a) n h = lt_low (suc n - 1 - a % suc n) (suc n) (left_below (a % suc n) (suc n) (omega arith)) h

-- ---- lowest terms are no larger

before_end : (h : ℕ → Bool) (k d : ℕ) → first_where h k d ≤ k + d
before_end h zero d = omega arith
before_end h (suc k) d = go (before_end h k (suc d)) (h d)
  where
    go : first_where h k (suc d) ≤ k + suc d → (b : Bool) → (if b then d else first_where h k (suc d)) ≤ suc k + d
    go r true = omega arith
    go r false = omega arith

least_small : (a : Fraction) → least_denominator a ≤ suc a.below
least_small a = let end = before_end (makes_whole a) a.below 1 in omega arith

abs_signed : (z : ℤ) (n : ℕ) → nat_abs (with_sign z n) ≡ n
abs_signed (pos m) n = refl
abs_signed (negsuc m) n = abs_neg n

-- the size of the numerator times the least denominator, divided by the denominator
abbrev divided : Fraction → ℕ
divided a = (nat_abs a.numerator * least_denominator a) / suc a.below

divided_small : (a : Fraction) → divided a ≤ nat_abs a.numerator
divided_small a =
    let more = mul-le-mul_left (nat_abs a.numerator) (least_small a) in
    let is = exact (nat_abs a.numerator) (least_denominator a) (suc a.below) (found a) in
    le_of_mul-le-mul_right {k = suc a.below} (subst (λ n. n ≤ nat_abs a.numerator * suc a.below) (sym is) more) (omega arith)

lowest_low : (a : Fraction) → IsLowNumber a.numerator → IsLowNumber (lowest a).numerator
unfolding lowest
lowest_low a h = subst IsLow (sym (abs_signed a.numerator (divided a))) (le_low (divided a) (nat_abs a.numerator) (divided_small a) h)

pub over_low : (n d : ℕ) → IsLow n → IsLowNumber (lowest (over n d)).numerator
over_low n d h = lowest_low (over n d) h

-- ---- literals of two terms

abbrev pub AreLow : Literals → Type 0
AreLow (Numbers m n) = IsLowNumber m × IsLowNumber n
AreLow (Parts a b) = ⊤
AreLow (Truths a b) = ⊤
AreLow Neither = ⊤

pub literals_low : (s t : Term) → IsShaped s → IsShaped t → AreLow (literals_of s t)
literals_low (Number m) (Truth b) h k = tt
literals_low (Number m) (Number n) h k = (h, k)
literals_low (Number m) (Part a) h k = tt
literals_low (Number m) (Constant f a) h k = tt
literals_low (Number m) (Apply f a ts) h k = tt
literals_low (Number m) (Not t) h k = tt
literals_low (Number m) (Binary o t u) h k = tt
literals_low (Number m) (Ite c t u) h k = tt
literals_low (Number m) (AllOf ts) h k = tt
literals_low (Number m) (SomeOf ts) h k = tt
literals_low (Part a) (Truth b) h k = tt
literals_low (Part a) (Number n) h k = tt
literals_low (Part a) (Part b) h k = tt
literals_low (Part a) (Constant f b) h k = tt
literals_low (Part a) (Apply f b ts) h k = tt
literals_low (Part a) (Not t) h k = tt
literals_low (Part a) (Binary o t u) h k = tt
literals_low (Part a) (Ite c t u) h k = tt
literals_low (Part a) (AllOf ts) h k = tt
literals_low (Part a) (SomeOf ts) h k = tt
literals_low (Truth b) (Truth c) h k = tt
literals_low (Truth b) (Number n) h k = tt
literals_low (Truth b) (Part a) h k = tt
literals_low (Truth b) (Constant f a) h k = tt
literals_low (Truth b) (Apply f a ts) h k = tt
literals_low (Truth b) (Not t) h k = tt
literals_low (Truth b) (Binary o t u) h k = tt
literals_low (Truth b) (Ite c t u) h k = tt
literals_low (Truth b) (AllOf ts) h k = tt
literals_low (Truth b) (SomeOf ts) h k = tt
literals_low (Constant f a) t h k = tt
literals_low (Apply f a ts) t h k = tt
literals_low (Not s) t h k = tt
literals_low (Binary o s u) t h k = tt
literals_low (Ite c s u) t h k = tt
literals_low (AllOf ts) t h k = tt
literals_low (SomeOf ts) t h k = tt
