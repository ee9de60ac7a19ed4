-- A quotient in lowest terms is the fraction's lowest terms.
use Rattle.std.proofs.Common.{◌≡◌, ℕ, zero, suc, ◌+◌, ◌-◌, ◌*◌, ◌/◌, ◌%◌, ◌<◌, ◌≤◌, ℤ, pos, negsuc, ◌*ℤ◌, ◌<ℤ◌, Bool, true, false, refl, sym, ◌∙◌, ap, ap₂, subst, arith, nat_abs, unsigned_abs, eqb-true, eq-eqb}
use Rattle.std.specs.Prelude.{nat_eq, if◌then◌else◌}
use Rattle.std.specs.Int.{◌∣◌}
use Rattle.std.proofs.lemmas.Int.{ints}
use Rattle.std.proofs.lemmas.Nat.Gcd.{dvd_of_mod-eq-zero, mod-eq-zero_of_dvd}
use Rattle.std.proofs.Math.Nat.{dvd-mul_left, dvd-mul_right_of_dvd, dvd-sub, dvd_of_mul-dvd-mul_left, mul-div_cancel}
use Rattle.vx_frac.specs.Lowest.{IsLowest}
use Rattle.vx_frac.specs.declared.Frac.{Frac}
use Rattle.vx_frac.specs.Fraction.{ratio, fraction}
use Rattle.vx_frac.specs.Fractions.{Fraction, denominator, same_fraction, makes_whole, first_where, least_denominator, with_sign, lowest, common}
use Rattle.vx_frac.proofs.Lowest.{lowest-same, found, above}
use Rattle.vx_frac.proofs.Sums.{equal_ints}

pub denominator_of : (z : ℤ) → pos 0 <ℤ z → pos (suc (unsigned_abs z - 1)) ≡ z
denominator_of (pos (suc n)) h = ap pos (omega arith)
denominator_of (pos zero) h = absurd (omega (arith, ints))
denominator_of (negsuc n) h = absurd (omega (arith, ints))

positive_size : (z : ℤ) → pos 0 <ℤ z → suc (unsigned_abs z - 1) ≡ unsigned_abs z
positive_size (pos (suc n)) h = omega arith
positive_size (pos zero) h = absurd (omega (arith, ints))
positive_size (negsuc n) h = absurd (omega (arith, ints))

-- nothing before the first
least : (h : ℕ → Bool) (k d e : ℕ) → d ≤ e → e < first_where h k d → h e ≡ true → ⊥
least h zero d e le lt t = omega arith
least h (suc k) d e le lt t = go (λ n x. least h k (suc d) e (past le n) x t) (h d) refl lt
  where
    past : d ≤ e → (d ≡ e → ⊥) → suc d ≤ e
    past le n = omega arith

    go : ((d ≡ e → ⊥) → e < first_where h k (suc d) → ⊥) → (b : Bool) → h d ≡ b → e < (if b then d else first_where h k (suc d)) → ⊥
    go later true q lt = omega arith
    go later false q lt = later (λ (x : d ≡ e). let f : false ≡ true = sym q ∙ ap h x ∙ t in cc) lt

-- what is left of the denominator makes the fraction whole too
rest_whole : (n q d : ℕ) → nat_eq ((n * d) % suc q) 0 ≡ true → 0 < d → nat_eq ((n * (suc q % d)) % suc q) 0 ≡ true
rest_whole n q d e h =
    let w : d * (suc q / d) + suc q % d ≡ suc q = omega arith in
    let m : n * (d * (suc q / d)) + n * (suc q % d) ≡ n * suc q = mul_sum n _ _ ∙ ap (λ (x : ℕ). n * x) w in
    let whole : suc q ∣ n * suc q = dvd-mul_left (suc q) n in
    let part : suc q ∣ n * d * (suc q / d) = dvd-mul_right_of_dvd (suc q) (dvd_of_mod-eq-zero (suc q) (eqb-true _ 0 e)) (suc q / d) in
    let left : suc q ∣ n * suc q - n * d * (suc q / d) = dvd-sub (suc q) whole part in
    let is : n * suc q - n * d * (suc q / d) ≡ n * (suc q % d) = omega arith in
    eq-eqb _ 0 (mod-eq-zero_of_dvd (suc q) (subst (λ (x : ℕ). suc q ∣ x) is left))
  where
    mul_sum : (a b c : ℕ) → a * b + a * c ≡ a * (b + c)
    mul_sum a b c = omega arith

divides : (n q d : ℕ) → ((k : ℕ) → 1 ≤ k → k < d → nat_eq ((n * k) % suc q) 0 ≡ true → ⊥) → 1 ≤ d → nat_eq ((n * d) % suc q) 0 ≡ true → d ∣ suc q
divides n q d l le e = go (suc q % d) refl (rest_whole n q d e le)
  where
    small : suc q % d < d
    small = omega arith

    go : (r : ℕ) → suc q % d ≡ r → nat_eq ((n * (suc q % d)) % suc q) 0 ≡ true → d ∣ suc q
    go zero m w = dvd_of_mod-eq-zero d m
    go (suc r) m w = absurd (l (suc q % d) (omega arith) small w)

-- a denominator that divides the full one, and makes it whole, is the full one
only_full : (n q : ℕ) → ((k : ℕ) → k ∣ n → k ∣ suc q → k ≡ 1) → (d : ℕ) → 1 ≤ d → nat_eq ((n * d) % suc q) 0 ≡ true → d ∣ suc q → d ≡ suc q
only_full n q low d le e h =
    let w : d * (suc q / d) + suc q % d ≡ suc q = omega arith in
    let z : suc q % d ≡ 0 = mod-eq-zero_of_dvd d h in
    let full : d * (suc q / d) ≡ suc q = omega arith in
    let whole : d * (suc q / d) ∣ n * d = subst (λ (x : ℕ). x ∣ n * d) (sym full) (dvd_of_mod-eq-zero (suc q) (eqb-true _ 0 e)) in
    let turned : d * (suc q / d) ∣ d * n = subst (λ (x : ℕ). d * (suc q / d) ∣ x) (times_comm n d) whole in
    let part : (suc q / d) ∣ n = dvd_of_mul-dvd-mul_left (suc q / d) le turned in
    let one : suc q / d ≡ 1 = low (suc q / d) part (subst (λ (x : ℕ). (suc q / d) ∣ x) full (dvd-mul_left (suc q / d) d)) in
    sym (times_one d) ∙ ap (λ (x : ℕ). d * x) (sym one) ∙ full
  where
    times_comm : (a b : ℕ) → a * b ≡ b * a
    times_comm a b = omega arith

    times_one : (a : ℕ) → a * 1 ≡ a
    times_one a = omega arith

own_size : (z : ℤ) → nat_abs z ≡ unsigned_abs z
own_size (pos n) = refl
own_size (negsuc n) = refl

own_sign : (z : ℤ) → with_sign z (nat_abs z) ≡ z
own_sign (pos n) = refl
own_sign (negsuc n) = refl

-- a fraction that only 1 reduces is in lowest terms
lowest_own : (a : Fraction) → ((k : ℕ) → k ∣ nat_abs a.numerator → k ∣ suc a.below → k ≡ 1) → lowest a ≡ a
unfolding lowest
lowest_own a low = ap₂ (λ (z : ℤ) (n : ℕ). let r : Fraction = record { numerator = z; below = n } in r) numerators belows
  where
    one_at_least : 1 ≤ least_denominator a
    one_at_least = above (makes_whole a) a.below 1

    none_smaller : (k : ℕ) → 1 ≤ k → k < least_denominator a → makes_whole a k ≡ true → ⊥
    none_smaller k le lt t = least (makes_whole a) a.below 1 k le lt t

    full_denominator : least_denominator a ≡ suc a.below
    full_denominator = only_full (nat_abs a.numerator) a.below low (least_denominator a) one_at_least (found a)
        (divides (nat_abs a.numerator) a.below (least_denominator a) none_smaller one_at_least (found a))

    belows : least_denominator a - 1 ≡ a.below
    belows = omega (arith, full_denominator)

    numerators : with_sign a.numerator ((nat_abs a.numerator * least_denominator a) / suc a.below) ≡ a.numerator
    numerators =
        ap (λ (d : ℕ). with_sign a.numerator ((nat_abs a.numerator * d) / suc a.below)) full_denominator
        ∙ ap (with_sign a.numerator) (mul-div_cancel (nat_abs a.numerator) (omega arith))
        ∙ own_sign a.numerator

-- p over q, in lowest terms, is n over d
pub is_lowest : (p q n d : ℤ) → pos 0 <ℤ q → pos 0 <ℤ d → IsLowest p q → p *ℤ d ≡ n *ℤ q → ratio p q ≡ lowest (ratio n d)
is_lowest p q n d h k low e = sym (lowest_own (ratio p q) only) ∙ lowest-same (ratio p q) (ratio n d) same
  where
    size : suc (unsigned_abs q - 1) ≡ unsigned_abs q
    size = positive_size q h

    only : (k : ℕ) → k ∣ nat_abs p → k ∣ suc (unsigned_abs q - 1) → k ≡ 1
    only k a b = low k (subst (λ (x : ℕ). k ∣ x) (own_size p) a) (subst (λ (x : ℕ). k ∣ x) size b)

    same : same_fraction (ratio p q) (ratio n d) ≡ true
    same = equal_ints _ _ (ap (λ (z : ℤ). p *ℤ z) (denominator_of d k) ∙ e ∙ ap (λ (z : ℤ). n *ℤ z) (sym (denominator_of q h)))

-- the fraction of a `Frac` is in lowest terms
pub lowest_fraction : (f : Frac) → lowest (fraction f) ≡ fraction f
lowest_fraction f = sym (is_lowest f.num f.den f.num f.den f.positive f.positive f.lowest refl)

-- a sum's or a product's numerator over the product of the denominators
pub over_common : (z : ℤ) (a b : Fraction) → ratio z (denominator a *ℤ denominator b) ≡ record { numerator = z; below = common a b }
over_common z a b = ap (λ (n : ℕ). let r : Fraction = record { numerator = z; below = n } in r) (products a.below b.below)
  where
    products : (m n : ℕ) → suc m * suc n - 1 ≡ m * suc n + n
    products m n = let e : suc m * suc n ≡ suc (m * suc n + n) = omega arith in omega arith

-- one fraction has one numerator and one denominator
pub own_parts : (f g : Frac) → fraction f ≡ fraction g → (f.num ≡ g.num) × (f.den ≡ g.den)
own_parts f g e = (
  ap (λ (r : Fraction). r.numerator) e,
  sym (denominator_of f.den f.positive) ∙ ap denominator e ∙ denominator_of g.den g.positive,
)
