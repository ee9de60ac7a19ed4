-- The quotient that is rounded down is the floor, and no whole number is its own floor.
use Rattle.std.proofs.Common.{◌≡◌, ℕ, suc, ◌-◌, ◌*◌, ◌/◌, ◌≤◌, ℤ, pos, negsuc, ◌+ℤ◌, ◌*ℤ◌, ◌<ℤ◌, true, refl, sym, ◌∙◌, ap, subst, arith, unsigned_abs}
use Rattle.std.specs.Prelude.{int_le, int_lt}
use Rattle.std.specs.Int.{int_div_euclid, ◌∣◌}
use Rattle.std.proofs.lemmas.Int.{ints}
use Rattle.std.proofs.Math.Nat.{dvd-mul_left}
use Rattle.std.proofs.lemmas.Nat.Gcd.{dvd_refl}
use Rattle.vx_frac.specs.declared.Frac.{Frac}
use Rattle.vx_frac.specs.Lowest.{IsLowest}
use Rattle.vx_frac.specs.Fraction.{ratio, fraction}
use Rattle.vx_frac.proofs.Reduced.{denominator_of}
use Rattle.cs_sums.specs.Between.{IsFloor, LiesBetween}
use Rattle.cs_sums.specs.Fractional.{IsFractional}

at_most_size : (a k : ℕ) → a / suc k * suc k ≤ a
at_most_size a k = omega arith

above_size : (a k : ℕ) → suc a ≤ suc (a / suc k) * suc k
above_size a k = omega arith

low : (z : ℤ) (k : ℕ) → int_le (int_div_euclid z (pos (suc k)) *ℤ pos (suc k)) (z *ℤ pos 1) ≡ true
low (pos a) k = let h = at_most_size a k in grind (arith, ints)
low (negsuc a) k = let h = above_size a k in grind (arith, ints)

high : (z : ℤ) (k : ℕ) → int_lt (z *ℤ pos 1) ((int_div_euclid z (pos (suc k)) +ℤ pos 1) *ℤ pos (suc k)) ≡ true
high (pos a) k = let h = above_size a k in grind (arith, ints)
high (negsuc a) k = let h = at_most_size a k in grind (arith, ints)

-- with the denominator as the fraction has it
pub floor_of : (z d : ℤ) → pos 0 <ℤ d → IsFloor (int_div_euclid z d) (ratio z d)
floor_of z d h =
    let k = unsigned_abs d - 1 in
    let e : pos (suc k) ≡ d = denominator_of d h in
    record {
      within = subst (λ (x : ℤ). int_le (int_div_euclid z x *ℤ pos (suc k)) (z *ℤ pos 1) ≡ true) e (low z k);
      below = subst (λ (x : ℤ). int_lt (z *ℤ pos 1) ((int_div_euclid z x +ℤ pos 1) *ℤ pos (suc k)) ≡ true) e (high z k);
    }

strict : (x y : ℤ) → int_le x y ≡ true → (x ≡ y → ⊥) → int_lt x y ≡ true
strict x y le ne = grind (arith, ints)

sized : (q z : ℤ) (k : ℕ) → q *ℤ pos (suc k) ≡ z *ℤ pos 1 → unsigned_abs q * suc k ≡ unsigned_abs z
sized (pos q) (pos z) k e = grind (arith, ints)
sized (pos q) (negsuc z) k e = grind (arith, ints)
sized (negsuc q) (pos z) k e = grind (arith, ints)
sized (negsuc q) (negsuc z) k e = grind (arith, ints)

-- in lowest terms, a multiple of the denominator is a whole number
whole_alone : (q z : ℤ) (k : ℕ) (n d : ℤ) → n ≡ z → pos (suc k) ≡ d → IsLowest n d → q *ℤ pos (suc k) ≡ z *ℤ pos 1 → suc k ≡ 1
whole_alone q z k n d en ed lowest e =
    lowest (suc k)
    (subst (λ (x : ℕ). suc k ∣ x) (sized q z k e ∙ ap unsigned_abs (sym en)) (dvd-mul_left (suc k) (unsigned_abs q)))
    (subst (λ (x : ℕ). suc k ∣ x) (ap unsigned_abs ed) (dvd_refl (suc k)))

pub parts_it : (f : Frac) (floor : ℤ) → IsFloor floor (fraction f) → IsFractional (fraction f) → LiesBetween floor (fraction f)
parts_it f floor is fractional =
    let k = unsigned_abs f.den - 1 in
    let not_same : floor *ℤ pos (suc k) ≡ f.num *ℤ pos 1 → ⊥ = λ e. fractional (ap pos (whole_alone floor f.num k f.num f.den refl (denominator_of f.den f.positive) f.lowest e)) in
    record { above = strict _ _ is.within not_same; below = is.below }
