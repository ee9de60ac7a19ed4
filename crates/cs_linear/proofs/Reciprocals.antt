-- One over a fraction, times that fraction, is 1.
use Rattle.std.proofs.Common.{◌≡◌, ℕ, suc, ◌+◌, ◌*◌, ◌-◌, ℤ, pos, ◌*ℤ◌, neg_ℤ, ◌<ℤ◌, true, refl, sym, ◌∙◌, ap, ap₂, arith}
use Rattle.std.specs.Prelude.{unsigned_abs}
use Rattle.std.specs.Ordering.{int_eq}
use Rattle.std.proofs.lemmas.Int.{ints}
use Rattle.vx_frac.specs.Fractions.{Fraction, full, product, lowest, same_fraction}
use Rattle.vx_frac.specs.Fraction.{ratio}
use Rattle.vx_frac.proofs.Lowest.{lowest-same}
use Rattle.vx_frac.proofs.Reduced.{denominator_of}
use Rattle.cs_linear.specs.Numbers.{times}
use Rattle.cs_linear.proofs.Arithmetic.{times_comm, times_lowest}

full_is : lowest full ≡ full
unfolding lowest
full_is = refl

same_number : (x y : ℤ) → x ≡ y → int_eq x y ≡ true
same_number x y e = grind (arith, ints)

plain : (b m : ℕ) → (pos (suc b) *ℤ pos (suc m)) *ℤ pos 1 ≡ pos 1 *ℤ pos (suc (m * suc b + b))
plain b m = ap pos (omega arith)

turned : (b m : ℕ) → (neg_ℤ (pos (suc b)) *ℤ neg_ℤ (pos (suc m))) *ℤ pos 1 ≡ pos 1 *ℤ pos (suc (m * suc b + b))
turned b m = ap pos (omega arith)

is_full : (x y : Fraction) → same_fraction (product x y) full ≡ true → times x y ≡ full
unfolding times
is_full x y e = lowest-same (product x y) full e ∙ full_is

of_lowest : (x y f : Fraction) → f ≡ lowest x → times x y ≡ full → times f y ≡ full
of_lowest x y f e h = ap (λ f. times f y) e ∙ times_comm (lowest x) y ∙ times_lowest y x ∙ times_comm y x ∙ h

pub positive_reciprocal : (f : Fraction) (n d : ℤ) → pos 0 <ℤ n → pos 0 <ℤ d → f ≡ lowest (ratio d n) → times f (ratio n d) ≡ full
positive_reciprocal f n d hn hd e =
    of_lowest (ratio d n) (ratio n d) f e (is_full (ratio d n) (ratio n d) (same_number _ _ (
    ap₂ (λ (x y : ℤ). (x *ℤ y) *ℤ pos 1) (sym (denominator_of d hd)) (sym (denominator_of n hn))
    ∙ plain (unsigned_abs d - 1) (unsigned_abs n - 1))))

pub negative_reciprocal : (f : Fraction) (n d m : ℤ) → pos 0 <ℤ m → pos 0 <ℤ d → n ≡ neg_ℤ m → f ≡ lowest (ratio (neg_ℤ d) m) → times f (ratio n d) ≡ full
negative_reciprocal f n d m hm hd en e =
    of_lowest (ratio (neg_ℤ d) m) (ratio n d) f e (is_full (ratio (neg_ℤ d) m) (ratio n d) (same_number _ _ (
    ap (λ (y : ℤ). (neg_ℤ d *ℤ y) *ℤ pos 1) en
    ∙ ap₂ (λ (x y : ℤ). (neg_ℤ x *ℤ neg_ℤ y) *ℤ pos 1) (sym (denominator_of d hd)) (sym (denominator_of m hm))
    ∙ turned (unsigned_abs d - 1) (unsigned_abs m - 1))))
