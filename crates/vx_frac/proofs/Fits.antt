-- The tests of fractions' numbers, and the range of an i128.
use Rattle.std.proofs.Common.{◌≡◌, ℕ, suc, ◌^◌, ℤ, pos, negsuc, ◌+ℤ◌, ◌-ℤ◌, ◌*ℤ◌, to_z, of_z, Bool, true, false, ◌&&◌, refl, sym, ◌∙◌, ap, ap₂, subst, arith, FitsSigned}
use Rattle.std.specs.Prelude.{neg_ℤ}
use Rattle.std.proofs.lemmas.Int.{to_z-of_z, ints}
use Rattle.std.specs.Int.{w128}
use Rattle.std.proofs.lemmas.Bool.{lt-ltb, ltb-true}
use Rattle.vx_frac.specs.Fraction.{ratio, CommonFits}
use Rattle.vx_frac.specs.Fractions.{Fraction, denominator, common, sum, difference, fits_i128, cross_fits, sum_fits, difference_fits, product_fits}
use Rattle.vx_frac.proofs.Reduced.{over_common}

pub fits_from : (z : ℤ) → FitsSigned w128 z → fits_i128 z ≡ true
fits_from (pos n) f = lt-ltb n (2 ^ 127) f.sfits
fits_from (negsuc n) f = lt-ltb n (2 ^ 127) f.sfits

pub fits_back : (z : ℤ) → fits_i128 z ≡ true → FitsSigned w128 z
fits_back (pos n) e = record { sfits = ltb-true n (2 ^ 127) e }
fits_back (negsuc n) e = record { sfits = ltb-true n (2 ^ 127) e }

pub both_true : (a b : Bool) → a ≡ true → b ≡ true → (a && b) ≡ true
both_true true b e f = f
both_true false b e f = e

pub each_true : (a b : Bool) → (a && b) ≡ true → (a ≡ true) × (b ≡ true)
each_true true b e = (refl, e)
each_true false b e = (e, cc)

-- a sum of two numbers that fit, as the code adds them
sum_as_written : (l r : ℤ) → FitsSigned w128 l → FitsSigned w128 r → to_z w128 (of_z w128 l) +ℤ to_z w128 (of_z w128 r) ≡ l +ℤ r
sum_as_written l r f g = ap₂ (λ (x y : ℤ). x +ℤ y) (to_z-of_z w128 l f) (to_z-of_z w128 r g)

difference_as_written : (l r : ℤ) → FitsSigned w128 l → FitsSigned w128 r → to_z w128 (of_z w128 l) -ℤ to_z w128 (of_z w128 r) ≡ l -ℤ r
difference_as_written l r f g = ap₂ (λ (x y : ℤ). x -ℤ y) (to_z-of_z w128 l f) (to_z-of_z w128 r g)

neg_product : (z : ℤ) (k : ℕ) → neg_ℤ z *ℤ pos (suc k) ≡ neg_ℤ (z *ℤ pos (suc k))
neg_product z k = grind (arith, ints)

add_neg : (x y : ℤ) → x +ℤ neg_ℤ y ≡ x -ℤ y
add_neg x y = omega (arith, ints)

-- the numerator of a difference
pub less_numerator : (a b : Fraction) → (difference a b).numerator ≡ a.numerator *ℤ denominator b -ℤ b.numerator *ℤ denominator a
less_numerator a b = ap (λ (z : ℤ). a.numerator *ℤ denominator b +ℤ z) (neg_product b.numerator a.below) ∙ add_neg (a.numerator *ℤ denominator b) (b.numerator *ℤ denominator a)

-- Numerators l and r over d stand for a and b.
pub record IsCommon (a b : Fraction) (l r d : ℤ) : Type 0 where
  pub fits : CommonFits a b
  pub left : l ≡ a.numerator *ℤ denominator b
  pub right : r ≡ b.numerator *ℤ denominator a
  pub below : d ≡ denominator a *ℤ denominator b

fits_at : (x y : ℤ) → x ≡ y → FitsSigned w128 x → FitsSigned w128 y
fits_at x y e f = subst (λ (z : ℤ). FitsSigned w128 z) e f

pub sum_written : (a b : Fraction) (l r d : ℤ) → IsCommon a b l r d → to_z w128 (of_z w128 l) +ℤ to_z w128 (of_z w128 r) ≡ (sum a b).numerator
sum_written a b l r d c =
    sum_as_written l r (fits_at _ _ (sym c.left) c.fits.0) (fits_at _ _ (sym c.right) c.fits.1) ∙ ap₂ (λ (x y : ℤ). x +ℤ y) c.left c.right

pub difference_written : (a b : Fraction) (l r d : ℤ) → IsCommon a b l r d → to_z w128 (of_z w128 l) -ℤ to_z w128 (of_z w128 r) ≡ (difference a b).numerator
difference_written a b l r d c =
    difference_as_written l r (fits_at _ _ (sym c.left) c.fits.0) (fits_at _ _ (sym c.right) c.fits.1)
    ∙ ap₂ (λ (x y : ℤ). x -ℤ y) c.left c.right ∙ sym (less_numerator a b)

-- with a further number, of the sum or the difference
all_fit : (a b : Fraction) (l r d n z : ℤ) → IsCommon a b l r d → z ≡ n → FitsSigned w128 z → (cross_fits a b && (fits_i128 n && fits_i128 (denominator a *ℤ denominator b))) ≡ true
all_fit a b l r d n z c e f =
    both_true _ _ (both_true _ _ (fits_from _ c.fits.0) (fits_from _ c.fits.1)) (both_true _ _ (fits_from _ (fits_at z n e f)) (fits_from _ c.fits.2))

one_not : (a b : Fraction) (n z : ℤ) → z ≡ n → (FitsSigned w128 z → ⊥) → (cross_fits a b && (fits_i128 n && fits_i128 (denominator a *ℤ denominator b))) ≡ true → ⊥
one_not a b n z e f t = f (fits_at n z (sym e) (fits_back n (each_true _ _ (each_true _ _ t).1).0))

pub sum_does : (a b : Fraction) (l r d : ℤ) → IsCommon a b l r d → FitsSigned w128 (to_z w128 (of_z w128 l) +ℤ to_z w128 (of_z w128 r)) → sum_fits a b ≡ true
sum_does a b l r d c f = all_fit a b l r d _ _ c (sum_written a b l r d c) f

pub sum_not : (a b : Fraction) (l r d : ℤ) → IsCommon a b l r d → (FitsSigned w128 (to_z w128 (of_z w128 l) +ℤ to_z w128 (of_z w128 r)) → ⊥) → sum_fits a b ≡ true → ⊥
sum_not a b l r d c f t = one_not a b _ _ (sum_written a b l r d c) f t

pub difference_does : (a b : Fraction) (l r d : ℤ) → IsCommon a b l r d → FitsSigned w128 (to_z w128 (of_z w128 l) -ℤ to_z w128 (of_z w128 r)) → difference_fits a b ≡ true
difference_does a b l r d c f = all_fit a b l r d _ _ c (difference_written a b l r d c) f

pub difference_not : (a b : Fraction) (l r d : ℤ) → IsCommon a b l r d → (FitsSigned w128 (to_z w128 (of_z w128 l) -ℤ to_z w128 (of_z w128 r)) → ⊥) → difference_fits a b ≡ true → ⊥
difference_not a b l r d c f t = one_not a b _ _ (difference_written a b l r d c) f t

pub cross_does : (a b : Fraction) (l e r d : ℤ) → FitsSigned w128 l → FitsSigned w128 e → FitsSigned w128 r → FitsSigned w128 d → FitsSigned w128 (to_z w128 (of_z w128 l) *ℤ to_z w128 (of_z w128 e)) → FitsSigned w128 (to_z w128 (of_z w128 r) *ℤ to_z w128 (of_z w128 d)) →
    l ≡ a.numerator → e ≡ denominator b → r ≡ b.numerator → d ≡ denominator a → cross_fits a b ≡ true
cross_does a b l e r d fl fe fr fd f g il ie ir id =
    both_true _ _
    (fits_from _ (fits_at _ _ (ap₂ (λ (x y : ℤ). x *ℤ y) (to_z-of_z w128 l fl ∙ il) (to_z-of_z w128 e fe ∙ ie)) f))
    (fits_from _ (fits_at _ _ (ap₂ (λ (x y : ℤ). x *ℤ y) (to_z-of_z w128 r fr ∙ ir) (to_z-of_z w128 d fd ∙ id)) g))

-- the fraction that is made of them
pub common_ratio : (a b : Fraction) (n z d : ℤ) → CommonFits a b → z ≡ n → d ≡ denominator a *ℤ denominator b → FitsSigned w128 z →
    ratio (to_z w128 (of_z w128 z)) (to_z w128 (of_z w128 d)) ≡ record { numerator = n; below = common a b }
common_ratio a b n z d f p q g =
    ap₂ ratio (to_z-of_z w128 z g ∙ p) (to_z-of_z w128 d (fits_at _ _ (sym q) f.2) ∙ q) ∙ over_common n a b

-- a product of two numbers, as the code multiplies them
pub product_written : (x y l r : ℤ) → FitsSigned w128 l → FitsSigned w128 r → l ≡ x → r ≡ y → to_z w128 (of_z w128 l) *ℤ to_z w128 (of_z w128 r) ≡ x *ℤ y
product_written x y l r f g p q = ap₂ (λ (x y : ℤ). x *ℤ y) (to_z-of_z w128 l f ∙ p) (to_z-of_z w128 r g ∙ q)

pub product_not : (x y l r : ℤ) → FitsSigned w128 l → FitsSigned w128 r → l ≡ x → r ≡ y → (FitsSigned w128 (to_z w128 (of_z w128 l) *ℤ to_z w128 (of_z w128 r)) → ⊥) → FitsSigned w128 (x *ℤ y) → ⊥
product_not x y l r f g p q h k = h (fits_at _ _ (sym (product_written x y l r f g p q)) k)

pub product_ratio : (a b : Fraction) (n z d : ℤ) → z ≡ n → d ≡ denominator a *ℤ denominator b → FitsSigned w128 z → FitsSigned w128 (denominator a *ℤ denominator b) →
    ratio (to_z w128 (of_z w128 z)) (to_z w128 (of_z w128 d)) ≡ record { numerator = n; below = common a b }
product_ratio a b n z d p q g f = ap₂ ratio (to_z-of_z w128 z g ∙ p) (to_z-of_z w128 d (fits_at _ _ (sym q) f) ∙ q) ∙ over_common n a b

pub product_does : (a b : Fraction) (l r : ℤ) → FitsSigned w128 l → FitsSigned w128 r → l ≡ a.numerator → r ≡ b.numerator → FitsSigned w128 (to_z w128 (of_z w128 l) *ℤ to_z w128 (of_z w128 r)) → FitsSigned w128 (denominator a *ℤ denominator b) → product_fits a b ≡ true
product_does a b l r f g p q h d = both_true _ _ (fits_from _ (fits_at _ _ (product_written _ _ l r f g p q) h)) (fits_from _ d)
