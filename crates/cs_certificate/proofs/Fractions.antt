-- Laws of fractions, up to equality by cross products.
use Rattle.std.proofs.Common.{◌≡◌, ℕ, suc, ◌+◌, ◌*◌, ◌<◌, ◌≤◌, ℤ, pos, negsuc, ◌+ℤ◌, ◌-ℤ◌, ◌*ℤ◌, neg_ℤ, refl, sym, ◌∙◌, ap, ap₂, arith, mul-le-mul_right, le_of_mul-le-mul_right, le_antisymm}
use Rattle.std.proofs.Math.Nat.{lt_of_mul-lt-mul_right}
use borrow.Author.Differences.{up, down, same_in, same_out, product_is, sum_is_lem, neg_is}
use Rattle.vx_frac.specs.Fractions.{Fraction, full, denominator, whole, sum, minus, product}
use Rattle.cs_certificate.specs.Linear.{minus_one}
use Rattle.cs_certificate.proofs.Ring.{diff, by_diff, diff_same, ring, diff_times, times_assoc}

-- equal by cross products
pub record Eq (a b : Fraction) : Type 0 where
  pub cross : a.numerator *ℤ denominator b ≡ b.numerator *ℤ denominator a

pub eq_refl : (a : Fraction) → Eq a a
eq_refl a = record { cross = refl }

pub eq_sym : {a b : Fraction} → Eq a b → Eq b a
eq_sym e = record { cross = sym e.cross }

cancel : (x y : ℤ) (d : ℕ) → x *ℤ pos (suc d) ≡ y *ℤ pos (suc d) → x ≡ y
cancel x y d e =
    let p = product_is x (pos (suc d)) in
    let q = product_is y (pos (suc d)) in
    let o = same_out _ _ e in
    let f : (up x + down y) * suc d ≡ (up y + down x) * suc d = omega arith in
    same_in x y (cancel_right (up x + down y) (up y + down x) d f)
  where
    cancel_right : (m n d : ℕ) → m * suc d ≡ n * suc d → m ≡ n
    cancel_right m n d e = le_antisymm (le_of_mul-le-mul_right {k = suc d} (omega arith) (omega arith)) (le_of_mul-le-mul_right {k = suc d} (omega arith) (omega arith))

swap : (x y z : ℤ) → (x *ℤ y) *ℤ z ≡ (x *ℤ z) *ℤ y
swap x y z =
    by_diff (λ x. (x *ℤ y) *ℤ z ≡ (x *ℤ z) *ℤ y) (λ a1 a2.
    by_diff (λ y. (diff a1 a2 *ℤ y) *ℤ z ≡ (diff a1 a2 *ℤ z) *ℤ y) (λ b1 b2.
    by_diff (λ z. (diff a1 a2 *ℤ diff b1 b2) *ℤ z ≡ (diff a1 a2 *ℤ z) *ℤ diff b1 b2) (λ c1 c2.
    simp diff_times (diff_same _ _ _ _ (omega arith))) z) y) x

pub eq_trans : {a b c : Fraction} → Eq a b → Eq b c → Eq a c
eq_trans {a = a} {b = b} {c = c} e f =
    let first = ap (λ x. x *ℤ denominator c) e.cross in
    let second = ap (λ x. x *ℤ denominator a) f.cross in
    record { cross = cancel _ _ b.below (swap a.numerator (denominator c) (denominator b) ∙ first ∙ swap b.numerator (denominator a) (denominator c) ∙ second ∙ swap c.numerator (denominator b) (denominator a)) }

-- a sum, over the products of the denominators
spread : (n m : ℤ) (a b c d : ℕ) → (n *ℤ pos (suc b) +ℤ m *ℤ pos (suc a)) *ℤ pos (suc (c * suc d + d)) ≡ (n *ℤ pos (suc c)) *ℤ pos (suc b * suc d) +ℤ (m *ℤ pos (suc d)) *ℤ pos (suc a * suc c)
spread n m a b c d =
    by_diff (λ n. (n *ℤ pos (suc b) +ℤ m *ℤ pos (suc a)) *ℤ pos (suc (c * suc d + d)) ≡ (n *ℤ pos (suc c)) *ℤ pos (suc b * suc d) +ℤ (m *ℤ pos (suc d)) *ℤ pos (suc a * suc c)) (λ n1 n2.
    by_diff (λ m. (diff n1 n2 *ℤ pos (suc b) +ℤ m *ℤ pos (suc a)) *ℤ pos (suc (c * suc d + d)) ≡ (diff n1 n2 *ℤ pos (suc c)) *ℤ pos (suc b * suc d) +ℤ (m *ℤ pos (suc d)) *ℤ pos (suc a * suc c)) (λ m1 m2.
    simp ring (diff_same _ _ _ _ (omega arith))) m) n

pub sum_eq : {a b c d : Fraction} → Eq a c → Eq b d → Eq (sum a b) (sum c d)
sum_eq {a = a} {b = b} {c = c} {d = d} e f =
    let back = spread c.numerator d.numerator c.below d.below a.below b.below in
    let p : pos (suc b.below * suc d.below) ≡ pos (suc d.below * suc b.below) = ap pos (omega arith) in
    let q : pos (suc a.below * suc c.below) ≡ pos (suc c.below * suc a.below) = ap pos (omega arith) in
    let left = ap₂ (λ x y. x *ℤ y) e.cross p in
    let right = ap₂ (λ x y. x *ℤ y) f.cross q in
    record { cross = spread a.numerator b.numerator a.below b.below c.below d.below ∙ ap₂ (λ x y. x +ℤ y) left right ∙ sym back }

times_spread : (n m : ℤ) (c d : ℕ) → (n *ℤ m) *ℤ pos (suc (c * suc d + d)) ≡ (n *ℤ pos (suc c)) *ℤ (m *ℤ pos (suc d))
times_spread n m c d =
    by_diff (λ n. (n *ℤ m) *ℤ pos (suc (c * suc d + d)) ≡ (n *ℤ pos (suc c)) *ℤ (m *ℤ pos (suc d))) (λ n1 n2.
    by_diff (λ m. (diff n1 n2 *ℤ m) *ℤ pos (suc (c * suc d + d)) ≡ (diff n1 n2 *ℤ pos (suc c)) *ℤ (m *ℤ pos (suc d))) (λ m1 m2.
    simp ring (diff_same _ _ _ _ (omega arith))) m) n

pub product_eq : {a b c d : Fraction} → Eq a c → Eq b d → Eq (product a b) (product c d)
product_eq {a = a} {b = b} {c = c} {d = d} e f =
    record { cross = times_spread a.numerator b.numerator c.below d.below ∙ ap₂ (λ x y. x *ℤ y) e.cross f.cross ∙ sym (times_spread c.numerator d.numerator a.below b.below) }

-- an equation of one, two or three numerators
by_one : (P : ℤ → Type 0) → ((a b : ℕ) → P (diff a b)) → (x : ℤ) → P x
by_one = by_diff

by_two : (P : ℤ → ℤ → Type 0) → ((a b c d : ℕ) → P (diff a b) (diff c d)) → (x y : ℤ) → P x y
by_two P h x y = by_diff (λ x. P x y) (λ a b. by_diff (λ y. P (diff a b) y) (λ c d. h a b c d) y) x

by_three : (P : ℤ → ℤ → ℤ → Type 0) → ((a b c d e f : ℕ) → P (diff a b) (diff c d) (diff e f)) → (x y z : ℤ) → P x y z
by_three P h x y z = by_two (λ x y. P x y z) (λ a b c d. by_diff (λ z. P (diff a b) (diff c d) z) (λ e f. h a b c d e f) z) x y

over : ℤ → ℕ → Fraction
over n d = record { numerator = n; below = d }

abbrev both : ℕ → ℕ → ℕ
both a b = a * suc b + b

-- b is a with numerator and denominator multiplied by one number
scaled : (a b : Fraction) (k : ℕ) → b.numerator ≡ a.numerator *ℤ pos k → suc b.below ≡ suc a.below * k → Eq a b
scaled a b k e f =
    let m : pos (suc b.below) ≡ pos k *ℤ pos (suc a.below) = ap pos (omega arith) in
    record { cross = ap (λ x. a.numerator *ℤ x) m ∙ sym (times_assoc a.numerator (pos k) (pos (suc a.below))) ∙ ap (λ x. x *ℤ pos (suc a.below)) (sym e) }

assoc_raw : (x y z : ℤ) (a b c : ℕ) → (x *ℤ pos (suc (both b c)) +ℤ (y *ℤ pos (suc c) +ℤ z *ℤ pos (suc b)) *ℤ pos (suc a)) ≡ ((x *ℤ pos (suc b) +ℤ y *ℤ pos (suc a)) *ℤ pos (suc c) +ℤ z *ℤ pos (suc (both a b))) *ℤ pos 1
assoc_raw x y z a b c =
    by_three (λ x y z. (x *ℤ pos (suc (both b c)) +ℤ (y *ℤ pos (suc c) +ℤ z *ℤ pos (suc b)) *ℤ pos (suc a)) ≡ ((x *ℤ pos (suc b) +ℤ y *ℤ pos (suc a)) *ℤ pos (suc c) +ℤ z *ℤ pos (suc (both a b))) *ℤ pos 1)
    (λ a1 a2 b1 b2 c1 c2. simp ring (diff_same _ _ _ _ (omega arith))) x y z

assoc_below : (a b c : ℕ) → suc (both a (both b c)) ≡ suc (both (both a b) c) * 1
assoc_below a b c = omega arith

pub sum_assoc : (a b c : Fraction) → Eq (sum (sum a b) c) (sum a (sum b c))
sum_assoc a b c = scaled _ _ 1 (assoc_raw a.numerator b.numerator c.numerator a.below b.below c.below) (assoc_below a.below b.below c.below)

pub sum_comm : (a b : Fraction) → Eq (sum a b) (sum b a)
sum_comm a b =
    by_two (λ x y. Eq (sum record { numerator = x; below = a.below } record { numerator = y; below = b.below }) (sum record { numerator = y; below = b.below } record { numerator = x; below = a.below }))
    (λ a1 a2 b1 b2. record { cross = simp ring (diff_same _ _ _ _ (omega arith)) })
    a.numerator b.numerator

pub zero_sum : (a : Fraction) → Eq (sum (whole (pos 0)) a) a
zero_sum a =
    by_one (λ x. Eq (sum (whole (pos 0)) record { numerator = x; below = a.below }) record { numerator = x; below = a.below })
    (λ a1 a2. record { cross = simp ring (diff_same _ _ _ _ (omega arith)) })
    a.numerator

pub one_product : (a : Fraction) → Eq (product full a) a
one_product a =
    by_one (λ x. Eq (product full record { numerator = x; below = a.below }) record { numerator = x; below = a.below })
    (λ a1 a2. record { cross = simp ring (diff_same _ _ _ _ (omega arith)) })
    a.numerator

pub product_comm : (a b : Fraction) → Eq (product a b) (product b a)
product_comm a b =
    by_two (λ x y. Eq (product record { numerator = x; below = a.below } record { numerator = y; below = b.below }) (product record { numerator = y; below = b.below } record { numerator = x; below = a.below }))
    (λ a1 a2 b1 b2. record { cross = simp ring (diff_same _ _ _ _ (omega arith)) })
    a.numerator b.numerator

pub product_assoc : (a b c : Fraction) → Eq (product (product a b) c) (product a (product b c))
product_assoc a b c =
    by_three (λ x y z. Eq (product (product record { numerator = x; below = a.below } record { numerator = y; below = b.below }) record { numerator = z; below = c.below }) (product record { numerator = x; below = a.below } (product record { numerator = y; below = b.below } record { numerator = z; below = c.below })))
    (λ a1 a2 b1 b2 c1 c2. record { cross = simp ring (diff_same _ _ _ _ (omega arith)) })
    a.numerator b.numerator c.numerator

distribute_raw : (x y z : ℤ) (a b c : ℕ) → ((x *ℤ y) *ℤ pos (suc (both a c)) +ℤ (x *ℤ z) *ℤ pos (suc (both a b))) ≡ (x *ℤ (y *ℤ pos (suc c) +ℤ z *ℤ pos (suc b))) *ℤ pos (suc a)
distribute_raw x y z a b c =
    by_three (λ x y z. ((x *ℤ y) *ℤ pos (suc (both a c)) +ℤ (x *ℤ z) *ℤ pos (suc (both a b))) ≡ (x *ℤ (y *ℤ pos (suc c) +ℤ z *ℤ pos (suc b))) *ℤ pos (suc a))
    (λ a1 a2 b1 b2 c1 c2. simp ring (diff_same _ _ _ _ (omega arith))) x y z

distribute_below : (a b c : ℕ) → suc (both (both a b) (both a c)) ≡ suc (both a (both b c)) * suc a
distribute_below a b c = omega arith

pub distribute : (a b c : Fraction) → Eq (product a (sum b c)) (sum (product a b) (product a c))
distribute a b c = scaled _ _ (suc a.below) (distribute_raw a.numerator b.numerator c.numerator a.below b.below c.below) (distribute_below a.below b.below c.below)

minus_raw : (x y : ℤ) (a b : ℕ) → (x *ℤ neg_ℤ y) *ℤ pos (suc (both (both a 0) b)) ≡ ((x *ℤ negsuc 0) *ℤ y) *ℤ pos (suc (both a b))
minus_raw x y a b =
    by_two (λ x y. (x *ℤ neg_ℤ y) *ℤ pos (suc (both (both a 0) b)) ≡ ((x *ℤ negsuc 0) *ℤ y) *ℤ pos (suc (both a b)))
    (λ a1 a2 b1 b2. simp ring (diff_same _ _ _ _ (omega arith))) x y

pub minus_is : (a b : Fraction) → Eq (product a (minus b)) (product (product a minus_one) b)
minus_is a b = record { cross = minus_raw a.numerator b.numerator a.below b.below }

pub whole_minus : (x y : ℤ) → Eq (whole (x -ℤ y)) (sum (whole x) (minus (whole y)))
whole_minus = by_two (λ x y. Eq (whole (x -ℤ y)) (sum (whole x) (minus (whole y)))) (λ a1 a2 b1 b2. record { cross = simp ring (diff_same _ _ _ _ (omega arith)) })

pub whole_sum : (x y : ℤ) → Eq (whole (x +ℤ y)) (sum (whole x) (whole y))
whole_sum = by_two (λ x y. Eq (whole (x +ℤ y)) (sum (whole x) (whole y))) (λ a1 a2 b1 b2. record { cross = simp ring (diff_same _ _ _ _ (omega arith)) })

pub whole_product : (x y : ℤ) → Eq (whole (x *ℤ y)) (product (whole x) (whole y))
whole_product = by_two (λ x y. Eq (whole (x *ℤ y)) (product (whole x) (whole y))) (λ a1 a2 b1 b2. record { cross = simp ring (diff_same _ _ _ _ (omega arith)) })

-- ---- signs, by the parts of the numerator
pub record NonPositive (a : Fraction) : Type 0 where
  pub fact : up a.numerator ≤ down a.numerator

pub record Negative (a : Fraction) : Type 0 where
  pub fact : up a.numerator < down a.numerator

pub record Zero (a : Fraction) : Type 0 where
  pub fact : up a.numerator ≡ down a.numerator

parts_of_cross : (a b : Fraction) → Eq a b → up a.numerator * suc b.below + down b.numerator * suc a.below ≡ up b.numerator * suc a.below + down a.numerator * suc b.below
parts_of_cross a b e =
    let p = product_is a.numerator (denominator b) in
    let q = product_is b.numerator (denominator a) in
    let o = same_out _ _ e.cross in
    omega arith

pub nonpositive_eq : {a b : Fraction} → Eq a b → NonPositive a → NonPositive b
nonpositive_eq {a = a} {b = b} e h =
    let p = parts_of_cross a b e in
    let m : up a.numerator * suc b.below ≤ down a.numerator * suc b.below = mul-le-mul_right (suc b.below) h.fact in
    let n : up b.numerator * suc a.below ≤ down b.numerator * suc a.below = omega arith in
    record { fact = le_of_mul-le-mul_right {k = suc a.below} n (omega arith) }

pub negative_eq : {a b : Fraction} → Eq a b → Negative a → Negative b
negative_eq {a = a} {b = b} e h =
    let p = parts_of_cross a b e in
    let m : suc (up a.numerator) * suc b.below ≤ down a.numerator * suc b.below = mul-le-mul_right (suc b.below) h.fact in
    let n : up b.numerator * suc a.below < down b.numerator * suc a.below = omega arith in
    record { fact = lt_of_mul-lt-mul_right (suc a.below) n }

pub nonpositive_from_negative : {a : Fraction} → Negative a → NonPositive a
nonpositive_from_negative h = let f = h.fact in record { fact = omega arith }

pub sum_parts : (a b : Fraction) → up (sum a b).numerator + (down a.numerator * suc b.below + down b.numerator * suc a.below) ≡ down (sum a b).numerator + (up a.numerator * suc b.below + up b.numerator * suc a.below)
sum_parts a b =
    let s = sum_is_lem (a.numerator *ℤ denominator b) (b.numerator *ℤ denominator a) in
    let p = product_is a.numerator (denominator b) in
    let q = product_is b.numerator (denominator a) in
    omega arith

pub sum_nonpositive : {a b : Fraction} → NonPositive a → NonPositive b → NonPositive (sum a b)
sum_nonpositive {a = a} {b = b} h k =
    let s = sum_parts a b in
    let m : up a.numerator * suc b.below ≤ down a.numerator * suc b.below = mul-le-mul_right (suc b.below) h.fact in
    let n : up b.numerator * suc a.below ≤ down b.numerator * suc a.below = mul-le-mul_right (suc a.below) k.fact in
    record { fact = omega arith }

pub sum_negative : {a b : Fraction} → Negative a → NonPositive b → Negative (sum a b)
sum_negative {a = a} {b = b} h k =
    let s = sum_parts a b in
    let m : suc (up a.numerator) * suc b.below ≤ down a.numerator * suc b.below = mul-le-mul_right (suc b.below) h.fact in
    let n : up b.numerator * suc a.below ≤ down b.numerator * suc a.below = mul-le-mul_right (suc a.below) k.fact in
    record { fact = omega arith }

pub sum_zero : {a b : Fraction} → Zero a → Zero b → Zero (sum a b)
sum_zero {a = a} {b = b} h k =
    let s = sum_parts a b in
    let m = ap (λ x. x * suc b.below) h.fact in
    let n = ap (λ x. x * suc a.below) k.fact in
    record { fact = omega arith }

-- the sign of a product
pub product_nonpositive : (a b : Fraction) → down a.numerator ≡ 0 → NonPositive b → NonPositive (product a b)
product_nonpositive a b h k =
    let p = product_is a.numerator b.numerator in
    let m : up b.numerator * up a.numerator ≤ down b.numerator * up a.numerator = mul-le-mul_right (up a.numerator) k.fact in
    let n = ap (λ x. x * up b.numerator) h in
    let o = ap (λ x. x * down b.numerator) h in
    record { fact = omega arith }

pub product_negative : (a b : Fraction) → down a.numerator ≡ 0 → 0 < up a.numerator → Negative b → Negative (product a b)
product_negative a b h z k =
    let p = product_is a.numerator b.numerator in
    let m : suc (up b.numerator) * up a.numerator ≤ down b.numerator * up a.numerator = mul-le-mul_right (up a.numerator) k.fact in
    let n = ap (λ x. x * up b.numerator) h in
    let o = ap (λ x. x * down b.numerator) h in
    record { fact = omega arith }

pub product_zero_left : (a b : Fraction) → Zero a → Zero (product a b)
product_zero_left a b h =
    let p = product_is a.numerator b.numerator in
    let m = ap (λ x. x * up b.numerator) h.fact in
    let n = ap (λ x. x * down b.numerator) h.fact in
    record { fact = omega arith }

pub product_zero_right : (a b : Fraction) → Zero b → Zero (product a b)
product_zero_right a b h =
    let p = product_is a.numerator b.numerator in
    let m = ap (λ x. x * up a.numerator) h.fact in
    let n = ap (λ x. x * down a.numerator) h.fact in
    record { fact = omega arith }

pub minus_eq : {a b : Fraction} → Eq a b → Eq (minus a) (minus b)
minus_eq {a = a} {b = b} e =
    let p = parts_of_cross a b e in
    let m = neg_is a.numerator in
    let n = neg_is b.numerator in
    let q = product_is (neg_ℤ a.numerator) (denominator b) in
    let r = product_is (neg_ℤ b.numerator) (denominator a) in
    let m1 = ap (λ x. x * suc b.below) m.0 in
    let m2 = ap (λ x. x * suc b.below) m.1 in
    let n1 = ap (λ x. x * suc a.below) n.0 in
    let n2 = ap (λ x. x * suc a.below) n.1 in
    record { cross = same_in _ _ (omega arith) }

pub sum_zero_right : (a : Fraction) → Eq (sum a (whole (pos 0))) a
sum_zero_right a = eq_trans (sum_comm a (whole (pos 0))) (zero_sum a)

pub times_zero : (a : Fraction) → Eq (product a (whole (pos 0))) (whole (pos 0))
times_zero a =
    by_one (λ x. Eq (product record { numerator = x; below = a.below } (whole (pos 0))) (whole (pos 0)))
    (λ a1 a2. record { cross = simp ring (diff_same _ _ _ _ (omega arith)) })
    a.numerator

pub minus_one_product : (a : Fraction) → Eq (product minus_one a) (minus a)
minus_one_product a =
    by_one (λ x. Eq (product minus_one record { numerator = x; below = a.below }) (minus record { numerator = x; below = a.below }))
    (λ a1 a2. record { cross = simp ring (diff_same _ _ _ _ (omega arith)) })
    a.numerator

pub distribute_right : (a b c : Fraction) → Eq (product (sum a b) c) (sum (product a c) (product b c))
distribute_right a b c = eq_trans (product_comm (sum a b) c) (eq_trans (distribute c a b) (sum_eq (product_comm c a) (product_comm c b)))

-- (a + b) + c and (a + c) + b
pub sum_swap : (a b c : Fraction) → Eq (sum (sum a b) c) (sum (sum a c) b)
sum_swap a b c = eq_trans (sum_assoc a b c) (eq_trans (sum_eq (eq_refl a) (sum_comm b c)) (eq_sym (sum_assoc a c b)))

-- with a part that is zero
pub nonpositive_part : (a b : Fraction) → Zero b → NonPositive (sum a b) → NonPositive a
nonpositive_part a b z h =
    let s = sum_parts a b in
    let f = h.fact in
    let n = ap (λ x. x * suc a.below) z.fact in
    let m : up a.numerator * suc b.below ≤ down a.numerator * suc b.below = omega arith in
    record { fact = le_of_mul-le-mul_right {k = suc b.below} m (omega arith) }

pub negative_part : (a b : Fraction) → Zero b → Negative (sum a b) → Negative a
negative_part a b z h =
    let s = sum_parts a b in
    let f = h.fact in
    let n = ap (λ x. x * suc a.below) z.fact in
    let m : up a.numerator * suc b.below < down a.numerator * suc b.below = omega arith in
    record { fact = lt_of_mul-lt-mul_right (suc b.below) m }

pub zero_from : (a : Fraction) → a.numerator ≡ pos 0 → Zero a
zero_from a e = record { fact = ap up e ∙ sym (ap down e) }

pub zero_nonpositive : {a : Fraction} → Zero a → NonPositive a
zero_nonpositive h = let f = h.fact in record { fact = omega arith }

pub zero_eq : {a b : Fraction} → Eq a b → Zero a → Zero b
zero_eq {a = a} {b = b} e h =
    let p = parts_of_cross a b e in
    let m = ap (λ x. x * suc b.below) h.fact in
    let n : up b.numerator * suc a.below ≤ down b.numerator * suc a.below = omega arith in
    let o : down b.numerator * suc a.below ≤ up b.numerator * suc a.below = omega arith in
    record { fact = le_antisymm (le_of_mul-le-mul_right {k = suc a.below} n (omega arith)) (le_of_mul-le-mul_right {k = suc a.below} o (omega arith)) }
