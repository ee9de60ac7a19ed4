-- Further laws of amounts: products.
use Rattle.std.proofs.Common.{◌≡◌, ℕ, zero, suc, ◌+◌, ◌*◌, ℤ, pos, negsuc, ◌+ℤ◌, ◌*ℤ◌, true, refl, sym, ◌∙◌, ap, ap₂, subst, arith}
use Rattle.std.specs.Prelude.{int_lt, int_le}
use Rattle.std.specs.Ordering.{int_eq}
use Rattle.std.proofs.lemmas.Int.{ints}
use Rattle.vx_frac.specs.Fractions.{Fraction, denominator, none, full, sum, minus, difference, product}
use Rattle.vx_amounts.proofs.Ring.{diff, by_diff, diff_same, ring, times_assoc}
use Rattle.vx_amounts.proofs.Amounts.{Le, Positive, Same, same-of, same-refl, same-trans, le-trans, sum_same, product_same, none-sum, sum-minus, sum_comm, sum_assoc, add-left, difference-none}

int_same : (x y : ℤ) → x ≡ y → int_eq x y ≡ true
int_same x y e = grind (arith, ints)

same_cross : {a b : Fraction} → a.numerator *ℤ denominator b ≡ b.numerator *ℤ denominator a → Same a b
same_cross {a = a} {b = b} e = same-of (int_same (a.numerator *ℤ denominator b) (b.numerator *ℤ denominator a) e)

abbrev both : ℕ → ℕ → ℕ
both a b = a * suc b + b

by_two : (P : ℤ → ℤ → Type 0) → ((a b c d : ℕ) → P (diff a b) (diff c d)) → (x y : ℤ) → P x y
by_two P h x y = by_diff (λ x. P x y) (λ a b. by_diff (λ y. P (diff a b) y) (λ c d. h a b c d) y) x

by_three : (P : ℤ → ℤ → ℤ → Type 0) → ((a b c d e f : ℕ) → P (diff a b) (diff c d) (diff e f)) → (x y z : ℤ) → P x y z
by_three P h x y z = by_two (λ x y. P x y z) (λ a b c d. by_diff (λ z. P (diff a b) (diff c d) z) (λ e f. h a b c d e f) z) x y

comm_int : (x y : ℤ) → x *ℤ y ≡ y *ℤ x
comm_int x y = by_two (λ x y. x *ℤ y ≡ y *ℤ x) (λ a b c d. simp ring (diff_same _ _ _ _ (omega arith))) x y

dist_int : (x y z : ℤ) → x *ℤ (y +ℤ z) ≡ x *ℤ y +ℤ x *ℤ z
dist_int x y z = by_three (λ x y z. x *ℤ (y +ℤ z) ≡ x *ℤ y +ℤ x *ℤ z) (λ a b c d e f. simp ring (diff_same _ _ _ _ (omega arith))) x y z

full_raw : (x : ℤ) (a : ℕ) → (x *ℤ pos 1) *ℤ pos (suc a) ≡ x *ℤ pos (suc (both a 0))
full_raw x a = by_diff (λ x. (x *ℤ pos 1) *ℤ pos (suc a) ≡ x *ℤ pos (suc (both a 0))) (λ a1 a2. simp ring (diff_same _ _ _ _ (omega arith))) x

pub product-full : (a : Fraction) → Same (product a full) a
product-full a = same_cross (full_raw a.numerator a.below)

nil_raw : (x : ℤ) (a : ℕ) → (x *ℤ pos 0) *ℤ pos 1 ≡ pos 0 *ℤ pos (suc (both a 0))
nil_raw x a = by_diff (λ x. (x *ℤ pos 0) *ℤ pos 1 ≡ pos 0 *ℤ pos (suc (both a 0))) (λ a1 a2. simp ring (diff_same _ _ _ _ (omega arith))) x

pub product-none : (a : Fraction) → Same (product a none) none
product-none a = same_cross (nil_raw a.numerator a.below)

below_comm : (a b : ℕ) → both a b ≡ both b a
below_comm a b = omega arith

pub product_comm : (a b : Fraction) → product a b ≡ product b a
product_comm a b = ap₂ (λ (x : ℤ) (n : ℕ). let f : Fraction = record { numerator = x; below = n } in f) (comm_int a.numerator b.numerator) (below_comm a.below b.below)

below_assoc : (a b c : ℕ) → both (both a b) c ≡ both a (both b c)
below_assoc a b c = omega arith

pub product_assoc : (a b c : Fraction) → product (product a b) c ≡ product a (product b c)
product_assoc a b c = ap₂ (λ (x : ℤ) (n : ℕ). let f : Fraction = record { numerator = x; below = n } in f) (times_assoc a.numerator b.numerator c.numerator) (below_assoc a.below b.below c.below)

-- x (y b + z a) over q (a b), and (x y) (q b) + (x z) (q a) over (q a) (q b)
scale_out : (m : ℤ) (x y z : ℤ) (q a b : ℕ) →
    (x *ℤ y) *ℤ pos (suc (both q b)) +ℤ (x *ℤ z) *ℤ pos (suc (both q a)) ≡ (x *ℤ (y *ℤ pos (suc b) +ℤ z *ℤ pos (suc a))) *ℤ pos (suc q)
scale_out m x y z q a b =
    by_three (λ x y z. (x *ℤ y) *ℤ pos (suc (both q b)) +ℤ (x *ℤ z) *ℤ pos (suc (both q a)) ≡ (x *ℤ (y *ℤ pos (suc b) +ℤ z *ℤ pos (suc a))) *ℤ pos (suc q))
    (λ a1 a2 b1 b2 c1 c2. simp ring (diff_same _ _ _ _ (omega arith))) x y z

pos_times : (m n : ℕ) → pos m *ℤ pos n ≡ pos (m * n)
pos_times m n = refl

below_spread : (q a b : ℕ) → suc q * suc (both q (both a b)) ≡ suc (both (both q a) (both q b))
below_spread q a b = omega arith

pub product_sum : (q a b : Fraction) → Same (product q (sum a b)) (sum (product q a) (product q b))
product_sum q a b =
    let n = q.numerator *ℤ (a.numerator *ℤ denominator b +ℤ b.numerator *ℤ denominator a) in
    let k = suc (both q.below (both a.below b.below)) in
    same_cross (
    ap (λ (m : ℕ). n *ℤ pos m) (sym (below_spread q.below a.below b.below))
    ∙ ap (λ (m : ℤ). n *ℤ m) (sym (pos_times (suc q.below) k))
    ∙ sym (times_assoc n (pos (suc q.below)) (pos k))
    ∙ ap (λ (m : ℤ). m *ℤ pos k) (sym (scale_out (pos 0) q.numerator a.numerator b.numerator q.below a.below b.below)))

-- signs

positive_number : (z : ℤ) (k : ℕ) → int_lt (pos 0 *ℤ pos (suc k)) (z *ℤ pos 1) ≡ true → (n : ℕ) × (z ≡ pos (suc n))
positive_number (pos zero) k e = absurd (grind (arith, ints))
positive_number (pos (suc n)) k e = (n, refl)
positive_number (negsuc n) k e = absurd (grind (arith, ints))

whole_number : (z : ℤ) (k : ℕ) → int_le (pos 0 *ℤ pos (suc k)) (z *ℤ pos 1) ≡ true → (n : ℕ) × (z ≡ pos n)
whole_number (pos n) k e = (n, refl)
whole_number (negsuc n) k e = absurd (grind (arith, ints))

is_whole : (z : ℤ) (k n : ℕ) → z ≡ pos n → int_le (pos 0 *ℤ pos (suc k)) (z *ℤ pos 1) ≡ true
is_whole z k n e = subst (λ z. int_le (pos 0 *ℤ pos (suc k)) (z *ℤ pos 1) ≡ true) (sym e) (grind (arith, ints))

is_positive_number : (z : ℤ) (k n : ℕ) → z ≡ pos (suc n) → int_lt (pos 0 *ℤ pos (suc k)) (z *ℤ pos 1) ≡ true
is_positive_number z k n e = subst (λ z. int_lt (pos 0 *ℤ pos (suc k)) (z *ℤ pos 1) ≡ true) (sym e) (grind (arith, ints))

pub product_sign : {a b : Fraction} → Le none a → Le none b → Le none (product a b)
product_sign {a = a} {b = b} h k =
    let x = whole_number a.numerator a.below h.holds in
    let y = whole_number b.numerator b.below k.holds in
    record { holds = is_whole (product a b).numerator (product a b).below (x.0 * y.0) (ap₂ (λ (m n : ℤ). m *ℤ n) x.1 y.1) }

suc_times : (m n : ℕ) → suc m * suc n ≡ suc (m * suc n + n)
suc_times m n = omega arith

pub product_positive : {a b : Fraction} → Positive a → Positive b → Positive (product a b)
product_positive {a = a} {b = b} h k =
    let x = positive_number a.numerator a.below h.holds in
    let y = positive_number b.numerator b.below k.holds in
    record { holds = is_positive_number (product a b).numerator (product a b).below (x.0 * suc y.0 + y.0) (ap₂ (λ (m n : ℤ). m *ℤ n) x.1 y.1 ∙ ap pos (suc_times x.0 y.0)) }

pub positive_le : {a : Fraction} → Positive a → Le none a
positive_le {a = a} h =
    let x = positive_number a.numerator a.below h.holds in
    record { holds = is_whole a.numerator a.below (suc x.0) x.1 }

add-back : (b c : Fraction) → Same (sum b (difference c b)) c
add-back b c = same-trans (sum_comm b (sum c (minus b))) (same-trans (sum_assoc c (minus b) b) (same-trans (sum_same (same-refl c) (same-trans (sum_comm (minus b) b) (sum-minus b))) (same-trans (sum_comm c none) (none-sum c))))

above : (x y : Fraction) → Le none y → Le x (sum x y)
above x y h = le-trans (none-sum x).back (le-trans (sum_comm none x).there (add-left x h))

pub product_mono : {b c : Fraction} (a : Fraction) → Le none a → Le b c → Le (product a b) (product a c)
product_mono {b = b} {c = c} a h k =
    le-trans (above (product a b) (product a (difference c b)) (product_sign h (difference-none k)))
    (le-trans (product_sum a b (difference c b)).back (product_same (same-refl a) (add-back b c)).there)

pub product_dist : (a b q : Fraction) → Same (product (sum a b) q) (sum (product a q) (product b q))
product_dist a b q =
    let e : Same (product (sum a b) q) (product q (sum a b)) = subst (Same (product (sum a b) q)) (product_comm (sum a b) q) (same-refl (product (sum a b) q)) in
    let f : Same (sum (product q a) (product q b)) (sum (product a q) (product b q)) = subst (Same (sum (product q a) (product q b))) (ap₂ sum (product_comm q a) (product_comm q b)) (same-refl (sum (product q a) (product q b))) in
    same-trans e (same-trans (product_sum q a b) f)
