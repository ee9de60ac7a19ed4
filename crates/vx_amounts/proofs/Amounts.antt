-- The laws of amounts that the proof rests on, all of them in terms of `at_most`.
use Rattle.std.proofs.Common.{◌≡◌, ℕ, zero, suc, ◌+◌, ◌*◌, ◌≤◌, ℤ, pos, negsuc, ◌+ℤ◌, ◌*ℤ◌, neg_ℤ, Bool, true, false, not, refl, sym, ◌∙◌, ap, ap₂, subst, arith, true≢false, mul-le-mul_right}
use Rattle.std.specs.Prelude.{int_lt, int_le}
use Rattle.std.specs.Ordering.{int_eq}
use Rattle.std.proofs.lemmas.Int.{ints}
use borrow.Author.Differences.{up, down, product_is, sum_is_lem}
use Rattle.vx_frac.specs.Fractions.{Fraction, denominator, none, full, same_fraction, at_most, is_below, is_positive, sum, minus, difference, product, lowest}
use Rattle.vx_frac.proofs.Lowest.{lowest-same, same-lowest}
use Rattle.vx_frac.proofs.Sums.{at_most-self}
use Rattle.vx_frac.proofs.Order.{at_most-trans}
use Rattle.vx_amounts.proofs.Ring.{diff, by_diff, diff_same, ring}

pub record Le (a b : Fraction) : Type 0 where
  pub holds : at_most a b ≡ true

pub record Positive (a : Fraction) : Type 0 where
  pub holds : is_positive a ≡ true

pub le-refl : (a : Fraction) → Le a a
le-refl a = record { holds = at_most-self a }

pub le-trans : {a b c : Fraction} → Le a b → Le b c → Le a c
le-trans {a = a} {b = b} {c = c} h k = record { holds = at_most-trans a b c h.holds k.holds }

pub le-is : {a b : Fraction} → a ≡ b → Le a b
le-is {a = a} e = subst (Le a) e (le-refl a)

-- The order as a test

not_le : (x y : ℤ) → int_le x y ≡ false → int_le y x ≡ true
not_le x y e = grind (arith, ints)

lt_not_le : (x y : ℤ) → int_lt x y ≡ not (int_le y x)
lt_not_le x y = grind (arith, ints)

eq_le : (x y : ℤ) → int_eq x y ≡ true → int_le x y ≡ true
eq_le x y e = grind (arith, ints)

le_eq : (x y : ℤ) → int_le x y ≡ true → int_le y x ≡ true → int_eq x y ≡ true
le_eq x y e f = grind (arith, ints)

eq_swap : (x y : ℤ) → int_eq x y ≡ true → int_eq y x ≡ true
eq_swap x y e = grind (arith, ints)

int_same : (x y : ℤ) → x ≡ y → int_eq x y ≡ true
int_same x y e = grind (arith, ints)

pub le-total : (a b : Fraction) → at_most a b ≡ false → Le b a
le-total a b h = record { holds = not_le (a.numerator *ℤ denominator b) (b.numerator *ℤ denominator a) h }

pub below_is : (a b : Fraction) → is_below a b ≡ not (at_most b a)
below_is a b = lt_not_le (a.numerator *ℤ denominator b) (b.numerator *ℤ denominator a)

not_both : (b : Bool) → not b ≡ true → b ≡ true → ⊥
not_both true e f = true≢false (sym e)
not_both false e f = true≢false (sym f)

pub not-positive : {a : Fraction} → Positive a → Le a none → ⊥
not-positive {a = a} p h = not_both _ (sym (below_is none a) ∙ p.holds) h.holds

pub positive-or : {R : Type 0} (a : Fraction) → (Positive a → R) → (Le a none → R) → R
positive-or {R = R} a f g = go (at_most a none) refl
  where
    go : (b : Bool) → at_most a none ≡ b → R
    go true e = g (record { holds = e })
    go false e = f (record { holds = below_is none a ∙ ap not e })

pub positive-le : {a b : Fraction} → Positive a → Le a b → Positive b
positive-le {b = b} p h = positive-or b (λ q. q) (λ q. absurd (not-positive p (le-trans h q)))

pub is_positive_not : (a : Fraction) → is_positive a ≡ false → Le a none
is_positive_not a e = positive-or a (λ p. absurd (true≢false (sym p.holds ∙ e))) (λ q. q)

-- The same both ways

pub record Same (a b : Fraction) : Type 0 where
  pub there : Le a b
  pub back : Le b a

pub same-of : {a b : Fraction} → same_fraction a b ≡ true → Same a b
same-of {a = a} {b = b} e = record {
  there = record { holds = eq_le (a.numerator *ℤ denominator b) (b.numerator *ℤ denominator a) e };
  back = record { holds = eq_le (b.numerator *ℤ denominator a) (a.numerator *ℤ denominator b) (eq_swap (a.numerator *ℤ denominator b) (b.numerator *ℤ denominator a) e) };
}

pub same_is : {a b : Fraction} → Same a b → same_fraction a b ≡ true
same_is {a = a} {b = b} s = le_eq (a.numerator *ℤ denominator b) (b.numerator *ℤ denominator a) s.there.holds s.back.holds

pub same-refl : (a : Fraction) → Same a a
same-refl a = record { there = le-refl a; back = le-refl a }

pub same-sym : {a b : Fraction} → Same a b → Same b a
same-sym s = record { there = s.back; back = s.there }

pub same-trans : {a b c : Fraction} → Same a b → Same b c → Same a c
same-trans s t = record { there = le-trans s.there t.there; back = le-trans t.back s.back }

pub same-lowest' : (a : Fraction) → Same (lowest a) a
same-lowest' a = same-of (same-lowest a)

pub lowest_is : {a b : Fraction} → Same a b → lowest a ≡ lowest b
lowest_is {a = a} {b = b} s = lowest-same a b (same_is s)

same_cross : {a b : Fraction} → a.numerator *ℤ denominator b ≡ b.numerator *ℤ denominator a → Same a b
same_cross {a = a} {b = b} e = same-of (int_same (a.numerator *ℤ denominator b) (b.numerator *ℤ denominator a) e)

-- Sums

by_two : (P : ℤ → ℤ → Type 0) → ((a b c d : ℕ) → P (diff a b) (diff c d)) → (x y : ℤ) → P x y
by_two P h x y = by_diff (λ x. P x y) (λ a b. by_diff (λ y. P (diff a b) y) (λ c d. h a b c d) y) x

by_three : (P : ℤ → ℤ → ℤ → Type 0) → ((a b c d e f : ℕ) → P (diff a b) (diff c d) (diff e f)) → (x y z : ℤ) → P x y z
by_three P h x y z = by_two (λ x y. P x y z) (λ a b c d. by_diff (λ z. P (diff a b) (diff c d) z) (λ e f. h a b c d e f) z) x y

abbrev both : ℕ → ℕ → ℕ
both a b = a * suc b + b

comm_raw : (x y : ℤ) (a b : ℕ) → (x *ℤ pos (suc b) +ℤ y *ℤ pos (suc a)) *ℤ pos (suc (both b a)) ≡ (y *ℤ pos (suc a) +ℤ x *ℤ pos (suc b)) *ℤ pos (suc (both a b))
comm_raw x y a b =
    by_two (λ x y. (x *ℤ pos (suc b) +ℤ y *ℤ pos (suc a)) *ℤ pos (suc (both b a)) ≡ (y *ℤ pos (suc a) +ℤ x *ℤ pos (suc b)) *ℤ pos (suc (both a b)))
    (λ a1 a2 b1 b2. simp ring (diff_same _ _ _ _ (omega arith))) x y

pub sum_comm : (a b : Fraction) → Same (sum a b) (sum b a)
sum_comm a b = same_cross (comm_raw a.numerator b.numerator a.below b.below)

assoc_raw : (x y z : ℤ) (a b c : ℕ) → (x *ℤ pos (suc b) +ℤ y *ℤ pos (suc a)) *ℤ pos (suc c) +ℤ z *ℤ pos (suc (both a b)) ≡ x *ℤ pos (suc (both b c)) +ℤ (y *ℤ pos (suc c) +ℤ z *ℤ pos (suc b)) *ℤ pos (suc a)
assoc_raw x y z a b c =
    by_three (λ x y z. (x *ℤ pos (suc b) +ℤ y *ℤ pos (suc a)) *ℤ pos (suc c) +ℤ z *ℤ pos (suc (both a b)) ≡ x *ℤ pos (suc (both b c)) +ℤ (y *ℤ pos (suc c) +ℤ z *ℤ pos (suc b)) *ℤ pos (suc a))
    (λ a1 a2 b1 b2 c1 c2. simp ring (diff_same _ _ _ _ (omega arith))) x y z

assoc_below : (a b c : ℕ) → suc (both a (both b c)) ≡ suc (both (both a b) c)
assoc_below a b c = omega arith

pub sum_assoc : (a b c : Fraction) → Same (sum (sum a b) c) (sum a (sum b c))
sum_assoc a b c =
    same_cross (ap₂ (λ (x : ℤ) (n : ℕ). x *ℤ pos n) (assoc_raw a.numerator b.numerator c.numerator a.below b.below c.below) (assoc_below a.below b.below c.below))

zero_raw : (x : ℤ) (a : ℕ) → (pos 0 *ℤ pos (suc a) +ℤ x *ℤ pos 1) *ℤ pos (suc a) ≡ x *ℤ pos (suc (both 0 a))
zero_raw x a = by_diff (λ x. (pos 0 *ℤ pos (suc a) +ℤ x *ℤ pos 1) *ℤ pos (suc a) ≡ x *ℤ pos (suc (both 0 a))) (λ a1 a2. simp ring (diff_same _ _ _ _ (omega arith))) x

pub none-sum : (a : Fraction) → Same (sum none a) a
none-sum a = same_cross (zero_raw a.numerator a.below)

minus_raw : (x : ℤ) (a : ℕ) → (x *ℤ pos (suc a) +ℤ neg_ℤ x *ℤ pos (suc a)) *ℤ pos 1 ≡ pos 0 *ℤ pos (suc (both a a))
minus_raw x a = by_diff (λ x. (x *ℤ pos (suc a) +ℤ neg_ℤ x *ℤ pos (suc a)) *ℤ pos 1 ≡ pos 0 *ℤ pos (suc (both a a))) (λ a1 a2. simp ring (diff_same _ _ _ _ (omega arith))) x

pub sum-minus : (a : Fraction) → Same (sum a (minus a)) none
sum-minus a = same_cross (minus_raw a.numerator a.below)

-- the order of sums
sum_up : (a b : Fraction) → up (sum a b).numerator + (down a.numerator * suc b.below + down b.numerator * suc a.below) ≡ down (sum a b).numerator + (up a.numerator * suc b.below + up b.numerator * suc a.below)
sum_up a b =
    let s = sum_is_lem (a.numerator *ℤ denominator b) (b.numerator *ℤ denominator a) in
    let p = product_is a.numerator (denominator b) in
    let q = product_is b.numerator (denominator a) in
    omega arith

le_numbers : (x y : ℤ) → int_le x y ≡ true → up x + down y ≤ up y + down x
le_numbers (pos m) (pos n) e = grind (arith, ints)
le_numbers (pos m) (negsuc n) e = absurd (grind (arith, ints))
le_numbers (negsuc m) (pos n) e = omega arith
le_numbers (negsuc m) (negsuc n) e = grind (arith, ints)

numbers_le : (x y : ℤ) → up x + down y ≤ up y + down x → int_le x y ≡ true
numbers_le (pos m) (pos n) e = grind (arith, ints)
numbers_le (pos m) (negsuc n) e = absurd (omega arith)
numbers_le (negsuc m) (pos n) e = grind (arith, ints)
numbers_le (negsuc m) (negsuc n) e = grind (arith, ints)

le_out : {a b : Fraction} → Le a b → up a.numerator * suc b.below + down b.numerator * suc a.below ≤ up b.numerator * suc a.below + down a.numerator * suc b.below
le_out {a = a} {b = b} h =
    let e = le_numbers (a.numerator *ℤ denominator b) (b.numerator *ℤ denominator a) h.holds in
    let p = product_is a.numerator (denominator b) in
    let q = product_is b.numerator (denominator a) in
    omega arith

le_in : {a b : Fraction} → up a.numerator * suc b.below + down b.numerator * suc a.below ≤ up b.numerator * suc a.below + down a.numerator * suc b.below → Le a b
le_in {a = a} {b = b} h =
    let p = product_is a.numerator (denominator b) in
    let q = product_is b.numerator (denominator a) in
    record { holds = numbers_le (a.numerator *ℤ denominator b) (b.numerator *ℤ denominator a) (omega arith) }

mono_raw : (su sd tu td xu xd yu yd zu zd a b c : ℕ) →
    su + (xd * suc c + zd * suc a) ≡ sd + (xu * suc c + zu * suc a) → tu + (yd * suc c + zd * suc b) ≡ td + (yu * suc c + zu * suc b) →
    (xu * suc b + yd * suc a) * (suc c * suc c) ≤ (yu * suc a + xd * suc b) * (suc c * suc c) →
    su * suc (both b c) + td * suc (both a c) ≤ tu * suc (both a c) + sd * suc (both b c)
mono_raw su sd tu td xu xd yu yd zu zd a b c e f h =
    let e' = ap (λ n. n * (suc b * suc c)) e in
    let f' = ap (λ n. n * (suc a * suc c)) f in
    omega arith

-- one more on the right
pub add-right : {a b : Fraction} (c : Fraction) → Le a b → Le (sum a c) (sum b c)
add-right {a = a} {b = b} c h =
    le_in (mono_raw _ _ _ _ (up a.numerator) (down a.numerator) (up b.numerator) (down b.numerator) (up c.numerator) (down c.numerator) a.below b.below c.below (sum_up a c) (sum_up b c)
    (mul-le-mul_right (suc c.below * suc c.below) (le_out h)))

pub add-left : {a b : Fraction} (c : Fraction) → Le a b → Le (sum c a) (sum c b)
add-left {a = a} {b = b} c h = le-trans (sum_comm c a).there (le-trans (add-right c h) (sum_comm b c).there)

pub add-mono : {a b c d : Fraction} → Le a b → Le c d → Le (sum a c) (sum b d)
add-mono {b = b} {c = c} h k = le-trans (add-right c h) (add-left b k)

pub sum_same : {a b c d : Fraction} → Same a b → Same c d → Same (sum a c) (sum b d)
sum_same s t = record { there = add-mono s.there t.there; back = add-mono s.back t.back }

pub add-swap : (a b c : Fraction) → Le (sum a (sum b c)) (sum b (sum a c))
add-swap a b c = le-trans (sum_assoc a b c).back (le-trans (add-right c (sum_comm a b).there) (sum_assoc b a c).there)

pub above-add : (x y : Fraction) → Le none y → Le x (sum x y)
above-add x y h = le-trans (le-trans (none-sum x).back (sum_comm none x).there) (add-left x h)

pub add-above : (m a : Fraction) → Le none m → Le a (sum m a)
add-above m a h = le-trans (none-sum a).back (add-right a h)

pub below-add : {x : Fraction} (y : Fraction) → Le none x → Le y (sum x y)
below-add {x = x} y h = add-above x y h

pub add-below : {x : Fraction} (y : Fraction) → Le x none → Le (sum x y) y
add-below y h = le-trans (add-right y h) (none-sum y).there

pub none-none : {a b : Fraction} → Le none a → Le none b → Le none (sum a b)
none-none {a = a} {b = b} h k = le-trans h (above-add a b k)

pub none-full : Le none full
none-full = record { holds = refl }

pub full-positive : Positive full
full-positive = record { holds = refl }

-- a number less
pub minus_none : {a : Fraction} → Le none a → Le (minus a) none
minus_none {a = a} h = le-trans (add-above a (minus a) h) (sum-minus a).there

pub none_minus : {a : Fraction} → Le a none → Le none (minus a)
none_minus {a = a} h = le-trans (sum-minus a).back (add-below (minus a) h)

-- moved from one side to the other
pub cancel-left : {a b : Fraction} (c : Fraction) → Le (sum c a) (sum c b) → Le a b
cancel-left {a = a} {b = b} c h = le-trans (back a) (le-trans (add-left (minus c) h) (forth b))
  where
    forth : (x : Fraction) → Le (sum (minus c) (sum c x)) x
    forth x = le-trans (sum_assoc (minus c) c x).back (le-trans (add-right x (le-trans (sum_comm (minus c) c).there (sum-minus c).there)) (none-sum x).there)

    back : (x : Fraction) → Le x (sum (minus c) (sum c x))
    back x = le-trans (none-sum x).back (le-trans (add-right x (le-trans (sum-minus c).back (sum_comm c (minus c)).there)) (sum_assoc (minus c) c x).there)

-- beside the whole there is nothing
pub add-full : (a x : Fraction) → Le full a → Le (sum a x) full → Le x none
add-full a x h k = cancel-left full (le-trans (add-right x h) (le-trans k (le-trans (none-sum full).back (sum_comm none full).there)))

pub difference-none : {a b : Fraction} → Le a b → Le none (difference b a)
difference-none {a = a} {b = b} h = le-trans (sum-minus a).back (add-right (minus a) h)

pub difference-below : (m a : Fraction) → Le none a → Le (difference m a) m
difference-below m a h = le-trans (add-left m (minus_none h)) (le-trans (sum_comm m none).there (none-sum m).there)

-- taken from both
pub difference-move : (b x m a : Fraction) → Le (sum b x) m → Le (sum (difference b a) x) (sum (minus a) m)
difference-move b x m a h =
    le-trans (add-right x (sum_comm b (minus a)).there) (le-trans (sum_assoc (minus a) b x).there (add-left (minus a) h))

pub minus_same : {a b : Fraction} → Same a b → Same (minus a) (minus b)
minus_same {a = a} {b = b} s = record { there = go s; back = go (same-sym s) }
  where
    go : {a b : Fraction} → Same a b → Le (minus a) (minus b)
    go {a = a} {b = b} s =
        cancel-left a (le-trans (sum-minus a).there (le-trans (sum-minus b).back (add-right (minus b) s.back)))

pub difference_same : {a b c d : Fraction} → Same a b → Same c d → Same (difference a c) (difference b d)
difference_same s t = sum_same s (minus_same t)

-- Products

product_raw : (x y z w : ℤ) (a b c d : ℕ) → x *ℤ pos (suc c) ≡ z *ℤ pos (suc a) → y *ℤ pos (suc d) ≡ w *ℤ pos (suc b) → (x *ℤ y) *ℤ pos (suc (both c d)) ≡ (z *ℤ w) *ℤ pos (suc (both a b))
product_raw x y z w a b c d e f = spread x y c d ∙ ap₂ (λ (x y : ℤ). x *ℤ y) e f ∙ sym (spread z w a b)
  where
    spread : (n m : ℤ) (c d : ℕ) → (n *ℤ m) *ℤ pos (suc (both c d)) ≡ (n *ℤ pos (suc c)) *ℤ (m *ℤ pos (suc d))
    spread n m c d = by_two (λ n m. (n *ℤ m) *ℤ pos (suc (both c d)) ≡ (n *ℤ pos (suc c)) *ℤ (m *ℤ pos (suc d))) (λ n1 n2 m1 m2. simp ring (diff_same _ _ _ _ (omega arith))) n m

cross_of : {a b : Fraction} → Same a b → a.numerator *ℤ denominator b ≡ b.numerator *ℤ denominator a
cross_of {a = a} {b = b} s = int_is (a.numerator *ℤ denominator b) (b.numerator *ℤ denominator a) (same_is s)
  where
    int_is : (x y : ℤ) → int_eq x y ≡ true → x ≡ y
    int_is x y e = grind (arith, ints)

pub product_same : {a b c d : Fraction} → Same a b → Same c d → Same (product a c) (product b d)
product_same {a = a} {b = b} {c = c} {d = d} s t =
    same_cross (product_raw a.numerator c.numerator b.numerator d.numerator a.below c.below b.below d.below (cross_of s) (cross_of t))

positive_numerator : (z : ℤ) (k : ℕ) → int_lt (pos 0 *ℤ pos (suc k)) (z *ℤ pos 1) ≡ true → (n : ℕ) × (z ≡ pos (suc n))
positive_numerator (pos zero) k e = absurd (grind (arith, ints))
positive_numerator (pos (suc n)) k e = (n, refl)
positive_numerator (negsuc n) k e = absurd (grind (arith, ints))

-- an amount is at least none where a positive scale times it is
pub unscaled : (q a : Fraction) → Positive q → Le none (product q a) → Le none a
unscaled q a p h =
    let n = positive_numerator q.numerator q.below p.holds in
    go a.numerator refl n.0 (subst (λ z. int_le (pos 0 *ℤ denominator (product q a)) ((z *ℤ a.numerator) *ℤ pos 1) ≡ true) n.1 h.holds)
  where
    go : (z : ℤ) → a.numerator ≡ z → (n : ℕ) → int_le (pos 0 *ℤ denominator (product q a)) ((pos (suc n) *ℤ a.numerator) *ℤ pos 1) ≡ true → Le none a
    go (pos m) e n h = record { holds = subst (λ z. int_le (pos 0 *ℤ denominator a) (z *ℤ pos 1) ≡ true) (sym e) (grind (arith, ints)) }
    go (negsuc m) e n h = absurd (wrong n m (common' q a) (subst (λ z. int_le (pos 0 *ℤ denominator (product q a)) ((pos (suc n) *ℤ z) *ℤ pos 1) ≡ true) e h))
      where
        common' : Fraction → Fraction → ℕ
        common' q a = (product q a).below

        wrong : (n m k : ℕ) → int_le (pos 0 *ℤ pos (suc k)) ((pos (suc n) *ℤ negsuc m) *ℤ pos 1) ≡ true → ⊥
        wrong n m k e = grind (arith, ints)
