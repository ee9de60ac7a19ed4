-- The clause of a contradictory combination holds.
use Rattle.std.proofs.Common.{◌≡◌, ℕ, zero, suc, ◌+◌, ◌*◌, ◌<◌, ℤ, pos, negsuc, ◌*ℤ◌, neg_ℤ, Bool, true, false, ◌||◌, List, [], ◌∷◌, ◌++◌, refl, sym, ◌∙◌, ap, ap₂, subst, inl, inr, arith}
use Rattle.std.specs.Prelude.{int_lt, int_le}
use Rattle.std.proofs.lemmas.Bool.{not-false, cases_Bool}
use Rattle.std.proofs.lemmas.Option.{same_Some}
use borrow.Author.Differences.{up, down, lt-true, lt-false, le-true, le-false, neg_is, same_out, lt_in, le_in, product_is}
use Rattle.vx_frac.specs.Fractions.{Fraction, full, denominator, whole, sum, minus, product, is_below, at_most}
use Rattle.vx_terms.specs.Sorts.{Sort, IntSort, BoolSort, RealSort, RefSort, SnapSort, OtherSort}
use Rattle.vx_terms.specs.Terms.{Term}
use Rattle.vx_terms.specs.Interpretations.{Element, as_int, as_fraction, same_element, Interpretation, value, Each}
use Rattle.cs_certificate.specs.Terms.{HasSort}
use Rattle.cs_certificate.specs.Linear.{minus_one, linear, Column, combination, Row, Constraint, read, one_more, Relation, AtMostZero, BelowZero, IsZero}
use Rattle.cs_certificate.specs.Certificate.{Literal, Clause, At, IsNumberSort, Constrains, not-less, not-at-most, less as below, at-most, equals, MayMultiply, Rows, no-rows, one-row, IsStrict, IsContradiction}
use Rattle.cs_certificate.proofs.Fractions.{Eq, eq_refl, eq_sym, eq_trans, sum_eq, one_product, minus_one_product, NonPositive, Negative, Zero, nonpositive_eq, negative_eq, zero_eq, nonpositive_from_negative, zero_nonpositive, sum_parts, sum_nonpositive, sum_negative, sum_zero, sum_comm, product_nonpositive, product_negative, product_zero_left, product_zero_right, nonpositive_part, negative_part, zero_from, sum_zero_right}
use Rattle.cs_certificate.proofs.Clauses.{literal_true, clause_true, Holds}
use Rattle.cs_certificate.proofs.Numbers.{from_T}
use Rattle.cs_certificate.proofs.Values.{element_is, as_number, number, int_of, real_of, less_in, at_most_in, TwoNumbers, two_ints, two_reals, two_numbers}
use Rattle.cs_certificate.proofs.Combination.{parts_value, parts_append, linear_value, columns_value, rows_value, combination_value}

-- order by the sign of the difference
below_negative : (a b : Fraction) → is_below a b ≡ true → Negative (sum a (minus b))
below_negative a b e =
    let l = lt-true (a.numerator *ℤ denominator b) (b.numerator *ℤ denominator a) e in
    let s : up (sum a (minus b)).numerator + (down a.numerator * suc b.below + down (neg_ℤ b.numerator) * suc a.below) ≡ down (sum a (minus b)).numerator + (up a.numerator * suc b.below + up (neg_ℤ b.numerator) * suc a.below) = sum_parts a (minus b) in
    let n = neg_is b.numerator in
    let p = product_is a.numerator (denominator b) in
    let q = product_is b.numerator (denominator a) in
    let m1 = ap (λ x. x * suc a.below) n.0 in
    let m2 = ap (λ x. x * suc a.below) n.1 in
    record { fact = omega arith }

at_most_nonpositive : (a b : Fraction) → at_most a b ≡ true → NonPositive (sum a (minus b))
at_most_nonpositive a b e =
    let l = le-true (a.numerator *ℤ denominator b) (b.numerator *ℤ denominator a) e in
    let s : up (sum a (minus b)).numerator + (down a.numerator * suc b.below + down (neg_ℤ b.numerator) * suc a.below) ≡ down (sum a (minus b)).numerator + (up a.numerator * suc b.below + up (neg_ℤ b.numerator) * suc a.below) = sum_parts a (minus b) in
    let n = neg_is b.numerator in
    let p = product_is a.numerator (denominator b) in
    let q = product_is b.numerator (denominator a) in
    let m1 = ap (λ x. x * suc a.below) n.0 in
    let m2 = ap (λ x. x * suc a.below) n.1 in
    record { fact = omega arith }

-- what a relation says of the value of a constraint's parts
pub data Signed : Sort → Relation → Fraction → Type 0 where
  at_most_zero : {s : Sort} {x : Fraction} → NonPositive x → Signed s AtMostZero x
  below_int : {x : Fraction} → NonPositive x → Signed IntSort BelowZero x
  below_real : {x : Fraction} → Negative x → Signed RealSort BelowZero x
  is_zero : {s : Sort} {x : Fraction} → Zero x → Signed s IsZero x

-- left less right, and 1 more
difference : Fraction → Fraction → Fraction
difference a b = sum a (minus b)

parts_are : (i : Interpretation) (s : Sort) (c : Constraint) → IsNumberSort s → HasSort c.left s → HasSort c.right s →
    Eq (parts_value i (read s c)) (sum (sum (number i c.left) (minus (number i c.right))) (parts_value i (one_more s c.relation)))
parts_are i s c n p q =
    eq_trans (parts_append i (linear full c.left ++ linear minus_one c.right) (one_more s c.relation))
    (sum_eq
    (eq_trans (parts_append i (linear full c.left) (linear minus_one c.right))
    (sum_eq
    (eq_trans (linear_value i full c.left s n p) (one_product (number i c.left)))
    (eq_trans (linear_value i minus_one c.right s n q) (minus_one_product (number i c.right)))))
    (eq_refl (parts_value i (one_more s c.relation))))

-- ---- integers
int_difference : (a b : ℤ) → up (difference (whole a) (whole b)).numerator + (down a + up b) ≡ down (difference (whole a) (whole b)).numerator + (up a + down b)
unfolding difference
int_difference a b =
    let n = neg_is b in
    let s : up (sum (whole a) (minus (whole b))).numerator + (down a * 1 + down (neg_ℤ b) * 1) ≡ down (sum (whole a) (minus (whole b))).numerator + (up a * 1 + up (neg_ℤ b) * 1) = sum_parts (whole a) (minus (whole b)) in
    omega arith

int_at_most : (a b : ℤ) → int_le a b ≡ true → NonPositive (difference (whole a) (whole b))
int_at_most a b e =
    let l = le-true a b e in
    let s = int_difference a b in
    record { fact = omega arith }

below_is : (a b : ℤ) → (difference (whole a) (whole b)).below ≡ 0
unfolding difference
below_is a b = refl

int_below : (a b : ℤ) → int_lt a b ≡ true → NonPositive (sum (difference (whole a) (whole b)) (sum full (whole (pos 0))))
int_below a b e =
    let l = lt-true a b e in
    let s = int_difference a b in
    let t : up (sum (difference (whole a) (whole b)) (sum full (whole (pos 0)))).numerator + (down (difference (whole a) (whole b)).numerator * 1 + 0 * suc (difference (whole a) (whole b)).below) ≡ down (sum (difference (whole a) (whole b)) (sum full (whole (pos 0)))).numerator + (up (difference (whole a) (whole b)).numerator * 1 + 1 * suc (difference (whole a) (whole b)).below) = sum_parts (difference (whole a) (whole b)) (sum full (whole (pos 0))) in
    let u : (difference (whole a) (whole b)).below ≡ 0 = below_is a b in
    let v = ap suc u in
    record { fact = omega arith }

zero_extra : {x : Fraction} → NonPositive x → NonPositive (sum x (whole (pos 0)))
zero_extra {x = x} h = nonpositive_eq (eq_sym (sum_zero_right x)) h

-- ---- the sign of each row
flipped : (x y : ℤ) → int_lt x y ≡ false → int_le y x ≡ true
flipped x y e = let l = lt-false x y e in from_T _ (le_in y x (omega arith))

flipped_le : (x y : ℤ) → int_le x y ≡ false → int_lt y x ≡ true
flipped_le x y e = let l = le-false x y e in from_T _ (lt_in y x (omega arith))

signed_at_most : (i : Interpretation) (s : Sort) (a b : Term) → IsNumberSort s → HasSort a s → HasSort b s → at_most_in (value i a) (value i b) ≡ true → NonPositive (difference (number i a) (number i b))
unfolding difference
signed_at_most i s a b n p q e = elim n [
  | inl is ↦ (
      let v = int_of i a (subst (HasSort a) is p) in
      let u = int_of i b (subst (HasSort b) is q) in
      subst (λ x. NonPositive (sum (as_number x) (minus (number i b)))) (sym v)
      (subst (λ x. NonPositive (sum (whole (as_int (value i a))) (minus (as_number x)))) (sym u) (int_at_most (as_int (value i a)) (as_int (value i b)) (sym (ap₂ at_most_in v u) ∙ e))))
  | inr is ↦ (
      let v = real_of i a (subst (HasSort a) is p) in
      let u = real_of i b (subst (HasSort b) is q) in
      subst (λ x. NonPositive (sum (as_number x) (minus (number i b)))) (sym v)
      (subst (λ x. NonPositive (sum (as_fraction (value i a)) (minus (as_number x)))) (sym u) (at_most_nonpositive (as_fraction (value i a)) (as_fraction (value i b)) (sym (ap₂ at_most_in v u) ∙ e))))
]

signed_below_int : (i : Interpretation) (a b : Term) → HasSort a IntSort → HasSort b IntSort → less_in (value i a) (value i b) ≡ true → NonPositive (sum (difference (number i a) (number i b)) (sum full (whole (pos 0))))
signed_below_int i a b p q e =
    let v = int_of i a p in
    let u = int_of i b q in
    subst (λ x. NonPositive (sum (difference (as_number x) (number i b)) (sum full (whole (pos 0))))) (sym v)
    (subst (λ x. NonPositive (sum (difference (whole (as_int (value i a))) (as_number x)) (sum full (whole (pos 0))))) (sym u) (int_below (as_int (value i a)) (as_int (value i b)) (sym (ap₂ less_in v u) ∙ e)))

signed_below_real : (i : Interpretation) (a b : Term) → HasSort a RealSort → HasSort b RealSort → less_in (value i a) (value i b) ≡ true → Negative (difference (number i a) (number i b))
unfolding difference
signed_below_real i a b p q e =
    let v = real_of i a p in
    let u = real_of i b q in
    subst (λ x. Negative (sum (as_number x) (minus (number i b)))) (sym v)
    (subst (λ x. Negative (sum (as_fraction (value i a)) (minus (as_number x)))) (sym u) (below_negative (as_fraction (value i a)) (as_fraction (value i b)) (sym (ap₂ less_in v u) ∙ e)))

-- equal fractions differ by zero
eq_difference : (a b : Fraction) → Eq a b → Zero (difference a b)
unfolding difference
eq_difference a b e =
    let o = same_out _ _ e.cross in
    let p = product_is a.numerator (denominator b) in
    let q = product_is b.numerator (denominator a) in
    let n = neg_is b.numerator in
    let m1 = ap (λ x. x * suc a.below) n.0 in
    let m2 = ap (λ x. x * suc a.below) n.1 in
    let s : up (sum a (minus b)).numerator + (down a.numerator * suc b.below + down (neg_ℤ b.numerator) * suc a.below) ≡ down (sum a (minus b)).numerator + (up a.numerator * suc b.below + up (neg_ℤ b.numerator) * suc a.below) = sum_parts a (minus b) in
    record { fact = omega arith }

same_number : {v w : Element} → v ≡ w → Eq (as_number v) (as_number w)
same_number {v = v} e = subst (λ x. Eq (as_number v) (as_number x)) e (eq_refl (as_number v))

flipped_value : (v w : Element) → TwoNumbers v w → less_in v w ≡ false → at_most_in w v ≡ true
flipped_value v w (two_ints a b) e = flipped a b e
flipped_value v w (two_reals a b) e = flipped (a.numerator *ℤ denominator b) (b.numerator *ℤ denominator a) e

flipped_value_le : (v w : Element) → TwoNumbers v w → at_most_in v w ≡ false → less_in w v ≡ true
flipped_value_le v w (two_ints a b) e = flipped_le a b e
flipped_value_le v w (two_reals a b) e = flipped_le (a.numerator *ℤ denominator b) (b.numerator *ℤ denominator a) e

no_more : (s : Sort) → one_more s AtMostZero ≡ []
no_more IntSort = refl
no_more BoolSort = refl
no_more RealSort = refl
no_more RefSort = refl
no_more SnapSort = refl
no_more (OtherSort t) = refl

no_more_zero : (s : Sort) → one_more s IsZero ≡ []
no_more_zero IntSort = refl
no_more_zero BoolSort = refl
no_more_zero RealSort = refl
no_more_zero RefSort = refl
no_more_zero SnapSort = refl
no_more_zero (OtherSort t) = refl

-- the parts' value where the sides' difference has the sign
row_at_most : (i : Interpretation) (s : Sort) (c : Constraint) → c.relation ≡ AtMostZero → IsNumberSort s → HasSort c.left s → HasSort c.right s → NonPositive (difference (number i c.left) (number i c.right)) → NonPositive (parts_value i (read s c))
unfolding difference
row_at_most i s c e n p q h =
    let extra : parts_value i (one_more s c.relation) ≡ whole (pos 0) = ap (λ r. parts_value i (one_more s r)) e ∙ ap (parts_value i) (no_more s) in
    nonpositive_eq (eq_sym (parts_are i s c n p q))
    (subst (λ x. NonPositive (sum (sum (number i c.left) (minus (number i c.right))) x)) (sym extra) (zero_extra h))

row_zero : (i : Interpretation) (s : Sort) (c : Constraint) → c.relation ≡ IsZero → IsNumberSort s → HasSort c.left s → HasSort c.right s → Zero (difference (number i c.left) (number i c.right)) → Zero (parts_value i (read s c))
unfolding difference
row_zero i s c e n p q h =
    let extra : parts_value i (one_more s c.relation) ≡ whole (pos 0) = ap (λ r. parts_value i (one_more s r)) e ∙ ap (parts_value i) (no_more_zero s) in
    zero_eq (eq_sym (parts_are i s c n p q))
    (subst (λ x. Zero (sum (sum (number i c.left) (minus (number i c.right))) x)) (sym extra) (zero_eq (eq_sym (sum_zero_right _)) h))

row_below_int : (i : Interpretation) (c : Constraint) → c.relation ≡ BelowZero → HasSort c.left IntSort → HasSort c.right IntSort → less_in (value i c.left) (value i c.right) ≡ true → NonPositive (parts_value i (read IntSort c))
unfolding difference
row_below_int i c e p q h =
    let extra : parts_value i (one_more IntSort c.relation) ≡ sum full (whole (pos 0)) = ap (λ r. parts_value i (one_more IntSort r)) e in
    nonpositive_eq (eq_sym (parts_are i IntSort c (inl refl) p q))
    (subst (λ x. NonPositive (sum (sum (number i c.left) (minus (number i c.right))) x)) (sym extra) (signed_below_int i c.left c.right p q h))

row_below_real : (i : Interpretation) (c : Constraint) → c.relation ≡ BelowZero → HasSort c.left RealSort → HasSort c.right RealSort → less_in (value i c.left) (value i c.right) ≡ true → Negative (parts_value i (read RealSort c))
unfolding difference
row_below_real i c e p q h =
    let extra : parts_value i (one_more RealSort c.relation) ≡ whole (pos 0) = ap (λ r. parts_value i (one_more RealSort r)) e in
    negative_eq (eq_sym (parts_are i RealSort c (inr refl) p q))
    (subst (λ x. Negative (sum (sum (number i c.left) (minus (number i c.right))) x)) (sym extra) (negative_eq (eq_sym (sum_zero_right _)) (signed_below_real i c.left c.right p q h)))

row_below : (i : Interpretation) (s : Sort) (c : Constraint) → c.relation ≡ BelowZero → IsNumberSort s → HasSort c.left s → HasSort c.right s → less_in (value i c.left) (value i c.right) ≡ true → Signed s BelowZero (parts_value i (read s c))
row_below i IntSort c e n p q h = below_int (row_below_int i c e p q h)
row_below i RealSort c e n p q h = below_real (row_below_real i c e p q h)
row_below i BoolSort c e n p q h = elim n [ inl x ↦ cc | inr x ↦ cc ]
row_below i RefSort c e n p q h = elim n [ inl x ↦ cc | inr x ↦ cc ]
row_below i SnapSort c e n p q h = elim n [ inl x ↦ cc | inr x ↦ cc ]
row_below i (OtherSort t) c e n p q h = elim n [ inl x ↦ cc | inr x ↦ cc ]

pub row_signed : (i : Interpretation) (s : Sort) {l : Literal} {c : Constraint} → Constrains l c → IsNumberSort s → HasSort c.left s → HasSort c.right s → literal_true i l ≡ false → Signed s c.relation (parts_value i (read s c))
row_signed i s (not-less a b) n p q e =
    at_most_zero (row_at_most i s record { left = b; right = a; relation = AtMostZero } refl n p q (signed_at_most i s b a n p q (flipped_value (value i a) (value i b) (two_numbers i a b s n q p) e)))
row_signed i s (not-at-most a b) n p q e =
    row_below i s record { left = b; right = a; relation = BelowZero } refl n p q (flipped_value_le (value i a) (value i b) (two_numbers i a b s n q p) e)
row_signed i s (below a b) n p q e = row_below i s record { left = a; right = b; relation = BelowZero } refl n p q (not-false (less_in (value i a) (value i b)) e)
row_signed i s (at-most a b) n p q e =
    at_most_zero (row_at_most i s record { left = a; right = b; relation = AtMostZero } refl n p q (signed_at_most i s a b n p q (not-false (at_most_in (value i a) (value i b)) e)))
row_signed i s (equals a b) n p q e =
    is_zero (row_zero i s record { left = a; right = b; relation = IsZero } refl n p q (eq_difference (number i a) (number i b) (same_number (element_is (value i a) (value i b) (not-false (same_element (value i a) (value i b)) e)))))

-- ---- the sum of the rows
nonneg_down : (z : ℤ) → int_le (pos 0) z ≡ true → down z ≡ 0
nonneg_down (pos n) e = refl
nonneg_down (negsuc n) e = cc

positive_up : (z : ℤ) → int_lt (pos 0) z ≡ true → 0 < up z
positive_up z e = let l = lt-true (pos 0) z e in omega arith

multiplied : (m x : Fraction) (s : Sort) (r : Relation) → MayMultiply m r → Signed s r x → NonPositive (product m x)
multiplied m x s r k (at_most_zero h) = product_nonpositive m x (nonneg_down m.numerator k) h
multiplied m x s r k (below_int h) = product_nonpositive m x (nonneg_down m.numerator k) h
multiplied m x s r k (below_real h) = product_nonpositive m x (nonneg_down m.numerator k) (nonpositive_from_negative h)
multiplied m x s r k (is_zero h) = zero_nonpositive (product_zero_right m x h)

zero_is_nonpositive : NonPositive (whole (pos 0))
zero_is_nonpositive = record { fact = omega arith }

or_false : (a b : Bool) → a || b ≡ false → (a ≡ false) × (b ≡ false)
or_false true b e = cc
or_false false b e = (refl, e)

pub rows_nonpositive : (i : Interpretation) (s : Sort) {ls : Clause} {ms : List Fraction} {rs : List Row} → IsNumberSort s → Rows s ls ms rs → clause_true i ls ≡ false → NonPositive (rows_value i s rs)
rows_nonpositive i s n no-rows e = zero_is_nonpositive
rows_nonpositive i s n (one-row {l = l} {c = c} {m = m} {ls = ls} k p q may rest) e =
    let f = or_false (literal_true i l) (clause_true i ls) e in
    sum_nonpositive (multiplied m (parts_value i (read s c)) s c.relation may (row_signed i s k n p q f.0)) (rows_nonpositive i s n rest f.1)

negative_signed : (m x : Fraction) (s : Sort) (r : Relation) → MayMultiply m r → s ≡ RealSort → r ≡ BelowZero → int_lt (pos 0) m.numerator ≡ true → Signed s r x → Negative (product m x)
negative_signed m x s r k e f g (at_most_zero h) = cc
negative_signed m x s r k e f g (below_int h) = cc
negative_signed m x s r k e f g (below_real h) = product_negative m x (nonneg_down m.numerator k) (positive_up m.numerator g) h
negative_signed m x s r k e f g (is_zero h) = cc

sum_negative_right : {a b : Fraction} → NonPositive a → Negative b → Negative (sum a b)
sum_negative_right {a = a} {b = b} h k = negative_eq (sum_comm b a) (sum_negative k h)

pub rows_negative : (i : Interpretation) (s : Sort) {ls : Clause} {ms : List Fraction} {rs : List Row} → IsNumberSort s → Rows s ls ms rs → clause_true i ls ≡ false → (k : ℕ) (r : Row) → At rs k r → IsStrict s r → Negative (rows_value i s rs)
rows_negative i s n no-rows e k r a strict = cc
rows_negative i s n (one-row {l = l} {c = c} {m = m} {ls = ls} {rs = rs} con p q may rest) e zero r a strict =
    let f = or_false (literal_true i l) (clause_true i ls) e in
    let is : record { multiplier = m; constraint = c } ≡ r = same_Some _ _ a in
    let rel : c.relation ≡ BelowZero = ap (λ x. x.constraint.relation) is ∙ strict.1 in
    let mul : int_lt (pos 0) m.numerator ≡ true = ap (λ x. int_lt (pos 0) x.multiplier.numerator) is ∙ strict.2 in
    sum_negative (negative_signed m (parts_value i (read s c)) s c.relation may strict.0 rel mul (row_signed i s con n p q f.0)) (rows_nonpositive i s n rest f.1)
rows_negative i s n (one-row {l = l} {c = c} {m = m} {ls = ls} con p q may rest) e (suc k) r a strict =
    let f = or_false (literal_true i l) (clause_true i ls) e in
    sum_negative_right (multiplied m (parts_value i (read s c)) s c.relation may (row_signed i s con n p q f.0)) (rows_negative i s n rest f.1 k r a strict)

columns_zero : (i : Interpretation) (cs : List Column) → Each (λ c. c.amount.numerator ≡ pos 0) cs → Zero (columns_value i cs)
unfolding columns_value
columns_zero i [] h = record { fact = refl }
columns_zero i (c ∷ cs) h = sum_zero (product_zero_left c.amount (number i c.term) (zero_from c.amount h.0)) (columns_zero i cs h.1)

positive_not : (a : Fraction) → int_lt (pos 0) a.numerator ≡ true → NonPositive a → ⊥
positive_not a e h = let l = lt-true (pos 0) a.numerator e in let f = h.fact in omega arith

zero_not : (a : Fraction) → a.numerator ≡ pos 0 → Negative a → ⊥
zero_not a e h = let z = zero_from a e in let g = z.fact in let f = h.fact in omega arith

no_model : (i : Interpretation) (s : Sort) {ls : Clause} {ms : List Fraction} {rs : List Row} → IsNumberSort s → Rows s ls ms rs → IsContradiction s rs → clause_true i ls ≡ false → ⊥
no_model i s {rs = rs} n rows k e =
    let total = combination s rs in
    let zero : Zero (columns_value i total.columns) = columns_zero i total.columns k.columns in
    let same = eq_sym (combination_value i s rs) in
    elim k.constant [
      | inl h ↦ positive_not total.constant h (nonpositive_part total.constant (columns_value i total.columns) zero (nonpositive_eq same (rows_nonpositive i s n rows e)))
      | inr h ↦ zero_not total.constant h.0 (negative_part total.constant (columns_value i total.columns) zero (negative_eq same (rows_negative i s n rows e (h.2).0 h.1 (h.2).1 h.3)))
    ]

pub farkas_holds : (i : Interpretation) (s : Sort) (c : Clause) {ms : List Fraction} {rs : List Row} → IsNumberSort s → Rows s c ms rs → IsContradiction s rs → Holds i c
farkas_holds i s c n rows k = elim (cases_Bool (clause_true i c)) [
  | inl h ↦ record { holds = h }
  | inr h ↦ absurd (no_model i s n rows k h)
]
