-- A linear combination has the value of its rows.
use Rattle.std.proofs.Common.{◌≡◌, pos, Bool, true, false, cond, List, [], ◌∷◌, ◌++◌, Option, Some, None, refl, sym, subst}
use Rattle.std.proofs.lemmas.Bool.Decides.{Decides-int_eq}
use Rattle.vx_frac.specs.Fractions.{Fraction, whole, lowest, sum, minus, product}
use Rattle.vx_frac.proofs.Lowest.{same-lowest}
use Rattle.vx_terms.specs.Sorts.{Sort, Add, Subtract, Multiply}
use Rattle.vx_terms.specs.Terms.{Term, Number, Part, Binary, same}
use Rattle.vx_terms.specs.Interpretations.{Element, Interpretation, operate, value}
use Rattle.vx_terms.specs.Formed.{binary}
use Rattle.vx_terms.proofs.Same.{term_is}
use Rattle.cs_certificate.specs.Terms.{HasSort}
use Rattle.cs_certificate.specs.Linear.{minus_one, Multiple, literal, multiple_by, of_column, linear, Column, Total, add_column, add_part, add_parts, add_rows, combination, Row, read}
use Rattle.cs_certificate.specs.Certificate.{IsNumberSort}
use Rattle.cs_certificate.proofs.Fractions.{Eq, eq_refl, eq_sym, eq_trans, sum_eq, product_eq, sum_assoc, zero_sum, sum_zero_right, sum_swap, product_comm, product_assoc, distribute, distribute_right, minus_is, whole_sum, whole_minus, whole_product, times_zero}
use Rattle.cs_certificate.proofs.Values.{as_number, number, TwoNumbers, two_ints, two_reals, two_numbers}

abbrev pub part_value : Interpretation → Multiple → Fraction
part_value i p = elim p.column [ Some t ↦ product p.amount (number i t) | None ↦ p.amount ]

abbrev pub parts_value : Interpretation → List Multiple → Fraction
parts_value i [] = whole (pos 0)
parts_value i (p ∷ ps) = sum (part_value i p) (parts_value i ps)

pub parts_append : (i : Interpretation) (xs ys : List Multiple) → Eq (parts_value i (xs ++ ys)) (sum (parts_value i xs) (parts_value i ys))
parts_append i [] ys = eq_sym (zero_sum (parts_value i ys))
parts_append i (p ∷ xs) ys = eq_trans (sum_eq (eq_refl (part_value i p)) (parts_append i xs ys)) (eq_sym (sum_assoc (part_value i p) (parts_value i xs) (parts_value i ys)))

-- the operands of an operator on two numbers
record AreNumbers (a b : Term) (sort : Sort) : Type 0 where
  left : HasSort a sort
  right : HasSort b sort

added : (a b : Term) (r : Sort) → HasSort (Binary Add a b) r → AreNumbers a b r
added a b r (n, binary t f g) = record { left = (n, f); right = (n, g) }

subtracted : (a b : Term) (r : Sort) → HasSort (Binary Subtract a b) r → AreNumbers a b r
subtracted a b r (n, binary t f g) = record { left = (n, f); right = (n, g) }

multiplied : (a b : Term) (r : Sort) → HasSort (Binary Multiply a b) r → AreNumbers a b r
multiplied a b r (n, binary t f g) = record { left = (n, f); right = (n, g) }

lowest_eq : (a : Fraction) → Eq (lowest a) a
lowest_eq a = record { cross = (Decides-int_eq _ _).0 (same-lowest a) }

plus_number : (i : Interpretation) (v w : Element) → TwoNumbers v w → Eq (as_number (operate i Add v w)) (sum (as_number v) (as_number w))
plus_number i v w (two_ints a b) = whole_sum a b
plus_number i v w (two_reals a b) = lowest_eq (sum a b)

minus_number : (i : Interpretation) (v w : Element) → TwoNumbers v w → Eq (as_number (operate i Subtract v w)) (sum (as_number v) (minus (as_number w)))
minus_number i v w (two_ints a b) = whole_minus a b
minus_number i v w (two_reals a b) = lowest_eq (sum a (minus b))

times_number : (i : Interpretation) (v w : Element) → TwoNumbers v w → Eq (as_number (operate i Multiply v w)) (product (as_number v) (as_number w))
times_number i v w (two_ints a b) = whole_product a b
times_number i v w (two_reals a b) = lowest_eq (product a b)

literal_number : (i : Interpretation) (t : Term) (z : Fraction) → literal t ≡ Some z → number i t ≡ z
literal_number i (Number n) z e = cc
literal_number i (Part a) z e = cc
literal_number i _ z e = cc

both_numbers : (i : Interpretation) (a b : Term) (r : Sort) → IsNumberSort r → AreNumbers a b r → TwoNumbers (value i a) (value i b)
both_numbers i a b r n p = two_numbers i a b r n p.left p.right

alone : (q : Fraction) → Eq (sum q (whole (pos 0))) q
alone q = sum_zero_right q

multiple_value : (i : Interpretation) (q : Fraction) (a b : Term) →
    ((z : Fraction) → Eq (parts_value i (linear (product q z) b)) (product (product q z) (number i b))) →
    ((z : Fraction) → Eq (parts_value i (linear (product q z) a)) (product (product q z) (number i a))) →
    Eq (product q (product (number i a) (number i b))) (product q (number i (Binary Multiply a b))) → (l m : Option Fraction) → literal a ≡ l → literal b ≡ m →
    Eq (parts_value i (multiple_by l m (λ z. linear (product q z) b) (λ z. linear (product q z) a) (of_column q (Binary Multiply a b)))) (product q (number i (Binary Multiply a b)))
multiple_value i q a b on_b on_a w (Some z) m e f =
    eq_trans (on_b z)
    (eq_trans (product_assoc q z (number i b))
    (subst (λ x. Eq (product q (product x (number i b))) (product q (number i (Binary Multiply a b)))) (literal_number i a z e) w))
multiple_value i q a b on_b on_a w None (Some z) e f =
    eq_trans (on_a z)
    (eq_trans (product_assoc q z (number i a))
    (eq_trans (product_eq (eq_refl q) (product_comm z (number i a)))
    (subst (λ x. Eq (product q (product (number i a) x)) (product q (number i (Binary Multiply a b)))) (literal_number i b z f) w)))
multiple_value i q a b on_b on_a w None None e f = alone (product q (number i (Binary Multiply a b)))

-- what is read has the factor times the value
pub linear_value : (i : Interpretation) (q : Fraction) (t : Term) (r : Sort) → IsNumberSort r → HasSort t r → Eq (parts_value i (linear q t)) (product q (number i t))
linear_value i q (Number z) r n h = alone (product q (whole z))
linear_value i q (Part a) r n h = alone (product q a)
linear_value i q (Binary Add a b) r n h =
    let p = added a b r h in
    eq_trans (parts_append i (linear q a) (linear q b))
    (eq_trans (sum_eq (linear_value i q a r n p.left) (linear_value i q b r n p.right))
    (eq_trans (eq_sym (distribute q (number i a) (number i b)))
    (product_eq (eq_refl q) (eq_sym (plus_number i (value i a) (value i b) (both_numbers i a b r n p))))))
linear_value i q (Binary Subtract a b) r n h =
    let p = subtracted a b r h in
    eq_trans (parts_append i (linear q a) (linear (product q minus_one) b))
    (eq_trans (sum_eq (linear_value i q a r n p.left) (linear_value i (product q minus_one) b r n p.right))
    (eq_trans (sum_eq (eq_refl (product q (number i a))) (eq_sym (minus_is q (number i b))))
    (eq_trans (eq_sym (distribute q (number i a) (minus (number i b))))
    (product_eq (eq_refl q) (eq_sym (minus_number i (value i a) (value i b) (both_numbers i a b r n p)))))))
linear_value i q (Binary Multiply a b) r n h =
    let p = multiplied a b r h in
    let whole_value = product_eq (eq_refl q) (eq_sym (times_number i (value i a) (value i b) (both_numbers i a b r n p))) in
    multiple_value i q a b (λ z. linear_value i (product q z) b r n p.right) (λ z. linear_value i (product q z) a r n p.left) whole_value (literal a) (literal b) refl refl
linear_value i q _ r n h = alone _

-- ---- totals
unfoldable pub columns_value : Interpretation → List Column → Fraction
columns_value i [] = whole (pos 0)
columns_value i (c ∷ cs) = sum (product c.amount (number i c.term)) (columns_value i cs)

abbrev pub total_value : Interpretation → Total → Fraction
total_value i t = sum t.constant (columns_value i t.columns)

column_added : (i : Interpretation) (t : Term) (q : Fraction) (c : Column) (cs : List Column) (b : Bool) → same t c.term ≡ b →
    Eq (columns_value i (add_column t q cs)) (sum (columns_value i cs) (product q (number i t))) →
    Eq (columns_value i (cond b (record { term = c.term; amount = sum c.amount q } ∷ cs) (c ∷ add_column t q cs))) (sum (columns_value i (c ∷ cs)) (product q (number i t)))
unfolding columns_value
column_added i t q c cs true e h =
    let v = number i c.term in
    eq_trans (sum_eq (distribute_right c.amount q v) (eq_refl (columns_value i cs)))
    (eq_trans (sum_swap (product c.amount v) (product q v) (columns_value i cs))
    (subst (λ x. Eq (sum (sum (product c.amount v) (columns_value i cs)) (product q v)) (sum (sum (product c.amount v) (columns_value i cs)) (product q (number i x)))) (sym (term_is t c.term e)) (eq_refl (sum (sum (product c.amount v) (columns_value i cs)) (product q v)))))
column_added i t q c cs false e h =
    eq_trans (sum_eq (eq_refl (product c.amount (number i c.term))) h) (eq_sym (sum_assoc (product c.amount (number i c.term)) (columns_value i cs) (product q (number i t))))

add_column_value : (i : Interpretation) (t : Term) (q : Fraction) (cs : List Column) → Eq (columns_value i (add_column t q cs)) (sum (columns_value i cs) (product q (number i t)))
unfolding columns_value
add_column_value i t q [] =
    eq_trans (alone (product (sum (whole (pos 0)) q) (number i t)))
    (eq_trans (product_eq (zero_sum q) (eq_refl (number i t))) (eq_sym (zero_sum (product q (number i t)))))
add_column_value i t q (c ∷ cs) = column_added i t q c cs (same t c.term) refl (add_column_value i t q cs)

add_part_value : (i : Interpretation) (m : Fraction) (total : Total) (p : Multiple) (column : Option Term) → p.column ≡ column →
    Eq (total_value i (elim column [
      | Some t ↦ record total { columns = add_column t (product p.amount m) total.columns }
      | None ↦ record total { constant = sum total.constant (product p.amount m) }
    ])) (sum (total_value i total) (product m (elim column [ Some t ↦ product p.amount (number i t) | None ↦ p.amount ])))
add_part_value i m total p (Some t) e =
    let rest = columns_value i total.columns in
    let v = number i t in
    eq_trans (sum_eq (eq_refl total.constant) (add_column_value i t (product p.amount m) total.columns))
    (eq_trans (eq_sym (sum_assoc total.constant rest (product (product p.amount m) v)))
    (sum_eq (eq_refl (sum total.constant rest)) (eq_trans (product_eq (product_comm p.amount m) (eq_refl v)) (product_assoc m p.amount v))))
add_part_value i m total p None e =
    eq_trans (sum_swap total.constant (product p.amount m) (columns_value i total.columns))
    (sum_eq (eq_refl (sum total.constant (columns_value i total.columns))) (product_comm p.amount m))

pub add_parts_value : (i : Interpretation) (m : Fraction) (total : Total) (ps : List Multiple) → Eq (total_value i (add_parts m total ps)) (sum (total_value i total) (product m (parts_value i ps)))
add_parts_value i m total [] = eq_sym (eq_trans (sum_eq (eq_refl (total_value i total)) (times_zero m)) (alone (total_value i total)))
add_parts_value i m total (p ∷ ps) =
    eq_trans (add_parts_value i m (add_part m total p) ps)
    (eq_trans (sum_eq (add_part_value i m total p p.column refl) (eq_refl (product m (parts_value i ps))))
    (eq_trans (sum_assoc (total_value i total) (product m (part_value i p)) (product m (parts_value i ps)))
    (sum_eq (eq_refl (total_value i total)) (eq_sym (distribute m (part_value i p) (parts_value i ps))))))

abbrev pub rows_value : Interpretation → Sort → List Row → Fraction
rows_value i s [] = whole (pos 0)
rows_value i s (r ∷ rs) = sum (product r.multiplier (parts_value i (read s r.constraint))) (rows_value i s rs)

pub add_rows_value : (i : Interpretation) (s : Sort) (total : Total) (rs : List Row) → Eq (total_value i (add_rows s total rs)) (sum (total_value i total) (rows_value i s rs))
add_rows_value i s total [] = eq_sym (alone (total_value i total))
add_rows_value i s total (r ∷ rs) =
    eq_trans (add_rows_value i s (add_parts r.multiplier total (read s r.constraint)) rs)
    (eq_trans (sum_eq (add_parts_value i r.multiplier total (read s r.constraint)) (eq_refl (rows_value i s rs)))
    (sum_assoc (total_value i total) (product r.multiplier (parts_value i (read s r.constraint))) (rows_value i s rs)))

pub combination_value : (i : Interpretation) (s : Sort) (rs : List Row) → Eq (total_value i (combination s rs)) (rows_value i s rs)
unfolding columns_value
combination_value i s rs =
    eq_trans (add_rows_value i s record { constant = whole (pos 0); columns = [] } rs)
    (eq_trans (sum_eq (zero_sum (whole (pos 0))) (eq_refl (rows_value i s rs))) (zero_sum (rows_value i s rs)))
