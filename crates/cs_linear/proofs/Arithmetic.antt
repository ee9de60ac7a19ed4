-- The laws of sums and products in lowest terms, as equations.
use Rattle.std.proofs.Common.{◌≡◌, pos, refl, sym, ◌∙◌, ap, ap₂}
use Rattle.vx_frac.specs.Fractions.{Fraction, none, full, minus, sum, product, lowest}
use Rattle.vx_frac.proofs.Lowest.{lowest-lowest, lowest-same}
use Rattle.vx_frac.proofs.Sums as sums
use Rattle.vx_amounts.proofs.Amounts.{same-refl, same-sym, same-lowest', lowest_is, sum_comm, sum_assoc, none-sum, sum_same, sum-minus, product_same}
use Rattle.vx_amounts.proofs.Products.{product-full, product-none, product_comm, product_sum, product_assoc}
use Rattle.cs_linear.specs.Numbers.{plus, times}

pub plus_comm : (a b : Fraction) → plus a b ≡ plus b a
unfolding plus
plus_comm a b = lowest_is (sum_comm a b)

right_lowest : (a b : Fraction) → lowest (sum a (lowest b)) ≡ lowest (sum a b)
right_lowest a b = lowest_is (sum_same (same-refl a) (same-lowest' b))

left_lowest : (a b : Fraction) → lowest (sum (lowest a) b) ≡ lowest (sum a b)
left_lowest a b = lowest_is (sum_same (same-lowest' a) (same-refl b))

pub plus_assoc : (a b c : Fraction) → plus (plus a b) c ≡ plus a (plus b c)
unfolding plus
plus_assoc a b c = left_lowest (sum a b) c ∙ lowest_is (sum_assoc a b c) ∙ sym (right_lowest a (sum b c))

pub plus_left : (a b c : Fraction) → plus a (plus b c) ≡ plus b (plus a c)
plus_left a b c = sym (plus_assoc a b c) ∙ ap (λ x. plus x c) (plus_comm a b) ∙ plus_assoc b a c

pub times_comm : (a b : Fraction) → times a b ≡ times b a
unfolding times
times_comm a b = ap lowest (product_comm a b)

pub times_plus : (q a b : Fraction) → times q (plus a b) ≡ plus (times q a) (times q b)
unfolding plus times
times_plus q a b =
    lowest_is (product_same (same-refl q) (same-lowest' (sum a b)))
    ∙ lowest_is (product_sum q a b)
    ∙ lowest_is (sum_same (same-sym (same-lowest' (product q a))) (same-sym (same-lowest' (product q b))))

pub plus_times : (a b q : Fraction) → times (plus a b) q ≡ plus (times a q) (times b q)
plus_times a b q = times_comm (plus a b) q ∙ times_plus q a b ∙ ap₂ plus (times_comm q a) (times_comm q b)

pub times_assoc : (a b c : Fraction) → times (times a b) c ≡ times a (times b c)
unfolding times
times_assoc a b c =
    lowest_is (product_same (same-lowest' (product a b)) (same-refl c))
    ∙ ap lowest (product_assoc a b c)
    ∙ lowest_is (product_same (same-refl a) (same-sym (same-lowest' (product b c))))

pub times_left : (a b c : Fraction) → times a (times b c) ≡ times b (times a c)
times_left a b c = sym (times_assoc a b c) ∙ ap (λ x. times x c) (times_comm a b) ∙ times_assoc b a c

pub plus_lowest : (a b : Fraction) → plus a (lowest b) ≡ plus a b
unfolding plus
plus_lowest a b = right_lowest a b

pub lowest_plus : (a b : Fraction) → plus (lowest a) b ≡ plus a b
unfolding plus
lowest_plus a b = left_lowest a b

pub times_lowest : (a b : Fraction) → times a (lowest b) ≡ times a b
unfolding times
times_lowest a b = lowest_is (product_same (same-refl a) (same-lowest' b))

pub lowest_of_plus : (a b : Fraction) → lowest (plus a b) ≡ plus a b
unfolding plus
lowest_of_plus a b = lowest-lowest (sum a b)

pub lowest_of_times : (a b : Fraction) → lowest (times a b) ≡ times a b
unfolding times
lowest_of_times a b = lowest-lowest (product a b)

pub lowest_lowest : (a : Fraction) → lowest (lowest a) ≡ lowest a
lowest_lowest a = lowest-lowest a

pub none_plus : (a : Fraction) → plus none a ≡ lowest a
unfolding plus
none_plus a = lowest_is (none-sum a)

pub plus_none : (a : Fraction) → plus a none ≡ lowest a
plus_none a = plus_comm a none ∙ none_plus a

pub lowest_none : lowest none ≡ none
unfolding lowest
lowest_none = refl

pub times_none : (a : Fraction) → times a none ≡ none
unfolding times
times_none a = lowest_is (product-none a) ∙ lowest_none

pub none_times : (a : Fraction) → times none a ≡ none
none_times a = times_comm none a ∙ times_none a

pub times_full : (a : Fraction) → times a full ≡ lowest a
unfolding times
times_full a = lowest_is (product-full a)

pub full_times : (a : Fraction) → times full a ≡ lowest a
full_times a = times_comm full a ∙ times_full a

pub plus_opposite : (q : Fraction) → plus q (minus q) ≡ none
unfolding plus
plus_opposite q = lowest_is (sum-minus q) ∙ lowest_none

pub plus_minus : plus full (minus full) ≡ none
plus_minus = plus_opposite full

pub lowest_zero : (a : Fraction) → a.numerator ≡ pos 0 → lowest a ≡ none
unfolding plus
lowest_zero a e = sym (none_plus a) ∙ lowest-same (sum none a) none (sums.sum-none none a e) ∙ lowest_none

-- sums and products with their parts in one order
pub ruleset linear = (plus_comm, plus_assoc, plus_left, times_plus, plus_times, times_assoc, times_comm, times_left, lowest_lowest, plus_lowest, lowest_plus, times_lowest, lowest_of_plus, lowest_of_times, none_plus, plus_none, lowest_none, times_none, none_times, times_full, full_times)
