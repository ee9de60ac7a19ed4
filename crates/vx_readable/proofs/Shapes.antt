-- What the constructors of terms make is shaped where its parts are.
use Rattle.std.proofs.Common.{ℕ, zero, suc, Bool, true, false, cond, pos, negsuc, ◌+ℤ◌, ◌-ℤ◌, ◌*ℤ◌, List, [], ◌∷◌, ◌++◌, Option, Some, None, arith}
use Rattle.vx_ast.specs.Syntax as syntax
use Rattle.vx_frac.specs.Fractions.{whole, over, sum, difference, product, lowest, sum_fits, difference_fits, product_fits}
use Rattle.vx_terms.specs.Sorts.{Sort, RealSort, Symbol, Standard, Function, Variable, Named, Equal, Add, Subtract, Multiply, same_sort}
use Rattle.vx_terms.specs.Terms.{Term, Truth, Number, Part, Constant, Apply, Not, Binary, Ite, AllOf, SomeOf, NoTerms, MoreTerms, same, sort_of}
use Rattle.vx_terms.specs.Build as build
use Rattle.vx_terms.specs.Build.{Literals, Numbers, Parts, Truths, Neither, truth_of, literals_of, true_term, false_term, negate, and, or, implies, equals, ite, less, less_equal, add, subtract, multiply, div, modulo, is_zero, is_one, null, unit, pair, written_first, written_second, first, second, wrap, written_unwrap, unwrapped, unwrap, application, variable, zero_amount, whole_amount}
use Rattle.vx_terms.specs.Interpretations.{Each}
use Rattle.vx_smt_text.specs.Shaped.{IsShaped, AreShaped}
use Rattle.vx_rules.specs.Rules.{as_amount, operated, divided, connected, terms}
use Rattle.vx_readable.proofs.Literals.{IsLow, one_low, folded_number_shaped, folded_part_shaped, AreLow, literals_low, quotient_low, remainder_low, remainder_low_below, over_low}

pub record Shaped (t : Term) : Type 0 where
  pub is : IsShaped t

either_shaped : (b : Bool) (s t : Term) → IsShaped s → IsShaped t → IsShaped (cond b s t)
either_shaped true s t h k = h
either_shaped false s t h k = k

-- Core

negated : (t : Term) → IsShaped t → IsShaped (negate t)
negated (Truth b) h = tt
negated (Number z) h = h
negated (Part a) h = h
negated (Constant f a) h = h
negated (Apply f a ts) h = h
negated (Not t) h = h
negated (Binary o t u) h = h
negated (Ite c t u) h = h
negated (AllOf ts) h = h
negated (SomeOf ts) h = h

both : (o p : Option Bool) (s t : Term) → IsShaped s → IsShaped t → IsShaped (build.and_by o p s t)
both (Some true) p s t h k = k
both (Some false) p s t h k = tt
both None (Some true) s t h k = h
both None (Some false) s t h k = tt
both None None s t h k = (h, k)

one_of : (o p : Option Bool) (s t : Term) → IsShaped s → IsShaped t → IsShaped (build.or_by o p s t)
one_of (Some true) p s t h k = tt
one_of (Some false) p s t h k = k
one_of None (Some true) s t h k = tt
one_of None (Some false) s t h k = h
one_of None None s t h k = (h, k)

implied : (o p : Option Bool) (s t : Term) → IsShaped s → IsShaped t → IsShaped (build.implies_by o p s t)
implied (Some true) p s t h k = k
implied (Some false) p s t h k = tt
implied None (Some true) s t h k = tt
implied None (Some false) s t h k = negated s h
implied None None s t h k = (h, k)

equated : (l : Literals) (s t : Term) → IsShaped s → IsShaped t → IsShaped (build.equals_by l s t)
equated (Numbers m n) s t h k = tt
equated (Parts a b) s t h k = tt
equated (Truths a b) s t h k = tt
equated Neither s t h k = (h, k)

chosen : (o : Option Bool) (c s t : Term) → IsShaped c → IsShaped s → IsShaped t → IsShaped (build.ite_by o c s t)
chosen (Some b) c s t h k l = either_shaped b s t k l
chosen None c s t h k l = either_shaped (same s t) s (Ite c s t) k (h, k, l)

-- Ints and Reals

compared : (l : Literals) (s t : Term) → IsShaped s → IsShaped t → IsShaped (build.less_by l s t)
compared (Numbers m n) s t h k = tt
compared (Parts a b) s t h k = tt
compared (Truths a b) s t h k = (h, k)
compared Neither s t h k = (h, k)

bounded : (l : Literals) (s t : Term) → IsShaped s → IsShaped t → IsShaped (build.at_most_by l s t)
bounded (Numbers m n) s t h k = tt
bounded (Parts a b) s t h k = tt
bounded (Truths a b) s t h k = (h, k)
bounded Neither s t h k = (h, k)

added : (l : Literals) (s t : Term) → IsShaped s → IsShaped t → IsShaped (build.add_by l s t)
added (Numbers m n) s t h k = folded_number_shaped (m +ℤ n) (Binary Add s t) (h, k)
added (Parts a b) s t h k = folded_part_shaped (sum_fits a b) (lowest (sum a b)) (Binary Add s t) (h, k)
added (Truths a b) s t h k = (h, k)
added Neither s t h k = (h, k)

subtracted : (l : Literals) (s t : Term) → IsShaped s → IsShaped t → IsShaped (build.subtract_by l s t)
subtracted (Numbers m n) s t h k = folded_number_shaped (m -ℤ n) (Binary Subtract s t) (h, k)
subtracted (Parts a b) s t h k = folded_part_shaped (difference_fits a b) (lowest (difference a b)) (Binary Subtract s t) (h, k)
subtracted (Truths a b) s t h k = (h, k)
subtracted Neither s t h k = (h, k)

multiplied : (l : Literals) (s t : Term) → IsShaped s → IsShaped t → IsShaped (build.multiply_by l s t)
multiplied (Numbers m n) s t h k = folded_number_shaped (m *ℤ n) (Binary Multiply s t) (h, k)
multiplied (Parts a b) s t h k = folded_part_shaped (product_fits a b) (lowest (product a b)) (Binary Multiply s t) (h, k)
multiplied (Truths a b) s t h k = (h, k)
multiplied Neither s t h k = (h, k)

quotient : (l : Literals) (s t : Term) → AreLow l → IsShaped s → IsShaped t → IsShaped (build.div_by l s t)
quotient (Numbers m (pos zero)) s t low h k = (h, k)
quotient (Numbers m (pos (suc n))) s t low h k = quotient_low m (pos (suc n)) low.0
quotient (Numbers m (negsuc n)) s t low h k = quotient_low m (negsuc n) low.0
quotient (Parts a b) s t low h k = (h, k)
quotient (Truths a b) s t low h k = (h, k)
quotient Neither s t low h k = (h, k)

remainder : (l : Literals) (s t : Term) → AreLow l → IsShaped s → IsShaped t → IsShaped (build.mod_by l s t)
remainder (Numbers m (pos zero)) s t low h k = (h, k)
remainder (Numbers m (pos (suc n))) s t low h k = remainder_low m n low.1
remainder (Numbers m (negsuc n)) s t low h k = remainder_low_below m n low.1
remainder (Parts a b) s t low h k = (h, k)
remainder (Truths a b) s t low h k = (h, k)
remainder Neither s t low h k = (h, k)

-- The constructors

pub truth_shaped : (b : Bool) → Shaped (Truth b)
truth_shaped b = record { is = tt }

pub number_shaped : (n : ℕ) → IsLow n → Shaped (Number (pos n))
number_shaped n h = record { is = h }

pub zero_shaped : Shaped (Number (pos 0))
zero_shaped = record { is = omega arith }

pub part_shaped : (n d : ℕ) → IsLow n → Shaped (Part (lowest (over n d)))
part_shaped n d h = record { is = over_low n d h }

pub constant_shaped : (f : Symbol) (a : Sort) → Shaped (Constant f a)
constant_shaped f a = record { is = tt }

pub null_shaped : Shaped null
null_shaped = record { is = tt }

pub unit_shaped : Shaped unit
unit_shaped = record { is = tt }

pub zero_amount_shaped : Shaped zero_amount
zero_amount_shaped = record { is = omega arith }

pub whole_amount_shaped : Shaped whole_amount
whole_amount_shaped = record { is = one_low }

pub negate_shaped : {t : Term} → Shaped t → Shaped (negate t)
negate_shaped {t = t} h = record { is = negated t h.is }

pub and_shaped : {s t : Term} → Shaped s → Shaped t → Shaped (and s t)
and_shaped {s = s} {t = t} h k = record { is = both (truth_of s) (truth_of t) s t h.is k.is }

pub or_shaped : {s t : Term} → Shaped s → Shaped t → Shaped (or s t)
or_shaped {s = s} {t = t} h k = record { is = one_of (truth_of s) (truth_of t) s t h.is k.is }

pub implies_shaped : {s t : Term} → Shaped s → Shaped t → Shaped (implies s t)
implies_shaped {s = s} {t = t} h k = record { is = implied (truth_of s) (truth_of t) s t h.is k.is }

pub equals_shaped : {s t : Term} → Shaped s → Shaped t → Shaped (equals s t)
equals_shaped {s = s} {t = t} h k =
    record { is = either_shaped (same s t) true_term (build.equals_by (literals_of s t) s t) tt (equated (literals_of s t) s t h.is k.is) }

pub ite_shaped : {c s t : Term} → Shaped c → Shaped s → Shaped t → Shaped (ite c s t)
ite_shaped {c = c} {s = s} {t = t} h k l = record { is = chosen (truth_of c) c s t h.is k.is l.is }

pub less_shaped : {s t : Term} → Shaped s → Shaped t → Shaped (less s t)
less_shaped {s = s} {t = t} h k =
    record { is = either_shaped (same s t) false_term (build.less_by (literals_of s t) s t) tt (compared (literals_of s t) s t h.is k.is) }

pub less_equal_shaped : {s t : Term} → Shaped s → Shaped t → Shaped (less_equal s t)
less_equal_shaped {s = s} {t = t} h k =
    record { is = either_shaped (same s t) true_term (build.at_most_by (literals_of s t) s t) tt (bounded (literals_of s t) s t h.is k.is) }

pub add_shaped : {s t : Term} → Shaped s → Shaped t → Shaped (add s t)
add_shaped {s = s} {t = t} h k =
    let sum' = build.add_by (literals_of s t) s t in
    record { is = either_shaped (is_zero t) s (cond (is_zero s) t sum') h.is (either_shaped (is_zero s) t sum' k.is (added (literals_of s t) s t h.is k.is)) }

pub subtract_shaped : {s t : Term} → Shaped s → Shaped t → Shaped (subtract s t)
subtract_shaped {s = s} {t = t} h k =
    record { is = either_shaped (is_zero t) s (build.subtract_by (literals_of s t) s t) h.is (subtracted (literals_of s t) s t h.is k.is) }

pub multiply_shaped : {s t : Term} → Shaped s → Shaped t → Shaped (multiply s t)
multiply_shaped {s = s} {t = t} h k =
    let product' = build.multiply_by (literals_of s t) s t in
    let by_zero = cond (is_zero t) t (cond (is_zero s) s product') in
    record {
      is = either_shaped (is_one t) s (cond (is_one s) t by_zero) h.is
          (either_shaped (is_one s) t by_zero k.is
          (either_shaped (is_zero t) t (cond (is_zero s) s product') k.is
          (either_shaped (is_zero s) s product' h.is (multiplied (literals_of s t) s t h.is k.is))));
    }

pub div_shaped : {s t : Term} → Shaped s → Shaped t → Shaped (div s t)
div_shaped {s = s} {t = t} h k = record { is = quotient (literals_of s t) s t (literals_low s t h.is k.is) h.is k.is }

pub modulo_shaped : {s t : Term} → Shaped s → Shaped t → Shaped (modulo s t)
modulo_shaped {s = s} {t = t} h k = record { is = remainder (literals_of s t) s t (literals_low s t h.is k.is) h.is k.is }

pub binary_shaped : {s t : Term} → Shaped s → Shaped t → Shaped (Binary Equal s t)
binary_shaped h k = record { is = (h.is, k.is) }

-- Operators of the language

amount_shaped : (t u : Term) → IsShaped t → IsShaped (as_amount t u)
amount_shaped (Number n) u h = either_shaped (same_sort (sort_of u) RealSort) (Part (whole n)) (Number n) h h
amount_shaped (Truth b) u h = h
amount_shaped (Part a) u h = h
amount_shaped (Constant f a) u h = h
amount_shaped (Apply f a ts) u h = h
amount_shaped (Not t) u h = h
amount_shaped (Binary o s t) u h = h
amount_shaped (Ite c s t) u h = h
amount_shaped (AllOf ts) u h = h
amount_shaped (SomeOf ts) u h = h

pub operated_shaped : {t u : Term} (op : syntax.Operator) → Shaped t → Shaped u → Shaped (operated op t u)
operated_shaped syntax.Equal h k = equals_shaped h k
operated_shaped syntax.Less h k = less_shaped h k
operated_shaped syntax.LessEqual h k = less_equal_shaped h k
operated_shaped syntax.Greater h k = less_shaped k h
operated_shaped syntax.GreaterEqual h k = less_equal_shaped k h
operated_shaped syntax.Add h k = add_shaped h k
operated_shaped syntax.Subtract h k = subtract_shaped h k
operated_shaped {t = t} {u = u} syntax.Multiply h k = multiply_shaped {s = as_amount t u} (record { is = amount_shaped t u h.is }) k

pub divided_shaped : {t u : Term} (op : syntax.Division) → Shaped t → Shaped u → Shaped (divided op t u)
divided_shaped syntax.Quotient h k = div_shaped h k
divided_shaped syntax.Remainder h k = modulo_shaped h k

pub connected_shaped : {t u : Term} (c : syntax.Connective) → Shaped t → Shaped u → Shaped (connected c t u)
connected_shaped syntax.And h k = and_shaped h k
connected_shaped syntax.Or h k = or_shaped h k
connected_shaped syntax.Implies h k = implies_shaped h k

-- Applications

pub pair_shaped : {s t : Term} → Shaped s → Shaped t → Shaped (pair s t)
pair_shaped h k = record { is = (h.is, (k.is, tt)) }

pub written_first_shaped : {t : Term} → Shaped t → Shaped (written_first t)
written_first_shaped h = record { is = (h.is, tt) }

pub written_second_shaped : {t : Term} → Shaped t → Shaped (written_second t)
written_second_shaped h = record { is = (h.is, tt) }

pub wrap_shaped : {t : Term} (a : Sort) → Shaped t → Shaped (wrap a t)
wrap_shaped a h = record { is = (h.is, tt) }

pub written_unwrap_shaped : {t : Term} (a : Sort) → Shaped t → Shaped (written_unwrap a t)
written_unwrap_shaped a h = record { is = (h.is, tt) }

all_shaped : (ts : List Term) → Each Shaped ts → AreShaped (terms ts)
all_shaped [] h = tt
all_shaped (t ∷ ts) h = (h.0.is, all_shaped ts h.1)

pub application_shaped : {t : Term} (g : ℕ) (a : Sort) (ts : List Term) → Shaped t → Each Shaped ts → Shaped (application g a t (terms ts))
application_shaped g a ts h k = record { is = (h.is, all_shaped ts k) }

unwrapped_at : (a : Sort) (t : Term) → IsShaped t → IsShaped (unwrap a t)
unwrapped_at a (Truth b) h = (h, tt)
unwrapped_at a (Number z) h = (h, tt)
unwrapped_at a (Part b) h = (h, tt)
unwrapped_at a (Constant f b) h = (h, tt)
unwrapped_at a (Apply f b NoTerms) h = absurd h
unwrapped_at a (Apply f b (MoreTerms s NoTerms)) h = either_shaped (same (wrap a s) (Apply f b (MoreTerms s NoTerms))) s (written_unwrap a (Apply f b (MoreTerms s NoTerms))) h.0 (h, tt)
unwrapped_at a (Apply f b (MoreTerms s (MoreTerms t ts))) h = (h, tt)
unwrapped_at a (Not t) h = (h, tt)
unwrapped_at a (Binary o s t) h = (h, tt)
unwrapped_at a (Ite c s t) h = (h, tt)
unwrapped_at a (AllOf ts) h = (h, tt)
unwrapped_at a (SomeOf ts) h = (h, tt)

pub unwrap_shaped : {t : Term} (a : Sort) → Shaped t → Shaped (unwrap a t)
unwrap_shaped {t = t} a h = record { is = unwrapped_at a t h.is }

-- the first part, and the second, of what may be a pair
halves : (t : Term) → IsShaped t → IsShaped (first t) × IsShaped (second t)
halves (Truth b) h = ((h, tt), (h, tt))
halves (Number z) h = ((h, tt), (h, tt))
halves (Part a) h = ((h, tt), (h, tt))
halves (Constant f a) h = ((h, tt), (h, tt))
halves (Apply f a NoTerms) h = absurd h
halves (Apply (Standard zero) a (MoreTerms s ts)) h = ((h, tt), (h, tt))
halves (Apply (Standard (suc zero)) a (MoreTerms s ts)) h = ((h, tt), (h, tt))
halves (Apply (Standard (suc (suc zero))) a (MoreTerms s NoTerms)) h = ((h, tt), (h, tt))
halves (Apply (Standard (suc (suc zero))) a (MoreTerms s (MoreTerms t NoTerms))) h = (h.0, h.1.0)
halves (Apply (Standard (suc (suc zero))) a (MoreTerms s (MoreTerms t (MoreTerms u ts)))) h = ((h, tt), (h, tt))
halves (Apply (Standard (suc (suc (suc n)))) a (MoreTerms s ts)) h = ((h, tt), (h, tt))
halves (Apply (Function n) a (MoreTerms s ts)) h = ((h, tt), (h, tt))
halves (Apply (Variable n) a (MoreTerms s ts)) h = ((h, tt), (h, tt))
halves (Apply (Named x) a (MoreTerms s ts)) h = ((h, tt), (h, tt))
halves (Not t) h = ((h, tt), (h, tt))
halves (Binary o s t) h = ((h, tt), (h, tt))
halves (Ite c s t) h = ((h, tt), (h, tt))
halves (AllOf ts) h = ((h, tt), (h, tt))
halves (SomeOf ts) h = ((h, tt), (h, tt))

pub first_shaped : {t : Term} → Shaped t → Shaped (first t)
first_shaped {t = t} h = record { is = (halves t h.is).0 }

pub second_shaped : {t : Term} → Shaped t → Shaped (second t)
second_shaped {t = t} h = record { is = (halves t h.is).1 }

pub positive_shaped : {t : Term} → Shaped t → Shaped (less zero_amount t)
positive_shaped h = less_shaped zero_amount_shaped h

-- ---- lists

pub each_join : {A : Type 0} (P : A → Type 0) (xs ys : List A) → Each P xs → Each P ys → Each P (xs ++ ys)
each_join P [] ys h k = k
each_join P (x ∷ xs) ys h k = (h.0, each_join P xs ys h.1 k)
