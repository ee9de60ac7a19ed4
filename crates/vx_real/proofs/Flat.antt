-- Terms in which no symbol is applied, and none of the preamble stands but null; what is built of such terms is so again.
use Rattle.std.proofs.Common.{◌≡◌, zero, suc, Bool, true, false, cond, ℤ, pos, negsuc, ◌+ℤ◌, ◌-ℤ◌, ◌*ℤ◌, Option, Some, None}
use Rattle.vx_frac.specs.Fractions.{Fraction, sum, difference, product, lowest, sum_fits, difference_fits, product_fits}
use Rattle.vx_terms.specs.Sorts.{Sort, RefSort, Symbol, Standard, Function, Variable, Named, Add, Subtract, Multiply}
use Rattle.vx_terms.specs.Terms.{Term, Truth, Number, Part, Constant, Apply, Not, Binary, Ite, AllOf, SomeOf, Terms, NoTerms, MoreTerms, same}
use Rattle.vx_terms.specs.Build as build
use Rattle.vx_terms.specs.Build.{Literals, Numbers, Parts, Truths, Neither, truth_of, literals_of, negate, and, or, implies, equals, ite, less, less_equal, add, subtract, multiply, div, modulo}

abbrev pub IsOwnSymbol : Symbol → Sort → Type 0
IsOwnSymbol (Standard n) a = (n ≡ 0) × (a ≡ RefSort)
IsOwnSymbol (Function n) a = Unit {0}
IsOwnSymbol (Variable n) a = Unit {0}
IsOwnSymbol (Named x) a = Unit {0}

abbrev mutual
  pub IsFlat : Term → Type 0
  IsFlat (Truth b) = Unit {0}
  IsFlat (Number z) = Unit {0}
  IsFlat (Part a) = Unit {0}
  IsFlat (Constant f a) = IsOwnSymbol f a
  IsFlat (Apply f a ts) = ⊥
  IsFlat (Not t) = IsFlat t
  IsFlat (Binary o t u) = IsFlat t × IsFlat u
  IsFlat (Ite c t u) = IsFlat c × IsFlat t × IsFlat u
  IsFlat (AllOf ts) = AreFlat ts
  IsFlat (SomeOf ts) = AreFlat ts

  pub AreFlat : Terms → Type 0
  AreFlat NoTerms = Unit {0}
  AreFlat (MoreTerms t ts) = IsFlat t × AreFlat ts

pub cond_flat : (b : Bool) (x y : Term) → IsFlat x → IsFlat y → IsFlat (cond b x y)
cond_flat true x y h k = h
cond_flat false x y h k = k

pub negate_flat : (t : Term) → IsFlat t → IsFlat (negate t)
negate_flat (Truth b) h = tt
negate_flat (Number z) h = h
negate_flat (Part a) h = h
negate_flat (Constant f a) h = h
negate_flat (Apply f a ts) h = h
negate_flat (Not t) h = h
negate_flat (Binary o t u) h = h
negate_flat (Ite c t u) h = h
negate_flat (AllOf ts) h = h
negate_flat (SomeOf ts) h = h

and_flat : (o o' : Option Bool) (s t : Term) → IsFlat s → IsFlat t → IsFlat (build.and_by o o' s t)
and_flat (Some true) o' s t h k = k
and_flat (Some false) o' s t h k = tt
and_flat None (Some true) s t h k = h
and_flat None (Some false) s t h k = tt
and_flat None None s t h k = (h, k)

or_flat : (o o' : Option Bool) (s t : Term) → IsFlat s → IsFlat t → IsFlat (build.or_by o o' s t)
or_flat (Some true) o' s t h k = tt
or_flat (Some false) o' s t h k = k
or_flat None (Some true) s t h k = tt
or_flat None (Some false) s t h k = h
or_flat None None s t h k = (h, k)

implies_flat : (o o' : Option Bool) (s t : Term) → IsFlat s → IsFlat t → IsFlat (build.implies_by o o' s t)
implies_flat (Some true) o' s t h k = k
implies_flat (Some false) o' s t h k = tt
implies_flat None (Some true) s t h k = tt
implies_flat None (Some false) s t h k = negate_flat s h
implies_flat None None s t h k = (h, k)

equals_flat : (l : Literals) (s t : Term) → IsFlat s → IsFlat t → IsFlat (build.equals_by l s t)
equals_flat (Numbers m n) s t h k = tt
equals_flat (Parts a b) s t h k = tt
equals_flat (Truths a b) s t h k = tt
equals_flat Neither s t h k = (h, k)

ite_flat : (o : Option Bool) (c s t : Term) → IsFlat c → IsFlat s → IsFlat t → IsFlat (build.ite_by o c s t)
ite_flat (Some b) c s t h k l = cond_flat b s t k l
ite_flat None c s t h k l = cond_flat (same s t) s (Ite c s t) k (h, k, l)

less_flat : (l : Literals) (s t : Term) → IsFlat s → IsFlat t → IsFlat (build.less_by l s t)
less_flat (Numbers m n) s t h k = tt
less_flat (Parts a b) s t h k = tt
less_flat (Truths a b) s t h k = (h, k)
less_flat Neither s t h k = (h, k)

at_most_flat : (l : Literals) (s t : Term) → IsFlat s → IsFlat t → IsFlat (build.at_most_by l s t)
at_most_flat (Numbers m n) s t h k = tt
at_most_flat (Parts a b) s t h k = tt
at_most_flat (Truths a b) s t h k = (h, k)
at_most_flat Neither s t h k = (h, k)

folded_number_flat : (z : ℤ) (t : Term) → IsFlat t → IsFlat (build.folded_number z t)
folded_number_flat z t h = cond_flat (build.fits z) (Number z) t tt h

folded_part_flat : (met : Bool) (a : Fraction) (t : Term) → IsFlat t → IsFlat (build.folded_part met a t)
folded_part_flat met a t h = cond_flat (build.folds met a) (Part a) t tt h

add_flat : (l : Literals) (s t : Term) → IsFlat s → IsFlat t → IsFlat (build.add_by l s t)
add_flat (Numbers m n) s t h k = folded_number_flat (m +ℤ n) (Binary Add s t) (h, k)
add_flat (Parts a b) s t h k = folded_part_flat (sum_fits a b) (lowest (sum a b)) (Binary Add s t) (h, k)
add_flat (Truths a b) s t h k = (h, k)
add_flat Neither s t h k = (h, k)

subtract_flat : (l : Literals) (s t : Term) → IsFlat s → IsFlat t → IsFlat (build.subtract_by l s t)
subtract_flat (Numbers m n) s t h k = folded_number_flat (m -ℤ n) (Binary Subtract s t) (h, k)
subtract_flat (Parts a b) s t h k = folded_part_flat (difference_fits a b) (lowest (difference a b)) (Binary Subtract s t) (h, k)
subtract_flat (Truths a b) s t h k = (h, k)
subtract_flat Neither s t h k = (h, k)

multiply_flat : (l : Literals) (s t : Term) → IsFlat s → IsFlat t → IsFlat (build.multiply_by l s t)
multiply_flat (Numbers m n) s t h k = folded_number_flat (m *ℤ n) (Binary Multiply s t) (h, k)
multiply_flat (Parts a b) s t h k = folded_part_flat (product_fits a b) (lowest (product a b)) (Binary Multiply s t) (h, k)
multiply_flat (Truths a b) s t h k = (h, k)
multiply_flat Neither s t h k = (h, k)

div_flat : (l : Literals) (s t : Term) → IsFlat s → IsFlat t → IsFlat (build.div_by l s t)
div_flat (Numbers m (pos zero)) s t h k = (h, k)
div_flat (Numbers m (pos (suc n))) s t h k = tt
div_flat (Numbers m (negsuc n)) s t h k = tt
div_flat (Parts a b) s t h k = (h, k)
div_flat (Truths a b) s t h k = (h, k)
div_flat Neither s t h k = (h, k)

mod_flat : (l : Literals) (s t : Term) → IsFlat s → IsFlat t → IsFlat (build.mod_by l s t)
mod_flat (Numbers m (pos zero)) s t h k = (h, k)
mod_flat (Numbers m (pos (suc n))) s t h k = tt
mod_flat (Numbers m (negsuc n)) s t h k = tt
mod_flat (Parts a b) s t h k = (h, k)
mod_flat (Truths a b) s t h k = (h, k)
mod_flat Neither s t h k = (h, k)

-- What the constructors build

pub flat_and : (s t : Term) → IsFlat s → IsFlat t → IsFlat (and s t)
flat_and s t h k = and_flat (truth_of s) (truth_of t) s t h k

pub flat_or : (s t : Term) → IsFlat s → IsFlat t → IsFlat (or s t)
flat_or s t h k = or_flat (truth_of s) (truth_of t) s t h k

pub flat_implies : (s t : Term) → IsFlat s → IsFlat t → IsFlat (implies s t)
flat_implies s t h k = implies_flat (truth_of s) (truth_of t) s t h k

pub flat_equals : (s t : Term) → IsFlat s → IsFlat t → IsFlat (equals s t)
flat_equals s t h k = cond_flat (same s t) build.true_term (build.equals_by (literals_of s t) s t) tt (equals_flat (literals_of s t) s t h k)

pub flat_ite : (c s t : Term) → IsFlat c → IsFlat s → IsFlat t → IsFlat (ite c s t)
flat_ite c s t h k l = ite_flat (truth_of c) c s t h k l

pub flat_less : (s t : Term) → IsFlat s → IsFlat t → IsFlat (less s t)
flat_less s t h k = cond_flat (same s t) build.false_term (build.less_by (literals_of s t) s t) tt (less_flat (literals_of s t) s t h k)

pub flat_less_equal : (s t : Term) → IsFlat s → IsFlat t → IsFlat (less_equal s t)
flat_less_equal s t h k = cond_flat (same s t) build.true_term (build.at_most_by (literals_of s t) s t) tt (at_most_flat (literals_of s t) s t h k)

pub flat_add : (s t : Term) → IsFlat s → IsFlat t → IsFlat (add s t)
flat_add s t h k = cond_flat (build.is_zero t) s (cond (build.is_zero s) t (build.add_by (literals_of s t) s t)) h (cond_flat (build.is_zero s) t (build.add_by (literals_of s t) s t) k (add_flat (literals_of s t) s t h k))

pub flat_subtract : (s t : Term) → IsFlat s → IsFlat t → IsFlat (subtract s t)
flat_subtract s t h k = cond_flat (build.is_zero t) s (build.subtract_by (literals_of s t) s t) h (subtract_flat (literals_of s t) s t h k)

pub flat_multiply : (s t : Term) → IsFlat s → IsFlat t → IsFlat (multiply s t)
flat_multiply s t h k =
    cond_flat (build.is_one t) s (cond (build.is_one s) t (cond (build.is_zero t) t (cond (build.is_zero s) s (build.multiply_by (literals_of s t) s t)))) h
    (cond_flat (build.is_one s) t (cond (build.is_zero t) t (cond (build.is_zero s) s (build.multiply_by (literals_of s t) s t))) k
    (cond_flat (build.is_zero t) t (cond (build.is_zero s) s (build.multiply_by (literals_of s t) s t)) k
    (cond_flat (build.is_zero s) s (build.multiply_by (literals_of s t) s t) h (multiply_flat (literals_of s t) s t h k))))

pub flat_div : (s t : Term) → IsFlat s → IsFlat t → IsFlat (div s t)
flat_div s t h k = div_flat (literals_of s t) s t h k

pub flat_modulo : (s t : Term) → IsFlat s → IsFlat t → IsFlat (modulo s t)
flat_modulo s t h k = mod_flat (literals_of s t) s t h k
