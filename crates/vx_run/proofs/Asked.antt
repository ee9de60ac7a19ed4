-- What an operation that is asked about comes to.
use Rattle.std.proofs.Common.{◌≡◌, ℕ, zero, suc, ℤ, pos, negsuc, ◌+ℤ◌, ◌-ℤ◌, ◌*ℤ◌, Bool, true, false, ◌&&◌, Result, Ok, Err, refl, sym, ◌∙◌, ap, ap₂, arith}
use Rattle.std.specs.Prelude.{◌≢◌, IfOk, IfErr, IsOk, IsTrue, ◌↔◌, int_le, neg_ℤ}
use Rattle.std.specs.Int.{int_div_euclid}
use Rattle.std.specs.Ordering.{int_eq}
use Rattle.std.proofs.lemmas.Int.{ints}
use Rattle.vx_ast.specs.declared.Place.{Place}
use Rattle.vx_ast.specs.Syntax.{Operator, Equal, Quotient}
use Rattle.vx_frac.specs.declared.Op.{Op}
use Rattle.vx_frac.specs.declared.Op.TheVariants as calls
use Rattle.vx_frac.specs.declared.Frac.{Frac}
use Rattle.vx_frac.specs.declared.Over.{Over}
use Rattle.vx_frac.specs.Fraction.{fraction}
use Rattle.vx_frac.specs.Fractions.{Fraction, fits_i128, denominator, whole, lowest, sum, difference, product, at_most, same_fraction}
use Rattle.vx_frac.proofs.Whole.{lowest_whole}
use Rattle.vx_frac.proofs.Reduced.{lowest_fraction}
use Rattle.vx_meaning.specs.Values.{Value, IntValue, PermValue, same_value}
use Rattle.vx_run.specs.Going.{Going, ◌>>=◌, gives, ends_with, when, Wide}
use Rattle.vx_run.specs.Widths.{asked, operate, divide, within_128_bits, fits_128_bits}
use Rattle.vx_run.specs.Views.{computed, only_equality, quotient}

-- an operation on fractions in lowest terms, and the value that its result is
abbrev pub operation : Place → Op → Fraction → Fraction → Value → Going ℕ Value
operation at c a b u = asked within_128_bits at c a b >>= λ _. gives u

decided : (at : Place) (c : Op) (a b : Fraction) (u : Value) (t : Bool) → lowest a ≡ a → lowest b ≡ b → fits_128_bits c a b ≡ t →
    operation at c a b u ≡ when t (gives u) (ends_with (Wide at c a b))
decided at c a b u true la lb h = rw (la, lb, h) refl
decided at c a b u false la lb h = rw (la, lb, h) refl

-- the code's operation has this result, and leaves 128 bits where the definition says so
pub record Computes (c : Op) (a b : Frac) (r : Fraction) (e : Result Frac Over) : Type 0 where
  pub value : IfOk e (λ x. fraction x ≡ r)
  pub over : IfErr e (λ o. o ≡ record { op = c; a = a; b = b })
  pub fits : IsOk e ↔ IsTrue (fits_128_bits c (fraction a) (fraction b))

not_true : (b : Bool) → (IsTrue b → ⊥) → b ≡ false
not_true true h = absurd (h refl)
not_true false h = refl

pub computed_is : (at : Place) (c : Op) (a b : Frac) (f : Fraction → Value) (r : Fraction) (e : Result Frac Over) → Computes c a b r e →
    computed at f e ≡ operation at c (fraction a) (fraction b) (f r)
computed_is at c a b f r (Ok x) h =
    ap (λ (q : Fraction). let g : Going ℕ Value = gives (f q) in g) h.value ∙ sym (decided at c _ _ (f r) true (lowest_fraction a) (lowest_fraction b) (h.fits.0 refl))
computed_is at c a b f r (Err o) h =
    ap (λ (x : Over). let g : Going ℕ Value = ends_with (Wide at x.op (fraction x.a) (fraction x.b)) in g) h.over
    ∙ sym (decided at c _ _ (f r) false (lowest_fraction a) (lowest_fraction b) (not_true _ (λ t. let x : false ≡ true = h.fits.1 t in cc)))

at_most_ints : (x y : ℤ) → (int_le x y && int_le y x) ≡ int_eq x y
at_most_ints (pos m) (pos n) = grind (arith, ints)
at_most_ints (pos m) (negsuc n) = grind (arith, ints)
at_most_ints (negsuc m) (pos n) = grind (arith, ints)
at_most_ints (negsuc m) (negsuc n) = grind (arith, ints)

pub at_most_both : (a b : Fraction) → (at_most a b && at_most b a) ≡ same_fraction a b
at_most_both a b = at_most_ints (a.numerator *ℤ denominator b) (b.numerator *ℤ denominator a)

pub same_then : (a b : Fraction) → at_most a b ≡ true → at_most b a ≡ same_fraction a b
same_then a b h = ap (λ (t : Bool). t && at_most b a) (sym h) ∙ at_most_both a b

pub same_else : (a b : Fraction) → at_most a b ≡ false → false ≡ same_fraction a b
same_else a b h = ap (λ (t : Bool). t && at_most b a) (sym h) ∙ at_most_both a b

-- whole numbers are fractions over 1
times_one : (z : ℤ) → z *ℤ pos 1 ≡ z
times_one (pos n) = grind (arith, ints)
times_one (negsuc n) = grind (arith, ints)

less_is : (x y : ℤ) → x +ℤ neg_ℤ y ≡ x -ℤ y
less_is x y = omega (arith, ints)

pub whole_sum : (a b : ℤ) → (lowest (sum (whole a) (whole b))).numerator ≡ a +ℤ b
whole_sum a b = ap (λ (z : ℤ). (lowest (whole z)).numerator) (ap₂ (λ (x y : ℤ). x +ℤ y) (times_one a) (times_one b)) ∙ ap (λ (q : Fraction). q.numerator) (lowest_whole (a +ℤ b))

pub whole_difference : (a b : ℤ) → (lowest (difference (whole a) (whole b))).numerator ≡ a -ℤ b
whole_difference a b = whole_sum a (neg_ℤ b) ∙ less_is a b

pub whole_product : (a b : ℤ) → (lowest (product (whole a) (whole b))).numerator ≡ a *ℤ b
whole_product a b = ap (λ (q : Fraction). q.numerator) (lowest_whole (a *ℤ b))

-- an operation on whole numbers
pub on_whole : (at : Place) (c : Op) (a b z : ℤ) (r : Fraction → Fraction → Fraction) (wa wb : Frac) (e : Result Frac Over) →
    fraction wa ≡ whole a → fraction wb ≡ whole b → (lowest (r (whole a) (whole b))).numerator ≡ z →
    Computes c wa wb (lowest (r (fraction wa) (fraction wb))) e → computed at (λ q. IntValue q.numerator) e ≡ operation at c (whole a) (whole b) (IntValue z)
on_whole at c a b z r wa wb e ea eb ez h =
    computed_is at c wa wb (λ q. IntValue q.numerator) _ e h
    ∙ ap₂ (λ (x y : Fraction). operation at c x y (IntValue (lowest (r x y)).numerator)) ea eb
    ∙ ap (λ (x : ℤ). operation at c (whole a) (whole b) (IntValue x)) ez

quotient_by : (at : Place) (a b q : ℤ) (t : Bool) → fits_i128 q ≡ t → q ≡ int_div_euclid a b →
    quotient at a b t ≡ when t (gives (IntValue (int_div_euclid a b))) (ends_with (Wide at calls.Div (whole a) (whole b)))
quotient_by at a b q true h e = refl
quotient_by at a b q false h e = refl

pub quotient_is : (at : Place) (a b : ℤ) → b ≢ pos 0 → quotient at a b (fits_i128 (int_div_euclid a b)) ≡ divide within_128_bits at Quotient (IntValue a) (IntValue b)
quotient_is at a (pos zero) h = absurd (h refl)
quotient_is at a (pos (suc n)) h =
    quotient_by at a (pos (suc n)) _ _ refl refl
    ∙ sym (decided at calls.Div (whole a) (whole (pos (suc n))) _ _ (lowest_whole a) (lowest_whole (pos (suc n))) refl)
quotient_is at a (negsuc n) h =
    quotient_by at a (negsuc n) _ _ refl refl
    ∙ sym (decided at calls.Div (whole a) (whole (negsuc n)) _ _ (lowest_whole a) (lowest_whole (negsuc n)) refl)

-- the two aren't numbers that an operator takes
abbrev pub AreOther : Value → Value → Type 0
AreOther (IntValue a) (IntValue b) = ⊥
AreOther (PermValue a) (PermValue b) = ⊥
AreOther (IntValue a) (PermValue b) = ⊥
AreOther v w = Unit {0}

pub equality_is : (at : Place) (op : Operator) (v w : Value) → AreOther v w → only_equality at op (same_value v w) ≡ operate within_128_bits at op v w
equality_is at op (IntValue a) (IntValue b) n = absurd n
equality_is at op (PermValue a) (PermValue b) n = absurd n
equality_is at op (IntValue a) (PermValue b) n = absurd n
equality_is at Equal v w n = refl
equality_is at op v w n = refl
