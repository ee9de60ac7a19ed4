-- What splits, trichotomies and divisions derive holds.
use Rattle.std.proofs.Common.{◌≡◌, zero, suc, ◌+◌, ◌-◌, ◌*◌, ◌/◌, ◌%◌, ◌≤◌, ℤ, pos, negsuc, ◌+ℤ◌, ◌*ℤ◌, unsigned_abs, Bool, true, false, ◌||◌, [], ◌∷◌, refl, sym, ◌∙◌, ap, ap₂, subst, inl, inr, arith, T}
use Rattle.std.specs.Prelude.{int_lt, int_le}
use Rattle.std.specs.Int.{int_div_euclid, int_rem_euclid}
use Rattle.std.proofs.lemmas.Int.{ints}
use Rattle.std.proofs.lemmas.Bool.{cases_Bool}
use borrow.Author.Differences.{up, down, same_in, lt-false, lt_in, le_in, le-false, sum_is_lem, neg_is}
use Rattle.vx_frac.specs.Fractions.{Fraction, denominator, same_fraction, is_below}
use Rattle.vx_frac.proofs.Lowest.{lowest-same}
use Rattle.vx_frac.proofs.Sums.{equal_ints}
use Rattle.vx_terms.specs.Sorts.{Sort, IntSort, Less, LessEqual, Mod}
use Rattle.vx_terms.specs.Terms.{Term, Number, Binary}
use Rattle.vx_terms.specs.Interpretations.{IntElement, RealElement, as_int, as_fraction, Interpretation, quotient_in, remainder_in, value}
use Rattle.cs_certificate.specs.Terms.{HasSort}
use Rattle.cs_certificate.specs.Certificate.{Yes, State, Equates, IsNumberSort, divided}
use Rattle.cs_certificate.proofs.Values.{int_of, real_of, real_lowest, less_in, at_most_in}
use Rattle.cs_certificate.proofs.Clauses.{is_true, Holds, or_left, or_right}
use Rattle.cs_certificate.proofs.Steps.{equates_true}

pub from_T : (b : Bool) → T b → b ≡ true
from_T true t = refl
from_T false t = absurd t

split_ints : (m z : ℤ) → int_le m z || (int_le (z +ℤ pos 1) m || false) ≡ true
split_ints m z = elim (cases_Bool (int_le m z)) [
  | inl h ↦ or_left (int_le m z) _ h
  | inr h ↦ or_right (int_le m z) _ (or_left (int_le (z +ℤ pos 1) m) false (from_T _ (le_in (z +ℤ pos 1) m (above m z h))))
]
  where
    above : (m z : ℤ) → int_le m z ≡ false → up (z +ℤ pos 1) + down m ≤ up m + down (z +ℤ pos 1)
    above m z h = let l = le-false m z h in let s = sum_is_lem z (pos 1) in omega arith

pub split_holds : (i : Interpretation) (t : Term) (z : ℤ) → HasSort t IntSort → Holds i (Yes (Binary LessEqual t (Number z)) ∷ Yes (Binary LessEqual (Number (z +ℤ pos 1)) t) ∷ [])
split_holds i t z h =
    let v = int_of i t h in
    record { holds = ap (λ w. at_most_in w (IntElement z) || (int_le (z +ℤ pos 1) (as_int (value i t)) || false)) v ∙ split_ints (as_int (value i t)) z }

three : (a b c : Bool) → (a ≡ false → c ≡ false → b ≡ true) → a || (b || (c || false)) ≡ true
three true b c f = refl
three false true c f = refl
three false false true f = refl
three false false false f = f refl refl

between : (x y : ℤ) → int_lt x y ≡ false → int_lt y x ≡ false → x ≡ y
between x y e f = let l = lt-false x y e in let m = lt-false y x f in same_in x y (omega arith)

crossed : (a b : Fraction) → is_below a b ≡ false → is_below b a ≡ false → same_fraction a b ≡ true
crossed a b e f = equal_ints _ _ (between (a.numerator *ℤ denominator b) (b.numerator *ℤ denominator a) e f)

pub trichotomy_holds : (i : Interpretation) (s : State) (a b e : Term) (sort : Sort) → IsNumberSort sort → HasSort a sort → HasSort b sort → Equates s a b e → Holds i (Yes (Binary Less a b) ∷ Yes e ∷ Yes (Binary Less b a) ∷ [])
trichotomy_holds i s a b e sort n p q w = record {
  holds = three _ _ _ (elim n [
    | inl is ↦ (λ f g.
        let v = int_of i a (subst (HasSort a) is p) in
        let u = int_of i b (subst (HasSort b) is q) in
        let l = sym (ap₂ less_in v u) ∙ f in
        let m = sym (ap₂ less_in u v) ∙ g in
        equates_true i s w (v ∙ ap IntElement (between _ _ l m) ∙ sym u))
    | inr is ↦ (λ f g.
        let v = real_of i a (subst (HasSort a) is p) in
        let u = real_of i b (subst (HasSort b) is q) in
        let l = sym (ap₂ less_in v u) ∙ f in
        let m = sym (ap₂ less_in u v) ∙ g in
        let p' = real_lowest i a (subst (HasSort a) is p) in
        let q' = real_lowest i b (subst (HasSort b) is q) in
        equates_true i s w (v ∙ ap RealElement (sym p' ∙ lowest-same (as_fraction (value i a)) (as_fraction (value i b)) (crossed (as_fraction (value i a)) (as_fraction (value i b)) l m) ∙ q') ∙ sym u))
  ]);
}

-- ---- division
divides : (m d : ℤ) → ¬ (d ≡ pos 0) → d *ℤ int_div_euclid m d +ℤ int_rem_euclid m d ≡ m
divides (pos n) (pos zero) z = absurd (z refl)
divides (pos n) (pos (suc k)) z = omega (arith, ints)
divides (pos n) (negsuc k) z =
    let g = neg_is (pos (n / suc k)) in
    let m = ap (λ x. suc k * x) g.1 in
    let o = ap (λ x. suc k * x) g.0 in
    omega (arith, ints)
divides (negsuc n) (pos zero) z = absurd (z refl)
divides (negsuc n) (pos (suc k)) z = omega (arith, ints)
divides (negsuc n) (negsuc k) z = omega (arith, ints)

quotient_is : (i : Interpretation) (m d : ℤ) → ¬ (d ≡ pos 0) → quotient_in i m d ≡ int_div_euclid m d
quotient_is i m (pos zero) z = absurd (z refl)
quotient_is i m (pos (suc k)) z = refl
quotient_is i m (negsuc k) z = refl

remainder_is : (i : Interpretation) (m d : ℤ) → ¬ (d ≡ pos 0) → remainder_in i m d ≡ int_rem_euclid m d
remainder_is i m (pos zero) z = absurd (z refl)
remainder_is i m (pos (suc k)) z = refl
remainder_is i m (negsuc k) z = refl

rem_low : (m d : ℤ) → ¬ (d ≡ pos 0) → int_le (pos 0) (int_rem_euclid m d) ≡ true
rem_low (pos n) d z = from_T _ (le_in (pos 0) (int_rem_euclid (pos n) d) (omega arith))
rem_low (negsuc n) d z = from_T _ (le_in (pos 0) (int_rem_euclid (negsuc n) d) (omega arith))

rem_high : (m d : ℤ) → ¬ (d ≡ pos 0) → int_lt (int_rem_euclid m d) (pos (unsigned_abs d)) ≡ true
rem_high m (pos zero) z = absurd (z refl)
rem_high (pos n) (pos (suc k)) z = from_T _ (lt_in (pos (n % suc k)) (pos (suc k)) (omega arith))
rem_high (pos n) (negsuc k) z = from_T _ (lt_in (pos (n % suc k)) (pos (suc k)) (omega arith))
rem_high (negsuc n) (pos (suc k)) z = from_T _ (lt_in (pos (suc k - 1 - n % suc k)) (pos (suc k)) (omega arith))
rem_high (negsuc n) (negsuc k) z = from_T _ (lt_in (pos (suc k - 1 - n % suc k)) (pos (suc k)) (omega arith))

pub divide_0 : (i : Interpretation) (s : State) (a e : Term) (d : ℤ) → ¬ (d ≡ pos 0) → HasSort a IntSort → Equates s a (divided a d) e → Holds i (Yes e ∷ [])
divide_0 i s a e d z h w =
    let v = int_of i a h in
    let m = as_int (value i a) in
    let is : d *ℤ quotient_in i m d +ℤ remainder_in i m d ≡ m = ap₂ (λ q r. d *ℤ q +ℤ r) (quotient_is i m d z) (remainder_is i m d z) ∙ divides m d z in
    let same : value i a ≡ IntElement (d *ℤ quotient_in i m d +ℤ remainder_in i m d) = v ∙ ap IntElement (sym is) in
    record { holds = or_left (is_true i e) false (equates_true i s w same) }

pub divide_1 : (i : Interpretation) (a : Term) (d : ℤ) → ¬ (d ≡ pos 0) → Holds i (Yes (Binary LessEqual (Number (pos 0)) (Binary Mod a (Number d))) ∷ [])
divide_1 i a d z =
    record { holds = or_left _ false (ap (λ r. int_le (pos 0) r) (remainder_is i (as_int (value i a)) d z) ∙ rem_low (as_int (value i a)) d z) }

pub divide_2 : (i : Interpretation) (a : Term) (d : ℤ) → ¬ (d ≡ pos 0) → Holds i (Yes (Binary Less (Binary Mod a (Number d)) (Number (pos (unsigned_abs d)))) ∷ [])
divide_2 i a d z =
    record { holds = or_left _ false (ap (λ r. int_lt r (pos (unsigned_abs d))) (remainder_is i (as_int (value i a)) d z) ∙ rem_high (as_int (value i a)) d z) }
