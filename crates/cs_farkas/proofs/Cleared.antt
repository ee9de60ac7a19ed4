-- Columns of which none is other than 0.
use Rattle.std.proofs.Common.{◌≡◌, ℕ, zero, suc, ◌+◌, ◌-◌, ◌*◌, ℤ, pos, ◌*ℤ◌, Bool, true, false, ◌&&◌, cond, List, [], ◌∷◌, length, map, refl, sym, ◌∙◌, ap, ap₂, ne_eqb, arith}
use Rattle.std.specs.Prelude.{nat_eq, replicate, IsTrue, unsigned_abs}
use Rattle.std.specs.List.{list_all}
use Rattle.std.specs.Ordering.{int_eq}
use Rattle.std.proofs.lemmas.Bool.{and_parts}
use Rattle.vx_frac.specs.declared.Frac.{Frac}
use Rattle.vx_frac.specs.Fraction.{fraction}
use Rattle.vx_frac.specs.Fractions.{none, lowest, same_fraction}
use Rattle.vx_frac.proofs.Lowest.{lowest-same}
use Rattle.vx_frac.proofs.Reduced.{lowest_fraction}
use Rattle.vx_frac.proofs.Sums.{equal_ints}
use Rattle.vx_terms.proofs.Same.{int_is}
use Rattle.cs_farkas.specs.Columns.{others_in}
use Rattle.cs_farkas.specs.Rows.{is_zero}

not_none : (n : ℕ) → 1 + n ≡ 0 → ⊥
not_none n e = omega arith

step : (b : Bool) (n : ℕ) → nat_eq (cond b 0 1 + n) 0 ≡ b && nat_eq n 0
step true n = ap (λ k. nat_eq k 0) (omega arith)
step false n = ne_eqb (1 + n) 0 (not_none n)

pub all_zero : (fs : List Frac) → nat_eq (others_in fs) 0 ≡ list_all is_zero (map fraction fs)
all_zero [] = refl
all_zero (f ∷ fs) = step (int_eq f.num (pos 0)) (others_in fs) ∙ ap (λ b. int_eq f.num (pos 0) && b) (all_zero fs)

zero_cross : (z : ℤ) (d : ℕ) → z ≡ pos 0 → z *ℤ pos 1 ≡ pos 0 *ℤ pos (suc d)
zero_cross z d e = ap (λ x. x *ℤ pos 1) e ∙ ap pos (sym zero_times)
  where
    zero_times : 0 * suc d ≡ 0 * 1
    zero_times = omega arith

zero_is : (f : Frac) → int_eq f.num (pos 0) ≡ true → fraction f ≡ none
unfolding lowest
zero_is f e =
    let z : f.num ≡ pos 0 = int_is f.num (pos 0) e in
    let same : same_fraction (fraction f) none ≡ true = equal_ints _ _ (zero_cross f.num (unsigned_abs f.den - 1) z) in
    sym (lowest_fraction f) ∙ lowest-same (fraction f) none same

pub all_none : (fs : List Frac) → list_all is_zero (map fraction fs) ≡ true → map fraction fs ≡ replicate (length fs) none
all_none [] e = refl
all_none (f ∷ fs) e = let p = and_parts (int_eq f.num (pos 0)) (list_all is_zero (map fraction fs)) e in ap₂ (λ x xs. x ∷ xs) (zero_is f p.0) (all_none fs p.1)

pub clear_from : (fs : List Frac) {n : ℕ} → n ≡ others_in fs → IsTrue (nat_eq n 0) → map fraction fs ≡ replicate (length fs) none
clear_from fs e h = all_none fs (sym (all_zero fs) ∙ ap (λ k. nat_eq k 0) (sym e) ∙ h)

-- columns of 0
pub replicated : (n : ℕ) (f : Frac) → fraction f ≡ none → map fraction (replicate n f) ≡ replicate n none
replicated zero f e = refl
replicated (suc n) f e = ap₂ (λ x xs. x ∷ xs) e (replicated n f e)

pub none_counted : (n : ℕ) (f : Frac) → int_eq f.num (pos 0) ≡ true → 0 ≡ others_in (replicate n f)
none_counted zero f e = refl
none_counted (suc n) f e = none_counted n f e ∙ sym (ap (λ b. cond b 0 1 + others_in (replicate n f)) e ∙ none_more (others_in (replicate n f)))
  where
    none_more : (k : ℕ) → 0 + k ≡ k
    none_more k = omega arith
