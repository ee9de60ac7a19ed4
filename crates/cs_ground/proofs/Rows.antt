-- The rows of a term are numbered without a gap.
use Rattle.std.proofs.Common.{◌≡◌, inl, inr, ℕ, zero, suc, ◌<◌, ◌≤◌, List, length, refl, subst, arith}
use Rattle.std.proofs.lemmas.Bool.{cases_lt}
use Rattle.vx_terms.specs.Terms.{Term}
use Rattle.cs_certificate.specs.Certificate.{Clause, IsAnd, IsOr, Defines, true-is, false-is, not-0, not-1, and-part, and-all, or-part, or-all, implies-0, implies-1, implies-2, ite-0, ite-1, ite-2, ite-3, equal-0, equal-1, equal-2, equal-3}
use Rattle.cs_ground.proofs.Lists.{at_within, at_some}

abbrev HasRow : Term → ℕ → Type 0
HasRow t k = (c : Clause) × Defines t k c

row_at : {t : Term} {k : ℕ} {c : Clause} (j : ℕ) → Defines t k c → k ≡ j → HasRow t j
row_at {t = t} {c = c} j d e = (c, subst (λ i. Defines t i c) e d)

and_row : {t : Term} {xs : List Term} (j : ℕ) → IsAnd t xs → j < length xs → HasRow t j
and_row {xs = xs} j d lt = let x = at_some xs j lt in (_, and-part d x.1)

or_row : {t : Term} {xs : List Term} (j : ℕ) → IsOr t xs → j < length xs → HasRow t j
or_row {xs = xs} j d lt = let x = at_some xs j lt in (_, or-part d x.1)

row_before : {t : Term} {k : ℕ} {c : Clause} (j : ℕ) → Defines t k c → k ≡ suc j → HasRow t j
row_before j true-is e = absurd (omega arith)
row_before j false-is e = absurd (omega arith)
row_before j (not-0 x) e = absurd (omega arith)
row_before j (not-1 x) e = row_at j (not-0 x) (omega arith)
row_before j (and-part {x = x} {xs = xs} {k = k} d at) e = and_row j d (let lt = at_within xs k x at in omega arith)
row_before j (and-all {xs = xs} d) e = and_row j d (omega arith)
row_before j (or-part {x = x} {xs = xs} {k = k} d at) e = or_row j d (let lt = at_within xs k x at in omega arith)
row_before j (or-all {xs = xs} d) e = or_row j d (omega arith)
row_before j (implies-0 x y) e = absurd (omega arith)
row_before j (implies-1 x y) e = row_at j (implies-0 x y) (omega arith)
row_before j (implies-2 x y) e = row_at j (implies-1 x y) (omega arith)
row_before j (ite-0 c x y h) e = absurd (omega arith)
row_before j (ite-1 c x y h) e = row_at j (ite-0 c x y h) (omega arith)
row_before j (ite-2 c x y h) e = row_at j (ite-1 c x y h) (omega arith)
row_before j (ite-3 c x y h) e = row_at j (ite-2 c x y h) (omega arith)
row_before j (equal-0 x y h i) e = absurd (omega arith)
row_before j (equal-1 x y h i) e = row_at j (equal-0 x y h i) (omega arith)
row_before j (equal-2 x y h i) e = row_at j (equal-1 x y h i) (omega arith)
row_before j (equal-3 x y h i) e = row_at j (equal-2 x y h i) (omega arith)

-- where there is no row of a number there is none of a greater one
pub no_more_rows : (t : Term) (k : ℕ) → ((c : Clause) → Defines t k c → ⊥) → (j : ℕ) (c : Clause) → k ≤ j → Defines t j c → ⊥
no_more_rows t k h zero c le d = h c (subst (λ i. Defines t i c) (let e : 0 ≡ k = omega arith in e) d)
no_more_rows t k h (suc j) c le d = elim (cases_lt k (suc j)) [
  | inl lt ↦ (let r = row_before j d refl in no_more_rows t k h j r.0 (omega arith) r.1)
  | inr ge ↦ h c (subst (λ i. Defines t i c) (let e : suc j ≡ k = omega arith in e) d)
]
