-- Lists one behind the other, with a part set, and the members of runs.
use Rattle.std.proofs.Common.{◌≡◌, ◌⊎◌, ℕ, zero, suc, ◌+◌, ◌++◌, ◌∷◌, [], List, Some, length, map, take, drop, slice_get, slice_set, ap, ◌∙◌, sym, refl, inl, inr, arith}
use Rattle.std.proofs.lemmas.List.{map-append}
use Rattle.vx_report.specs.declared.run.MemberRun.{MemberRun}
use Rattle.vx_verifier.specs.Headline.{members_of}

pub drop_front : {A : Type 0} (xs ys : List A) → drop (length xs) (xs ++ ys) ≡ ys
drop_front [] ys = refl
drop_front (x ∷ xs) ys = drop_front xs ys

pub take_front : {A : Type 0} (xs ys : List A) → take (length xs) (xs ++ ys) ≡ xs
take_front [] ys = refl
take_front (x ∷ xs) ys = ap (λ l. x ∷ l) (take_front xs ys)

pub own_front : {A : Type 0} (k : ℕ) (all own rest : List A) → all ≡ own ++ rest → length own ≡ k → (take k all ≡ own) × (drop k all ≡ rest)
own_front k all own rest is count = (
  ap (λ n. take n all) (sym count) ∙ (ap (take (length own)) is ∙ take_front own rest),
  ap (λ n. drop n all) (sym count) ∙ (ap (drop (length own)) is ∙ drop_front own rest),
)

pub members_more : (runs : List MemberRun) (r : MemberRun) → members_of (runs ++ r ∷ []) ≡ members_of runs ++ r.member.0 ∷ []
members_more runs r = map-append (λ (x : MemberRun). x.member.0) runs (r ∷ [])

pub cancelled : {A : Type 0} (xs ys zs : List A) → xs ++ ys ≡ xs ++ zs → ys ≡ zs
cancelled [] ys zs e = e
cancelled (x ∷ xs) ys zs e = cancelled xs ys zs (cc)

pub zero_on : (n : ℕ) → n ≡ 0 + n
zero_on n = omega arith

pub length_set : {A : Type 0} (xs : List A) (i : ℕ) (y : A) → length (slice_set xs i y) ≡ length xs
length_set [] i y = refl
length_set (x ∷ xs) zero y = refl
length_set (x ∷ xs) (suc i) y = ap suc (length_set xs i y)

-- what is read after a write
pub read_set : {A : Type 0} (xs : List A) (i j : ℕ) (y x : A) → slice_get (slice_set xs i y) j ≡ Some x → ((j ≡ i) × (x ≡ y)) ⊎ ((j ≡ i → ⊥) × (slice_get xs j ≡ Some x))
read_set [] i j y x is = grind arith
read_set (z ∷ xs) zero zero y x is = inl (refl, grind arith)
read_set (z ∷ xs) zero (suc j) y x is = inr (λ e. omega arith, is)
read_set (z ∷ xs) (suc i) zero y x is = inr (λ e. omega arith, is)
read_set (z ∷ xs) (suc i) (suc j) y x is = elim (read_set xs i j y x is) [ inl s ↦ inl (ap suc s.0, s.1) | inr s ↦ inr (λ e. s.0 (omega arith), s.1) ]
