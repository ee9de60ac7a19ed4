-- Truth of literals and clauses.
use Rattle.std.proofs.Common.{◌≡◌, ℕ, zero, suc, Bool, true, false, not, ◌||◌, List, [], ◌∷◌, ◌++◌, map, refl, ap, subst, ◌⊎◌, inl, inr}
use Rattle.std.proofs.lemmas.Option.{same_Some}
use Rattle.std.proofs.lemmas.Bool.{not-true, not_from_false, not-false}
use Rattle.vx_terms.specs.Terms.{Term}
use Rattle.vx_terms.specs.Interpretations.{Interpretation, as_bool, value, Each}
use Rattle.cs_certificate.specs.Certificate.{Literal, Yes, No, negated, Clause, At}

abbrev pub is_true : Interpretation → Term → Bool
is_true i t = as_bool (value i t)

abbrev pub literal_true : Interpretation → Literal → Bool
literal_true i (Yes t) = is_true i t
literal_true i (No t) = not (is_true i t)

abbrev pub clause_true : Interpretation → Clause → Bool
clause_true i [] = false
clause_true i (l ∷ ls) = literal_true i l || clause_true i ls

pub record Holds (i : Interpretation) (c : Clause) : Type 0 where
  pub holds : clause_true i c ≡ true

pub or_left : (a b : Bool) → a ≡ true → a || b ≡ true
or_left true b e = refl
or_left false b e = cc

pub or_right : (a b : Bool) → b ≡ true → a || b ≡ true
or_right true b e = refl
or_right false b e = e

pub or_either : (a b : Bool) → a || b ≡ true → (a ≡ true) ⊎ (b ≡ true)
or_either true b e = inl refl
or_either false b e = inr e

pub append_left : (i : Interpretation) (c d : Clause) → clause_true i c ≡ true → clause_true i (c ++ d) ≡ true
append_left i [] d e = cc
append_left i (l ∷ c) d e = elim (or_either (literal_true i l) (clause_true i c) e) [
  | inl h ↦ or_left (literal_true i l) _ h
  | inr h ↦ or_right (literal_true i l) _ (append_left i c d h)
]

pub append_right : (i : Interpretation) (c d : Clause) → clause_true i d ≡ true → clause_true i (c ++ d) ≡ true
append_right i [] d e = e
append_right i (l ∷ c) d e = or_right (literal_true i l) _ (append_right i c d e)

pub each_at : {A : Type 0} (P : A → Type 0) (xs : List A) (n : ℕ) (x : A) → Each P xs → At xs n x → P x
each_at P [] n x h e = cc
each_at P (y ∷ ys) zero x h e = subst P (same_Some _ _ e) h.0
each_at P (y ∷ ys) (suc n) x h e = each_at P ys n x h.1 e

pub each_append : {A : Type 0} (P : A → Type 0) (xs : List A) (x : A) → Each P xs → P x → Each P (xs ++ x ∷ [])
each_append P [] x h p = (p, tt)
each_append P (y ∷ ys) x h p = (h.0, each_append P ys x h.1 p)

pub negated_true : (i : Interpretation) (l : Literal) → literal_true i (negated l) ≡ true → literal_true i l ≡ false
negated_true i (Yes t) e = not-true (is_true i t) e
negated_true i (No t) e = ap not e

pub false_negated : (i : Interpretation) (l : Literal) → literal_true i l ≡ false → literal_true i (negated l) ≡ true
false_negated i (Yes t) e = not_from_false (is_true i t) e
false_negated i (No t) e = not-false (is_true i t) e

or_false : (a b : Bool) → a || b ≡ false → (a ≡ false) × (b ≡ false)
or_false true b e = cc
or_false false b e = (refl, e)

-- a clause that is false makes the negations of its literals true
pub all_negated : (i : Interpretation) (c : Clause) → clause_true i c ≡ false → Each (λ l. literal_true i l ≡ true) (map negated c)
all_negated i [] e = tt
all_negated i (l ∷ c) e =
    let p = or_false (literal_true i l) (clause_true i c) e in
    (false_negated i l p.0, all_negated i c p.1)
