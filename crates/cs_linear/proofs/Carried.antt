-- Plans for rows, and what they make of them.
use Rattle.std.proofs.Common.{◌≡◌, ℕ, zero, suc, List, [], ◌∷◌, ◌++◌, Option, Some, None, length, slice_get, refl, sym, ◌∙◌, ap, subst, arith}
use Rattle.std.proofs.lemmas.List.{length-set}
use Rattle.std.proofs.lemmas.Option.{same_Some}
use Rattle.cs_linear.specs.declared.rows.Row.{Row}
use Rattle.cs_linear.specs.Pivots.{IsTurned, AreTurned, ArePlanned, chosen, written, carried}
use Rattle.cs_linear.proofs.Lists.{none_some}

-- the last plan first

written_further : (r : Row) (rs : List Row) (n : ℕ) (o : Option Row) → written (r ∷ rs) (suc n) o ≡ r ∷ written rs n o
written_further r rs n None = refl
written_further r rs n (Some x) = refl

written_none : (n : ℕ) (o : Option Row) → written [] n o ≡ []
written_none n None = refl
written_none n (Some x) = refl

written_first : (r : Row) (rs : List Row) (o : Option Row) → chosen o r ∷ rs ≡ written (r ∷ rs) 0 o
written_first r rs None = refl
written_first r rs (Some x) = refl

carried_nothing : (rs : List Row) → carried rs [] ≡ rs
carried_nothing [] = refl
carried_nothing (r ∷ rs) = refl

pub carried_last : (rs : List Row) (os : List (Option Row)) (o : Option Row) → carried rs (os ++ o ∷ []) ≡ carried (written rs (length os) o) os
carried_last [] os o = sym (ap (λ xs. carried xs os) (written_none (length os) o))
carried_last (r ∷ rs) [] o = ap (λ xs. chosen o r ∷ xs) (carried_nothing rs) ∙ written_first r rs o ∙ sym (carried_nothing (written (r ∷ rs) 0 o))
carried_last (r ∷ rs) (q ∷ os) o = ap (λ xs. chosen q r ∷ xs) (carried_last rs os o) ∙ sym (ap (λ xs. carried xs (q ∷ os)) (written_further r rs (length os) o))

pub carried_all : (rs : List Row) (os : List (Option Row)) → os ≡ [] → carried rs os ≡ rs
carried_all rs os is = ap (carried rs) is ∙ carried_nothing rs

pub written_count : (rs : List Row) (n : ℕ) (o : Option Row) → length (written rs n o) ≡ length rs
written_count rs n None = refl
written_count rs n (Some x) = length-set rs n x

carried_count : (rs : List Row) (os : List (Option Row)) → length (carried rs os) ≡ length rs
carried_count [] os = refl
carried_count (r ∷ rs) [] = refl
carried_count (r ∷ rs) (o ∷ os) = ap suc (carried_count rs os)

suc_is : (m n : ℕ) → suc m ≡ suc n → m ≡ n
suc_is m n e = omega arith

carried_each : (Q : ℕ → Row → Row → Type 0) (rs : List Row) (os : List (Option Row)) → length os ≡ length rs → ((i : ℕ) (r : Row) (o : Option Row) → slice_get rs i ≡ Some r → slice_get os i ≡ Some o → Q i r (chosen o r)) →
    (i : ℕ) (r n : Row) → slice_get rs i ≡ Some r → slice_get (carried rs os) i ≡ Some n → Q i r n
carried_each Q [] os len h zero r n er en = none_some r er
carried_each Q [] os len h (suc i) r n er en = none_some r er
carried_each Q (x ∷ rs) [] len h i r n er en = absurd (omega arith)
carried_each Q (x ∷ rs) (o ∷ os) len h zero r n er en = subst (Q 0 r) (same_Some (chosen o r) n (ap (λ x. Some (chosen o x)) (sym (same_Some x r er)) ∙ en)) (h 0 r o er refl)
carried_each Q (x ∷ rs) (o ∷ os) len h (suc i) r n er en = carried_each (λ i. Q (suc i)) rs os (suc_is _ _ len) (λ i r o er eo. h (suc i) r o er eo) i r n er en

pub carried_turned : (at j : ℕ) (s : Row) (rs new : List Row) (os : List (Option Row)) → ArePlanned at j s rs os → new ≡ carried rs os → AreTurned at j s rs new
carried_turned at j s rs new os h is = record {
  count = ap length is ∙ carried_count rs os;
  each = λ i r n er en. carried_each (IsTurned at j s) rs os h.count h.each i r n er (sym (ap (λ (xs : List Row). slice_get xs i) is) ∙ en);
}
