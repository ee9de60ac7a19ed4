-- One more term of a list that is walked.
use Rattle.std.proofs.Common.{◌≡◌, ℕ, suc, ◌+◌, ◌<◌, true, false, List, ◌∷◌, map, length, drop, get_or, Option, Some, None, refl, sym, ◌∙◌, ap, arith, add-one, drop-cons}
use Rattle.std.specs.Prelude.{if◌then◌else◌}
use Rattle.std.specs.Option.{option_map}
use Rattle.vx_terms.specs.Terms.{Term, same}
use Rattle.cs_certificate.specs.Terms.{subterms, parts_of}
use Rattle.cs_numbers.specs.Numbering.{place, added}
use Rattle.cs_numbers.proofs.Added.{added_append}

pub shifted : ℕ → Option ℕ → Option ℕ
shifted at o = option_map (λ k. at + k) o

shift_more : (at : ℕ) (o : Option ℕ) → shifted at (option_map suc o) ≡ shifted (at + 1) o
unfolding shifted
shift_more at None = refl
shift_more at (Some k) = ap Some (omega arith)

pub at_first : (o : Option ℕ) → o ≡ shifted 0 o
unfolding shifted
at_first None = refl
at_first (Some k) = ap Some (omega arith)

pub at_end : (at : ℕ) (o : Option ℕ) → o ≡ None → shifted at o ≡ None
unfolding shifted
at_end at o e = ap (option_map (λ k. at + k)) e

module _ {X : Type 0} (view : X → Term) (all : List X) (at : ℕ) (x : X) (lt : at < length all) (is : x ≡ get_or all at x) where
  pub split_at : drop at all ≡ x ∷ drop (at + 1) all
  split_at = drop-cons all at x lt ∙ ap (λ y. y ∷ drop (suc at) all) (sym is) ∙ ap (λ k. x ∷ drop k all) (sym (add-one at))

  pub here : (t : Term) → same t (view x) ≡ true → shifted at (place (map view (drop at all)) t) ≡ Some at
  unfolding shifted
  here t e =
      ap (λ xs. shifted at (place (map view xs) t)) split_at
      ∙ ap (λ b. shifted at (if b then Some 0 else option_map suc (place (map view (drop (at + 1) all)) t))) e
      ∙ ap Some (omega arith)

  pub further : (t : Term) → same t (view x) ≡ false → shifted at (place (map view (drop at all)) t) ≡ shifted (at + 1) (place (map view (drop (at + 1) all)) t)
  further t e =
      ap (λ xs. shifted at (place (map view xs) t)) split_at
      ∙ ap (λ b. shifted at (if b then Some 0 else option_map suc (place (map view (drop (at + 1) all)) t))) e
      ∙ shift_more at (place (map view (drop (at + 1) all)) t)

  pub one_more : (terms : List Term) → added terms (parts_of (map view (drop at all))) ≡ added (added terms (subterms (view x))) (parts_of (map view (drop (at + 1) all)))
  one_more terms = ap (λ xs. added terms (parts_of (map view xs))) split_at ∙ added_append terms (subterms (view x)) (parts_of (map view (drop (at + 1) all)))
