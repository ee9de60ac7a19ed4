-- Elements that are the same, one place after another.
use Rattle.std.proofs.Common.{◌≡◌, ℕ, zero, suc, ◌<◌, ◌≤◌, ◌+◌, Bool, true, false, ◌&&◌, List, [], ◌∷◌, length, drop, get_or, refl, sym, ◌∙◌, ap, ap₂, arith, add-one, drop-cons}
use Rattle.vx_terms.specs.Interpretations.{same_element}
use Rattle.cs_model.specs.declared.elements.Element.{Element}
use Rattle.cs_model.specs.Elements.{element, elements, same_elements}

pub unequal : (xs ys : List Element) → (length xs ≡ length ys → ⊥) → same_elements (elements xs) (elements ys) ≡ false
unequal [] [] h = absurd (h refl)
unequal [] (y ∷ ys) h = refl
unequal (x ∷ xs) [] h = refl
unequal (x ∷ xs) (y ∷ ys) h = ap (λ b. same_element (element x) (element y) && b) (unequal xs ys (λ e. h (ap suc e))) ∙ go (same_element (element x) (element y))
  where
    go : (b : Bool) → (b && false) ≡ false
    go true = refl
    go false = refl

opened : (xs ys : List Element) (d : Element) (at : ℕ) → at < length xs → at < length ys →
    same_elements (elements (drop at xs)) (elements (drop at ys)) ≡ (same_element (element (get_or xs at d)) (element (get_or ys at d)) && same_elements (elements (drop (at + 1) xs)) (elements (drop (at + 1) ys)))
opened xs ys d at lx ly =
    ap₂ (λ p q. same_elements (elements p) (elements q)) (drop-cons xs at d lx ∙ ap (λ k. get_or xs at d ∷ drop k xs) (sym (add-one at))) (drop-cons ys at d ly ∙ ap (λ k. get_or ys at d ∷ drop k ys) (sym (add-one at)))

pub same_here : (xs ys : List Element) (d : Element) (at : ℕ) → at < length xs → length xs ≡ length ys → same_element (element (get_or xs at d)) (element (get_or ys at d)) ≡ true →
    same_elements (elements (drop at xs)) (elements (drop at ys)) ≡ same_elements (elements (drop (at + 1) xs)) (elements (drop (at + 1) ys))
same_here xs ys d at lx long e = opened xs ys d at lx (omega arith) ∙ ap (λ b. b && same_elements (elements (drop (at + 1) xs)) (elements (drop (at + 1) ys))) e

pub other_here : (xs ys : List Element) (d : Element) (at : ℕ) → at < length xs → length xs ≡ length ys → same_element (element (get_or xs at d)) (element (get_or ys at d)) ≡ false →
    same_elements (elements (drop at xs)) (elements (drop at ys)) ≡ false
other_here xs ys d at lx long e = opened xs ys d at lx (omega arith) ∙ ap (λ b. b && same_elements (elements (drop (at + 1) xs)) (elements (drop (at + 1) ys))) e

gone : (xs : List Element) (at : ℕ) → length xs ≤ at → drop at xs ≡ []
gone [] zero h = refl
gone [] (suc at) h = refl
gone (x ∷ xs) zero h = absurd (omega arith)
gone (x ∷ xs) (suc at) h = gone xs at (omega arith)

pub at_end : (xs ys : List Element) (at : ℕ) → length xs ≤ at → length xs ≡ length ys → same_elements (elements (drop at xs)) (elements (drop at ys)) ≡ true
at_end xs ys at h long = ap₂ (λ p q. same_elements (elements p) (elements q)) (gone xs at h) (gone ys at (omega arith))
