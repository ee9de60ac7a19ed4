-- What the index of numbered terms finds is what a walk over them finds.
use Rattle.std.proofs.Common.{◌≡◌, ℕ, suc, Bool, true, false, ◌||◌, is_some, List, [], ◌∷◌, Option, Some, None, refl, sym, ◌∙◌, ap}
use Rattle.std.specs.Prelude.{if◌then◌else◌}
use Rattle.std.specs.Option.{option_map}
use Rattle.vx_terms.specs.Terms.{Term, same}
use Rattle.vx_terms.proofs.Same.{term_is}
use Rattle.cs_index.specs.declared.index.Index.{Index}
use Rattle.cs_index.specs.Under.{under}
use Rattle.cs_index.specs.Found.{first, found, IsIndexed}
use Rattle.cs_numbers.specs.Keys.{term_key}
use Rattle.cs_numbers.specs.Numbering.{place, has}

first_is : (us : List Term) (t : Term) → first (same t) us ≡ place us t
first_is [] t = refl
first_is (u ∷ us) t = ap (λ o. if same t u then Some 0 else option_map suc o) (first_is us t)

pub looked_up : (us : List Term) (i : Index) (t : Term) → IsIndexed term_key us i → found (same t) us (under i (term_key t)) ≡ place us t
looked_up us i t is =
    is.finds (same t) (term_key t) (λ u e. ap term_key (sym (term_is t u e))) ∙ first_is us t

pub has_placed : (us : List Term) (t : Term) → is_some (place us t) ≡ has us t
has_placed [] t = refl
has_placed (u ∷ us) t = go (same t u) (has_placed us t)
  where
    later : (o : Option ℕ) → is_some (option_map suc o) ≡ is_some o
    later None = refl
    later (Some n) = refl

    go : (b : Bool) → is_some (place us t) ≡ has us t → is_some (if b then Some 0 else option_map suc (place us t)) ≡ (b || has us t)
    go true h = refl
    go false h = later (place us t) ∙ h
