-- Terms as they stand in some others, the first one last.
use Rattle.std.specs.Prelude.{◌≡◌, List, ◌∷◌, map, reverse}
use Rattle.vx_terms.specs.Terms.{Term}
use Rattle.vx_terms.specs.Views.{term}
use Rattle.cs_certificate.specs.Terms.{parts_of}
use Rattle.cs_numbers.specs.declared.occurrence.Occurrence.{Occurrence}

abbrev pub seen : List Occurrence → List Term
seen all = map (λ x. term x.of.value) all

-- all that stands in some terms, and these
pub record IsForest (all : List Term) : Type 0 where
  pub of : List Term
  pub is : all ≡ reverse (parts_of of)

-- the first of these terms is t, and the others are all that is left
pub record IsFirst (ts : List Term) (t : Term) (left : List Term) : Type 0 where
  pub others : List Term
  pub first : ts ≡ t ∷ others
  pub is : left ≡ reverse (parts_of others)
