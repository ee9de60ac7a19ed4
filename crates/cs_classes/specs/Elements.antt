-- What is assigned to terms, and the elements that it makes of them.
use Rattle.std.specs.Prelude.{ℕ, Bool, List, map}
use Rattle.vx_terms.specs.Sorts.{Sort, BoolSort}
use Rattle.vx_terms.specs.Terms.{Term, sort_of}
use Rattle.vx_terms.specs.Interpretations.{Element, BoolElement, TreeElement, RefLeaf}

-- whether a Bool term is true, and the class of a term of a declared sort
pub record Assignment : Type 0 where
  pub truth : Term → Bool
  pub class : Term → ℕ

-- the element of a term of this sort
abbrev pub element_at : Assignment → Sort → Term → Element
element_at s BoolSort t = BoolElement (s.truth t)
element_at s _ t = TreeElement (RefLeaf (s.class t))

-- of its own sort
abbrev pub element_of : Assignment → Term → Element
element_of s t = element_at s (sort_of t) t

-- one after another
abbrev pub elements_of : Assignment → List Term → List Element
elements_of s ts = map (element_of s) ts
