-- The elements that a list of truths and one of classes tell, by the numbers of terms.
use Rattle.std.specs.Prelude.{◌≡◌, ℕ, Bool, false, List, Option, Some, None, slice_get, get_or}
use Rattle.vx_terms.specs.Sorts.{Sort, BoolSort}
use Rattle.vx_terms.specs.Terms.{Term, sort_of}
use Rattle.vx_terms.specs.Interpretations.{Element, BoolElement, TreeElement, RefLeaf, Empty}
use Rattle.cs_certificate.specs.Certificate.{At}
use Rattle.cs_certificate.specs.Nodes.{Node}
use Rattle.cs_classes.specs.Elements.{Assignment}

-- the element of the term of this sort and number: of a Bool term its truth, of any other its class
abbrev pub told : List Bool → List ℕ → ℕ → Sort → Element
told truths classes n BoolSort = BoolElement (get_or truths n false)
told truths classes n _ = TreeElement (RefLeaf (get_or classes n 0))

-- at the sort of its node, if there is one
abbrev pub told_of : List Bool → List ℕ → ℕ → Option Node → Element
told_of truths classes n None = TreeElement Empty
told_of truths classes n (Some x) = told truths classes n x.sort

-- by the node of this number
abbrev pub told_at : List Node → List Bool → List ℕ → ℕ → Element
told_at nodes truths classes n = told_of truths classes n (slice_get nodes n)

-- at each term's number the lists have what is assigned to it
pub record Tells (all : List Term) (truths : List Bool) (classes : List ℕ) (s : Assignment) : Type 0 where
  pub truth : (n : ℕ) (t : Term) → At all n t → sort_of t ≡ BoolSort → slice_get truths n ≡ Some (s.truth t)
  pub class : (n : ℕ) (t : Term) → At all n t → ¬ (sort_of t ≡ BoolSort) → slice_get classes n ≡ Some (s.class t)
