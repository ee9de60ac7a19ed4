-- What the simplifying constructors of snapshots keep.
use Rattle.std.specs.Prelude.{◌≡◌, ℕ, ◌+◌, [], ◌∷◌}
use Rattle.vx_ast.specs.declared.ValueType.{ValueType}
use Rattle.vx_terms.specs.Sorts.{SnapSort, Standard}
use Rattle.vx_terms.specs.Terms.{Term}
use Rattle.vx_terms.specs.Build.{pair, first, second, wrap, unwrap, wrap_number, written_first, written_second, written_unwrap}
use Rattle.vx_terms.specs.Formed.{Formed}
use Rattle.vx_terms.specs.Interpretations.{Tree, Pair, Element, TreeElement, IsOf, Interpretation, value}
use Rattle.vx_rules.specs.States.{sort_of_type}

-- what a value is wrapped as, and that it is unwrapped of it
pub record Wraps (i : Interpretation) (a : ValueType) (e : Element) : Type 0 where
  pub tree : Tree
  pub wraps : i.functions (Standard (5 + wrap_number (sort_of_type a))) SnapSort (e ∷ []) ≡ TreeElement tree
  pub unwraps : i.functions (Standard (9 + wrap_number (sort_of_type a))) (sort_of_type a) (TreeElement tree ∷ []) ≡ e

-- the symbols of the preamble mean pairs of trees, their parts, and what is wrapped
pub record MeansTrees (i : Interpretation) : Type 0 where
  pub pairs : (t u : Tree) → i.functions (Standard 2) SnapSort (TreeElement t ∷ TreeElement u ∷ []) ≡ TreeElement (Pair t u)
  pub firsts : (t u : Tree) → i.functions (Standard 3) SnapSort (TreeElement (Pair t u) ∷ []) ≡ TreeElement t
  pub seconds : (t u : Tree) → i.functions (Standard 4) SnapSort (TreeElement (Pair t u) ∷ []) ≡ TreeElement u
  pub wraps : (a : ValueType) (e : Element) → IsOf (sort_of_type a) e → Wraps i a e

-- a part that is given in place of the written one has its value
pub record SnapshotsKeepValues (n : ℕ) (i : Interpretation) : Type 0 where
  pub first : (s t : Term) → Formed n s SnapSort → Formed n t SnapSort → value i (first (pair s t)) ≡ value i (written_first (pair s t))
  pub second : (s t : Term) → Formed n s SnapSort → Formed n t SnapSort → value i (second (pair s t)) ≡ value i (written_second (pair s t))
  pub unwrap : (a : ValueType) (t : Term) → Formed n t (sort_of_type a) → value i (unwrap (sort_of_type a) (wrap (sort_of_type a) t)) ≡ value i (written_unwrap (sort_of_type a) (wrap (sort_of_type a) t))
