-- Parts of pairs, and what is unwrapped of a wrap, keep their values.
use Rattle.std.proofs.Common.{◌≡◌, ℕ, ◌+◌, Bool, true, false, cond, [], ◌∷◌, refl, sym, ◌∙◌, ap, ap₂}
use Rattle.vx_ast.specs.declared.ValueType.{ValueType}
use Rattle.vx_terms.specs.Sorts.{SnapSort, Standard}
use Rattle.vx_terms.specs.Terms.{Term, same}
use Rattle.vx_terms.specs.Build.{pair, wrap, wrap_number, written_first, written_second, written_unwrap}
use Rattle.vx_terms.specs.Formed.{Formed}
use Rattle.vx_terms.specs.Interpretations.{Pair, Element, IntElement, BoolElement, RealElement, TreeElement, IsOf, as_sort, as_tree, Interpretation, value}
use Rattle.vx_terms.proofs.Values.{value_of_sort}
use Rattle.vx_rules.specs.States.{sort_of_type}
use Rattle.vx_elements.proofs.Settled.{as_sort_same}
use Rattle.vx_law.specs.Snapshots.{MeansTrees, SnapshotsKeepValues}

tree_element : (e : Element) → IsOf SnapSort e → e ≡ TreeElement (as_tree e)
tree_element (IntElement z) h = absurd h
tree_element (BoolElement b) h = absurd h
tree_element (RealElement a) h = absurd h
tree_element (TreeElement t) h = refl

module _ (n : ℕ) (i : Interpretation) (m : MeansTrees i) where
  tree_of : (t : Term) → Formed n t SnapSort → value i t ≡ TreeElement (as_tree (value i t))
  tree_of t f = tree_element (value i t) (value_of_sort i f)

  pair_value : (s t : Term) → Formed n s SnapSort → Formed n t SnapSort → value i (pair s t) ≡ TreeElement (Pair (as_tree (value i s)) (as_tree (value i t)))
  pair_value s t f g =
      ap₂ (λ (x y : Element). as_sort SnapSort (i.functions (Standard 2) SnapSort (x ∷ y ∷ []))) (tree_of s f) (tree_of t g)
      ∙ ap (as_sort SnapSort) (m.pairs (as_tree (value i s)) (as_tree (value i t)))

  first_kept : (s t : Term) → Formed n s SnapSort → Formed n t SnapSort → value i s ≡ value i (written_first (pair s t))
  first_kept s t f g =
      tree_of s f
      ∙ sym (ap (λ (x : Element). as_sort SnapSort (i.functions (Standard 3) SnapSort (x ∷ []))) (pair_value s t f g)
      ∙ ap (as_sort SnapSort) (m.firsts (as_tree (value i s)) (as_tree (value i t))))

  second_kept : (s t : Term) → Formed n s SnapSort → Formed n t SnapSort → value i t ≡ value i (written_second (pair s t))
  second_kept s t f g =
      tree_of t g
      ∙ sym (ap (λ (x : Element). as_sort SnapSort (i.functions (Standard 4) SnapSort (x ∷ []))) (pair_value s t f g)
      ∙ ap (as_sort SnapSort) (m.seconds (as_tree (value i s)) (as_tree (value i t))))

  wrapped_kept : (a : ValueType) (t : Term) → Formed n t (sort_of_type a) → value i t ≡ value i (written_unwrap (sort_of_type a) (wrap (sort_of_type a) t))
  wrapped_kept a t f =
      let of = value_of_sort i f in
      let w = m.wraps a (value i t) of in
      sym (ap (λ (x : Element). as_sort (sort_of_type a) (i.functions (Standard (9 + wrap_number (sort_of_type a))) (sort_of_type a) (as_sort SnapSort x ∷ []))) w.wraps
      ∙ ap (as_sort (sort_of_type a)) w.unwraps ∙ as_sort_same (sort_of_type a) (value i t) of)

  unwrap_kept : (b : Bool) (a : ValueType) (t : Term) → Formed n t (sort_of_type a)
      → value i (cond b t (written_unwrap (sort_of_type a) (wrap (sort_of_type a) t))) ≡ value i (written_unwrap (sort_of_type a) (wrap (sort_of_type a) t))
  unwrap_kept true a t f = wrapped_kept a t f
  unwrap_kept false a t f = refl

  pub kept : SnapshotsKeepValues n i
  kept = record {
    first = first_kept;
    second = second_kept;
    unwrap = λ a t f. unwrap_kept (same (wrap (sort_of_type a) t) (wrap (sort_of_type a) t)) a t f;
  }
