-- Atoms and classes, one more at a time.
use Rattle.std.proofs.Common.{◌≡◌, ◌+◌, ◌<◌, inl, inr, ℕ, Bool, true, false, List, [], ◌∷◌, ◌++◌, get_or, length, take, sym, ◌∙◌, ap, subst, arith}
use Rattle.std.proofs.lemmas.List.{length-append, length-map, length-take-le, map-append, take_more}
use Rattle.vx_terms.specs.Sorts.{BoolSort, same_sort}
use Rattle.vx_terms.specs.Views.{sort}
use Rattle.vx_terms.proofs.Same.{sort_is}
use Rattle.cs_certificate.specs.Certificate.{At}
use Rattle.cs_certificate.specs.Nodes.{Node}
use Rattle.cs_certificate.proofs.Heads.{sort_same}
use Rattle.cs_table.specs.Views.{node, nodes}
use Rattle.cs_table.specs.declared.node.Node.{Node as Node'}
use Rattle.cs_search.proofs.Gets.{get_push_old, get_push_new, get_push_cases}
use Rattle.cs_ground.specs.Atoms.{IsBool, AreAtoms}
use Rattle.cs_ground.specs.Assigned.{IsClass, AreClasses}

-- the class of one term more
pub class_more : (nodes : List Node) (truths : List Bool) (n : ℕ) (classes : List ℕ) (class : ℕ) → AreClasses nodes truths n classes → IsClass nodes truths n class → AreClasses nodes truths (n + 1) (classes ++ class ∷ [])
class_more nodes truths n classes class are is = record {
  number = omega (arith, length-append classes (class ∷ []), are.number);
  each = λ m c at. elim (get_push_cases classes m class c at) [
    | inl old ↦ are.each m c old
    | inr w ↦ (let at_n : n ≡ m = sym (w.0 ∙ are.number) in subst (λ k. IsClass nodes truths m k) (sym w.1) (subst (λ k. IsClass nodes truths k class) at_n is))
  ];
}

-- a term is Bool still behind one more
bool_more : (nodes : List Node) (y : Node) (n : ℕ) → IsBool nodes n → IsBool (nodes ++ y ∷ []) n
bool_more nodes y n b = (b.0, get_push_old nodes n y b.0 b.1, b.2)

-- one Bool term more
pub atom_more : (nodes : List Node) (terms places : List ℕ) (y : Node) → AreAtoms nodes terms places → length places ≡ length nodes → y.sort ≡ BoolSort → AreAtoms (nodes ++ y ∷ []) (terms ++ length nodes ∷ []) (places ++ length terms ∷ [])
atom_more nodes terms places y are e s =
    let here : At (places ++ length terms ∷ []) (length nodes) (length terms) = subst (λ k. At (places ++ length terms ∷ []) k (length terms)) e (get_push_new places (length terms)) in
    record {
      placed = λ n b. elim (get_push_cases nodes n y b.0 b.1) [
        | inl old ↦ (let w = are.placed n (b.0, old, b.2) in (w.0, get_push_old places n (length terms) w.0 w.1, get_push_old terms w.0 (length nodes) n w.2))
        | inr w ↦ subst (λ k. (a : ℕ) × At (places ++ length terms ∷ []) k a × At (terms ++ length nodes ∷ []) a k) (sym w.0) (length terms, here, get_push_new terms (length nodes))
      ];
      named = λ a n at. elim (get_push_cases terms a (length nodes) n at) [
        | inl old ↦ (let w = are.named a n old in (bool_more nodes y n w.0, get_push_old places n (length terms) a w.1))
        | inr w ↦ subst (λ k. IsBool (nodes ++ y ∷ []) k × At (places ++ length terms ∷ []) k a) (sym w.1)
            (subst (λ b. IsBool (nodes ++ y ∷ []) (length nodes) × At (places ++ length terms ∷ []) (length nodes) b) (sym w.0) ((y, get_push_new nodes y, s), here))
      ];
    }

-- one other term more
pub other_more : (nodes : List Node) (terms places : List ℕ) (y : Node) (place : ℕ) → AreAtoms nodes terms places → ¬ (y.sort ≡ BoolSort) → AreAtoms (nodes ++ y ∷ []) terms (places ++ place ∷ [])
other_more nodes terms places y place are s = record {
  placed = λ n b. elim (get_push_cases nodes n y b.0 b.1) [
    | inl old ↦ (let w = are.placed n (b.0, old, b.2) in (w.0, get_push_old places n place w.0 w.1, w.2))
    | inr w ↦ absurd (s (ap (λ x. x.sort) (sym w.1) ∙ b.2))
  ];
  named = λ a n at. (let w = are.named a n at in (bool_more nodes y n w.0, get_push_old places n place a w.1));
}

module _ (xs : List Node') (n : ℕ) (x : Node') (within : n < length xs) (at : x ≡ get_or xs n x) (terms places : List ℕ) (are : AreAtoms (nodes (take n xs)) terms places) (count : length places ≡ n) where
  -- the first nodes are so many
  first : length (nodes (take n xs)) ≡ n
  first = length-map (take n xs) node ∙ length-take-le n xs (omega arith)

  -- and then there is this one
  one_more : nodes (take (n + 1) xs) ≡ nodes (take n xs) ++ node x ∷ []
  one_more = ap nodes (take_more xs n x within) ∙ map-append node (take n xs) (get_or xs n x ∷ []) ∙ ap (λ y. nodes (take n xs) ++ node y ∷ []) (sym at)

  -- which is Bool
  pub bool_step : same_sort (sort x.sort) BoolSort ≡ true → AreAtoms (nodes (take (n + 1) xs)) (terms ++ n ∷ []) (places ++ length terms ∷ [])
  bool_step s =
      subst (λ ys. AreAtoms ys (terms ++ n ∷ []) (places ++ length terms ∷ [])) (sym one_more)
      (subst (λ m. AreAtoms (nodes (take n xs) ++ node x ∷ []) (terms ++ m ∷ []) (places ++ length terms ∷ [])) first
      (atom_more (nodes (take n xs)) terms places (node x) are (count ∙ sym first) (sort_is _ _ s)))

  -- or of another sort
  pub other_step : same_sort (sort x.sort) BoolSort ≡ false → AreAtoms (nodes (take (n + 1) xs)) terms (places ++ length terms ∷ [])
  other_step s =
      subst (λ ys. AreAtoms ys terms (places ++ length terms ∷ [])) (sym one_more)
      (other_more (nodes (take n xs)) terms places (node x) (length terms) are (λ e. let f : true ≡ false = sym (sort_same BoolSort) ∙ ap (λ a. same_sort a BoolSort) (sym e) ∙ s in cc))
