-- What the index of a table finds is what a walk over it finds.
use Rattle.std.proofs.Common.{◌≡◌, ℕ, suc, true, List, [], ◌∷◌, refl, sym, ◌∙◌, ap, ap₂, Some}
use Rattle.std.specs.Prelude.{if◌then◌else◌}
use Rattle.std.specs.Option.{option_map}
use Rattle.std.proofs.lemmas.Bool.{and_parts}
use Rattle.cs_index.specs.declared.index.Index.{Index}
use Rattle.cs_index.specs.Under.{under}
use Rattle.cs_index.specs.Found.{first, found, IsIndexed}
use Rattle.cs_certificate.specs.Terms.{Head}
use Rattle.cs_certificate.specs.Nodes.{Node, is_node, number_of}
use Rattle.cs_certificate.proofs.Heads.{head_is, numbers_are}
use Rattle.cs_table.specs.Keys.{key_over, node_key}

first_is : (ns : List Node) (h : Head) (ps : List ℕ) → first (is_node h ps) ns ≡ number_of ns h ps
first_is [] h ps = refl
first_is (n ∷ ns) h ps = ap (λ o. if is_node h ps n then Some 0 else option_map suc o) (first_is ns h ps)

same_key : (h : Head) (ps : List ℕ) (n : Node) → is_node h ps n ≡ true → node_key n ≡ key_over h ps
same_key h ps n e = let p = and_parts _ _ e in ap₂ key_over (sym (head_is h n.head p.0)) (sym (numbers_are ps n.parts p.1))

pub looked_up : (ns : List Node) (i : Index) (h : Head) (ps : List ℕ) → IsIndexed node_key ns i → found (is_node h ps) ns (under i (key_over h ps)) ≡ number_of ns h ps
looked_up ns i h ps is =
    is.finds (is_node h ps) (key_over h ps) (same_key h ps) ∙ first_is ns h ps
