-- One more node that was looked at.
use Rattle.std.proofs.Common.{◌≡◌, ℕ, suc, ◌+◌, ◌<◌, true, false, List, ◌∷◌, length, drop, get_or, Option, Some, None, refl, sym, ◌∙◌, ap, arith, add-one, drop-cons}
use Rattle.std.specs.Prelude.{if◌then◌else◌}
use Rattle.std.specs.Option.{option_map}
use Rattle.cs_certificate.specs.Terms.{Head}
use Rattle.cs_certificate.specs.Nodes.{is_node, number_of}
use Rattle.cs_table.specs.declared.node.Node.{Node as Node'}
use Rattle.cs_table.specs.Views.{node, nodes}

pub shifted : ℕ → Option ℕ → Option ℕ
shifted at o = option_map (λ k. at + k) o

shift_more : (at : ℕ) (o : Option ℕ) → shifted at (option_map suc o) ≡ shifted (at + 1) o
unfolding shifted
shift_more at None = refl
shift_more at (Some k) = ap Some (omega arith)

split_at : (all : List Node') (at : ℕ) (n : Node') → at < length all → n ≡ get_or all at n → drop at all ≡ n ∷ drop (at + 1) all
split_at all at n lt is = drop-cons all at n lt ∙ ap (λ x. x ∷ drop (suc at) all) (sym is) ∙ ap (λ k. n ∷ drop k all) (sym (add-one at))

pub here : (all : List Node') (h : Head) (ps : List ℕ) (at : ℕ) (n : Node') → at < length all → n ≡ get_or all at n → is_node h ps (node n) ≡ true → shifted at (number_of (nodes (drop at all)) h ps) ≡ Some at
unfolding shifted
here all h ps at n lt is e =
    ap (λ ns. shifted at (number_of (nodes ns) h ps)) (split_at all at n lt is)
    ∙ ap (λ b. shifted at (if b then Some 0 else option_map suc (number_of (nodes (drop (at + 1) all)) h ps))) e
    ∙ ap Some (omega arith)

pub further : (all : List Node') (h : Head) (ps : List ℕ) (at : ℕ) (n : Node') → at < length all → n ≡ get_or all at n → is_node h ps (node n) ≡ false →
    shifted at (number_of (nodes (drop at all)) h ps) ≡ shifted (at + 1) (number_of (nodes (drop (at + 1) all)) h ps)
further all h ps at n lt is e =
    ap (λ ns. shifted at (number_of (nodes ns) h ps)) (split_at all at n lt is)
    ∙ ap (λ b. shifted at (if b then Some 0 else option_map suc (number_of (nodes (drop (at + 1) all)) h ps))) e
    ∙ shift_more at (number_of (nodes (drop (at + 1) all)) h ps)

pub at_first : (o : Option ℕ) → o ≡ shifted 0 o
unfolding shifted
at_first None = refl
at_first (Some k) = ap Some (omega arith)

pub at_end : (at : ℕ) (o : Option ℕ) → o ≡ None → shifted at o ≡ None
unfolding shifted
at_end at o e = ap (option_map (λ k. at + k)) e
