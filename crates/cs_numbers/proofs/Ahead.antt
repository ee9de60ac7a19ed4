-- The nodes of the terms from a number on.
use Rattle.std.proofs.Common.{◌≡◌, ℕ, zero, suc, ◌+◌, ◌<◌, ◌≤◌, List, [], ◌∷◌, ◌++◌, length, drop, slice_get, Option, Some, None, refl, sym, ◌∙◌, ap, arith, append_assoc, append-nil, add-one}
use Rattle.std.proofs.lemmas.List.{drop_all}
use Rattle.vx_terms.specs.Terms.{Term}
use Rattle.cs_certificate.specs.Nodes.{Node}
use Rattle.cs_certificate.specs.Steps.{◌>>=◌}
use Rattle.cs_table.specs.Gives.{Fails}
use Rattle.cs_table.specs.declared.steps.Stop.{Stop}
use Rattle.cs_table.specs.declared.steps.Stop.TheVariants as stops
use Rattle.cs_numbers.specs.Numbering.{node_of, node_at, nodes_of, nodes_after}

from_here : (ts : List Term) (k : ℕ) (t : Term) → slice_get ts k ≡ Some t → drop k ts ≡ t ∷ drop (suc k) ts
from_here [] k t e = cc
from_here (u ∷ ts) zero t e = ap (λ x. x ∷ ts) (let is : u ≡ t = cc in is)
from_here (u ∷ ts) (suc k) t e = from_here ts k t e

there : (ts : List Term) (k : ℕ) → k < length ts → slice_get ts k ≡ None → ⊥
there [] k lt e = absurd (omega arith)
there (u ∷ ts) zero lt e = cc
there (u ∷ ts) (suc k) lt e = there ts k (omega arith) e

-- what a node, and those of the further terms, give behind some others
behind : List Node → Option Node → Option (List Node) → Option (List Node)
behind front o p = (o >>= λ n. p >>= λ ns. Some (n ∷ ns)) >>= λ ns. Some (front ++ ns)

split : (front : List Node) (terms : List Term) (k : ℕ) (t : Term) → slice_get terms k ≡ Some t → nodes_after front terms (drop k terms) ≡ behind front (node_at terms k) (nodes_of terms (drop (k + 1) terms))
unfolding behind
split front terms k t e =
    ap (nodes_after front terms) (from_here terms k t e ∙ ap (λ j. t ∷ drop j terms) (sym (add-one k)))
    ∙ ap (λ o. behind front o (nodes_of terms (drop (k + 1) terms))) (sym (ap (λ o. o >>= λ u. node_of terms u) e))

pub one_node : (front : List Node) (terms : List Term) (k : ℕ) (n : Node) → node_at terms k ≡ Some n → nodes_after front terms (drop k terms) ≡ nodes_after (front ++ n ∷ []) terms (drop (k + 1) terms)
unfolding behind
one_node front terms k n e = at (slice_get terms k) refl e
  where
    joined : (p : Option (List Node)) → behind front (Some n) p ≡ (p >>= λ ns. Some ((front ++ n ∷ []) ++ ns))
    joined None = refl
    joined (Some ns) = ap Some (sym (append_assoc front (n ∷ []) ns))

    at : (o : Option Term) → slice_get terms k ≡ o → (o >>= λ u. node_of terms u) ≡ Some n → nodes_after front terms (drop k terms) ≡ nodes_after (front ++ n ∷ []) terms (drop (k + 1) terms)
    at None f g = cc
    at (Some t) f g = split front terms k t f ∙ ap (λ o. behind front o (nodes_of terms (drop (k + 1) terms))) e ∙ joined (nodes_of terms (drop (k + 1) terms))

pub no_node : (front : List Node) (terms : List Term) (k : ℕ) → k < length terms → node_at terms k ≡ None → nodes_after front terms (drop k terms) ≡ None
unfolding behind
no_node front terms k lt e = at (slice_get terms k) refl
  where
    at : (o : Option Term) → slice_get terms k ≡ o → nodes_after front terms (drop k terms) ≡ None
    at None f = absurd (there terms k lt f)
    at (Some t) f = split front terms k t f ∙ ap (λ o. behind front o (nodes_of terms (drop (k + 1) terms))) e

pub no_more : (front : List Node) (terms : List Term) (k : ℕ) → length terms ≤ k → nodes_after front terms (drop k terms) ≡ Some front
no_more front terms k le = ap (nodes_after front terms) (drop_all k terms le) ∙ ap Some (append-nil front)

pub from_none : (terms ts : List Term) → nodes_after [] terms ts ≡ nodes_of terms ts
from_none terms ts = go (nodes_of terms ts)
  where
    go : (o : Option (List Node)) → (o >>= λ ns. Some ns) ≡ o
    go None = refl
    go (Some ns) = refl

-- where a node fails, so do all
fails_too : {X Y : Type 0} (stop : Stop) (o : Option X) (p : Option Y) → (o ≡ None → p ≡ None) → Fails stop o → Fails stop p
fails_too stops.Want o p h f = f
fails_too stops.Miss o p h f = h f

pub failed : (stop : Stop) (front : List Node) (terms : List Term) (k : ℕ) → k < length terms → Fails stop (node_at terms k) → Fails stop (nodes_after front terms (drop k terms))
failed stop front terms k lt = fails_too stop (node_at terms k) (nodes_after front terms (drop k terms)) (no_node front terms k lt)
