-- How terms get their numbers, one after another, and the nodes of numbered terms.
use Rattle.std.specs.Prelude.{ℕ, suc, Bool, if◌then◌else◌, List, [], ◌∷◌, ◌++◌, Option, Some, None, slice_get}
use Rattle.std.specs.List.{list_any}
use Rattle.std.specs.Option.{option_map}
use Rattle.vx_terms.specs.Terms.{Term, same, sort_of}
use Rattle.cs_certificate.specs.Terms.{head, parts}
use Rattle.cs_certificate.specs.Certificate.{NumberedLiteral}
use Rattle.cs_certificate.specs.Nodes.{Node}
use Rattle.cs_certificate.specs.Steps.{◌>>=◌, plain}

-- the number of a term
abbrev pub place : List Term → Term → Option ℕ
place [] t = None
place (u ∷ us) t = if same t u then Some 0 else option_map suc (place us t)

abbrev pub has : List Term → Term → Bool
has terms t = list_any (same t) terms

-- a term that has no number yet gets the next one
abbrev pub with_one : List Term → Term → List Term
with_one terms t = if has terms t then terms else terms ++ t ∷ []

abbrev pub added : List Term → List Term → List Term
added terms [] = terms
added terms (t ∷ ts) = added (with_one terms t) ts

abbrev pub places : List Term → List Term → Option (List ℕ)
places terms [] = Some []
places terms (t ∷ ts) = do
  n ← place terms t
  ns ← places terms ts
  Some (n ∷ ns)

-- the numbers of terms, behind some others
abbrev pub places_after : List ℕ → List Term → List Term → Option (List ℕ)
places_after front terms ts = places terms ts >>= λ ns. Some (front ++ ns)

-- the node of a term whose parts have these numbers
abbrev pub node_with : Term → List ℕ → Node
node_with t ns = record { head = head t; parts = ns; sort = sort_of t }

abbrev pub node_of : List Term → Term → Option Node
node_of terms t = places terms (parts t) >>= λ ns. Some (node_with t ns)

-- the node of the term with a number
abbrev pub node_at : List Term → ℕ → Option Node
node_at terms n = slice_get terms n >>= λ t. node_of terms t

abbrev pub nodes_of : List Term → List Term → Option (List Node)
nodes_of terms [] = Some []
nodes_of terms (t ∷ ts) = do
  n ← node_of terms t
  ns ← nodes_of terms ts
  Some (n ∷ ns)

-- the nodes of terms, behind some others
abbrev pub nodes_after : List Node → List Term → List Term → Option (List Node)
nodes_after front terms ts = nodes_of terms ts >>= λ ns. Some (front ++ ns)

-- the clause of an `input` step: its assertion's number
abbrev pub input_clause : List ℕ → ℕ → Option (List NumberedLiteral)
input_clause roots n = slice_get roots n >>= λ k. Some (plain k ∷ [])
