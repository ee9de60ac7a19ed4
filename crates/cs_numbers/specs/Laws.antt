-- Numbered terms: each has one number, and the nodes represent them.
use Rattle.std.specs.Prelude.{◌≡◌, ℕ, List, [], Some}
use Rattle.vx_terms.specs.Terms.{Term}
use Rattle.vx_terms.specs.Interpretations.{Each}
use Rattle.vx_terms.specs.Sorts.{Sort}
use Rattle.cs_certificate.specs.Terms.{HasSort, subterms, numbered, parts_of}
use Rattle.cs_certificate.specs.Certificate.{Stack, State, Input, with_term, AllAt}
use Rattle.cs_certificate.specs.Nodes.{Node, Represents}
use Rattle.cs_certificate.specs.Steps.{Computes}
use Rattle.cs_numbers.specs.Numbering.{added, nodes_of, input_clause}

-- a term of some sort
abbrev pub IsSorted : Term → Type 0
IsSorted t = (a : Sort) × HasSort t a

-- the terms of well-sorted assertions and of some further terms, in the order in which they get numbers
pub data IsTable : List Term → Type 0 where
  of_assertions : (ts : List Term) → Each IsSorted ts → IsTable (numbered ts)
  and_of : (terms : List Term) (t : Term) → IsTable terms → IsSorted t → IsTable (added terms (subterms t))

-- numbers are given one after another
abbrev pub Numbers : Type 0
Numbers = (ts : List Term) → added [] (parts_of ts) ≡ numbered ts

-- and a further term's come behind
abbrev pub NumbersMore : Type 0
NumbersMore = (s : State) (t : Term) → IsTable s.terms → added s.terms (subterms t) ≡ (with_term s t).terms

-- there are nodes of numbered terms, which represent them
abbrev pub Tabulates : Type 0
Tabulates = (terms : List Term) → IsTable terms → (ns : List Node) × (nodes_of terms terms ≡ Some ns) × Represents ns terms

-- an `input` step by the numbers of the assertions
abbrev pub InputByNumber : Type 0
InputByNumber = (nodes : List Node) (s : State) (stack : Stack) (roots : List ℕ) → AllAt s.terms roots stack.assertions → (n : ℕ) → Computes nodes s stack (Input n) (input_clause roots n)
