-- What a derivation has reached: its terms, clauses and steps, and that the steps lead there.
use Rattle.std.specs.Prelude.{◌≡◌, ℕ, List, [], ◌∷◌, ◌++◌, map, length, Option, Some, None, Ok, Err}
use Rattle.std.specs.declared.result.Result.{Result}
use Rattle.vx_terms.specs.Terms.{Term}
use Rattle.vx_terms.specs.Interpretations.{Each}
use Rattle.cs_certificate.specs.Certificate.{Stack, State, start, with_clause, with_term, Clause, Step, NewTerm, Farkas, At, AllAt, Derives, Leads}
use Rattle.cs_certificate.specs.Nodes.{Node}
use Rattle.cs_numbers.specs.Numbering.{nodes_of}
use Rattle.cs_numbers.specs.Laws.{IsTable}
use Rattle.cs_writable.specs.Writable.{IsWritable}
use Rattle.cs_certificate.specs.declared.literal.Literal.{Literal}
use Rattle.cs_certificate.specs.Bridge.{views, IsNumbered}

-- the numbered terms with their nodes, the numbers of the assertions, the clauses, and the steps as they are written
pub record Reached : Type 0 where
  pub terms : List Term
  pub nodes : List Node
  pub roots : List ℕ
  pub clauses : List (List Literal)
  pub steps : List (Option Step)

-- its terms and clauses
abbrev pub state_of : Reached → State
state_of r = record { terms = r.terms; clauses = map (views r.terms) r.clauses }

-- a writable step that is no `farkas` step
abbrev pub IsPlain : Step → Type 0
IsPlain (Farkas ls ms) = ⊥
IsPlain step = IsWritable step

-- the steps meet their rules over this stack, and lead to the terms and clauses; all are writable, and none is a `farkas` step
pub record Stands (stack : Stack) (r : Reached) : Type 0 where
  pub table : IsTable r.terms
  pub nodes : nodes_of r.terms r.terms ≡ Some r.nodes
  pub numbers : Each (Each (IsNumbered r.terms)) r.clauses
  pub at_roots : AllAt r.terms r.roots stack.assertions
  pub steps : List Step
  pub written : r.steps ≡ map Some steps
  pub leads : Leads stack (start stack) steps (state_of r)
  pub plain : Each IsPlain steps

-- one step more, with the clause that it derives behind the others, which has this number
pub record IsDerived (stack : Stack) (step : Step) (before after : Reached) (number : ℕ) : Type 0 where
  pub clause : Clause
  pub derives : Derives stack (state_of before) step clause
  pub state : state_of after ≡ with_clause (state_of before) clause
  pub last : number ≡ length before.clauses
  pub steps : after.steps ≡ before.steps ++ Some step ∷ []
  pub stands : Stands stack after

-- there is a new clause exactly where the step's rule derives one; else, and where memory runs out, nothing changes
abbrev pub Adds : {E : Type 0} → Stack → Step → Reached → Reached → Result (Option ℕ) E → Type 0
Adds stack step before after (Ok (Some n)) = IsDerived stack step before after n
Adds stack step before after (Ok None) = (after ≡ before) × ((c : Clause) → Derives stack (state_of before) step c → ⊥)
Adds stack step before after (Err e) = after ≡ before

-- a `term` step more: the term and its parts have numbers, and the term has this one
pub record IsNamed (stack : Stack) (t : Term) (before after : Reached) (number : ℕ) : Type 0 where
  pub state : state_of after ≡ with_term (state_of before) t
  pub here : At after.terms number t
  pub steps : after.steps ≡ before.steps ++ Some (NewTerm t) ∷ []
  pub stands : Stands stack after

-- the terms of the assertions are numbered, and there is no step yet
pub record IsNew (stack : Stack) (r : Reached) : Type 0 where
  pub state : state_of r ≡ start stack
  pub steps : r.steps ≡ []
  pub stands : Stands stack r
