-- Satisfied rows and closed classes make a model.
use Rattle.std.specs.Prelude.{◌≡◌, ◌↔◌, true, List}
use Rattle.vx_terms.specs.Sorts.{BoolSort}
use Rattle.vx_terms.specs.Terms.{Term}
use Rattle.vx_terms.specs.Interpretations.{Interpretation, Each, AllTrue, IsSatisfiable, value}
use Rattle.cs_certificate.specs.Terms.{HasSort, numbered}
use Rattle.cs_certificate.specs.Certificate.{Contains}
use Rattle.cs_model.specs.Models.{interpretation}
use Rattle.cs_model.specs.declared.tables.Entry.{Entry}
use Rattle.cs_classes.specs.Elements.{Assignment, element_of}
use Rattle.cs_classes.specs.Agreement.{IsWhole, HasNoNumber, Agrees}
use Rattle.cs_classes.specs.Models.{GivesCalls, interpretation_of, Tabulates}

-- where calls have their elements as values, all terms have
abbrev pub ValuesAreElements : Type 0
ValuesAreElements = (all : List Term) (s : Assignment) (i : Interpretation) → IsWhole all → HasNoNumber all → Agrees all s → GivesCalls all s i → (t : Term) → Contains all t → value i t ≡ element_of s t

-- so they have in the interpretation by the elements of calls
abbrev pub ClassesMakeValues : Type 0
ClassesMakeValues = (all : List Term) (s : Assignment) → IsWhole all → HasNoNumber all → Agrees all s → (t : Term) → Contains all t → value (interpretation_of all s) t ≡ element_of s t

-- well-sorted assertions, with numbered terms that aren't numbers, to which true is assigned
pub record IsAssigned (assertions : List Term) (s : Assignment) : Type 0 where
  pub sorted : Each (λ t. HasSort t BoolSort) assertions
  pub no_number : HasNoNumber (numbered assertions)
  pub agrees : Agrees (numbered assertions) s
  pub asserted : Each (λ t. s.truth t ≡ true) assertions

-- they are true in that interpretation
abbrev pub ClassesMakeModels : Type 0
ClassesMakeModels = (assertions : List Term) (s : Assignment) → IsAssigned assertions s → AllTrue (interpretation_of (numbered assertions) s) assertions

-- and in that of tables with an entry of each call
abbrev pub TablesMakeModels : Type 0
TablesMakeModels = (assertions : List Term) (s : Assignment) (entries : List Entry) → IsAssigned assertions s → Tabulates (numbered assertions) s entries → AllTrue (interpretation entries) assertions

-- such assertions are satisfiable exactly where there is such an assignment
abbrev pub AssignedExactly : Type 0
AssignedExactly = (assertions : List Term) → Each (λ t. HasSort t BoolSort) assertions → HasNoNumber (numbered assertions) → IsSatisfiable assertions ↔ ((s : Assignment) × IsAssigned assertions s)
