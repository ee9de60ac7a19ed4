-- The laws.
use Rattle.std.proofs.Common.{◌≡◌, suc, true, List, [], ◌∷◌, refl, ◌∙◌, ap}
use Rattle.vx_terms.specs.Sorts.{BoolSort}
use Rattle.vx_terms.specs.Terms.{Term}
use Rattle.vx_terms.specs.Interpretations.{Interpretation, Each, AllTrue, as_bool}
use Rattle.vx_terms.proofs.Values.{sort_of_formed}
use Rattle.cs_certificate.specs.Terms.{HasSort, numbered}
use Rattle.cs_certificate.specs.Certificate.{Contains}
use Rattle.cs_numbers.specs.Laws.{IsSorted}
use Rattle.cs_classes.specs.Elements.{Assignment, element_at}
use Rattle.cs_classes.specs.Models.{GivesCalls, interpretation_of}
use Rattle.cs_classes.specs.Laws.{ValuesAreElements, ClassesMakeValues, IsAssigned, ClassesMakeModels, TablesMakeModels, AssignedExactly}
use Rattle.cs_classes.proofs.Values.{values_are_elements}
use Rattle.cs_classes.proofs.Calls.{calls_given, entries_given}
use Rattle.cs_classes.proofs.Models.{assigned, agrees}
use Rattle.cs_classes.proofs.Numbered.{whole, assertion_numbered}

pub values : ValuesAreElements
values all s i w plain agrees calls t c = values_are_elements all s i w plain agrees calls t c

pub classes : ClassesMakeValues
classes all s w plain agrees t c = values_are_elements all s (interpretation_of all s) w plain agrees (calls_given all s agrees) t c

all_sorted : (ts : List Term) → Each (λ t. HasSort t BoolSort) ts → Each IsSorted ts
all_sorted [] h = tt
all_sorted (t ∷ ts) h = ((BoolSort, h.0), all_sorted ts h.1)

-- assertions are true where terms have their elements as values
assertions_true : (assertions : List Term) (s : Assignment) (i : Interpretation) → IsAssigned assertions s → GivesCalls (numbered assertions) s i → AllTrue i assertions
assertions_true assertions s i h calls = each assertions h.sorted h.asserted (λ t c. c)
  where
    each : (ts : List Term) → Each (λ t. HasSort t BoolSort) ts → Each (λ t. s.truth t ≡ true) ts → ((t : Term) → Contains ts t → Contains assertions t) → AllTrue i ts
    each [] sorts truths within = tt
    each (t ∷ ts) sorts truths within =
        let value_is = values_are_elements (numbered assertions) s i (whole assertions (all_sorted assertions h.sorted)) h.no_number h.agrees calls t (assertion_numbered assertions t (within t (0, refl))) in
        (ap as_bool (value_is ∙ ap (λ a. element_at s a t) (sort_of_formed (sorts.0).1)) ∙ truths.0, each ts sorts.1 truths.1 (λ u m. within u (suc m.0, m.1)))

pub models : ClassesMakeModels
models assertions s h = assertions_true assertions s (interpretation_of (numbered assertions) s) h (calls_given (numbered assertions) s h.agrees)

pub tables : TablesMakeModels
tables assertions s entries h made = assertions_true assertions s _ h (entries_given (numbered assertions) s entries h.agrees made)

pub exactly : AssignedExactly
exactly assertions sorted plain = (
  λ h. (
    assigned h.0 (numbered assertions),
    record {
      sorted = sorted;
      no_number = plain;
      agrees = agrees (numbered assertions) h.0 (whole assertions (all_sorted assertions sorted)) plain;
      asserted = h.1;
    },
  ),
  λ h. (interpretation_of (numbered assertions) h.0, models assertions h.0 h.1),
)
