-- From an application to those below it, in one heap: to functions that it leads to and that don't lead back, and within its group to
-- those with a lesser measure. This ends, so what holds of an application where it holds of all below it holds of all.
use Rattle.std.specs.Prelude.{◌≡◌, true, List, Some}
use Rattle.vx_ast.specs.Syntax.{Name, Program, Function, Measure, function_named}
use Rattle.vx_ast.specs.Apart.{Stands, entered_by}
use Rattle.vx_meaning.specs.Values.{Value}
use Rattle.vx_meaning.specs.States.{Heap, HaveTypes}
use Rattle.vx_meaning.specs.Fails.{LowersMeasure}
use Rattle.vx_meaning.specs.Group.{Reaches, InGroup}
use Rattle.vx_rules.specs.Groups.{is_in_group}
use Rattle.vx_sound_funcs.specs.Told.{precondition_of}
use Rattle.vx_law.specs.Allowed.{StartsAt}

-- f' has a lesser measure at vs' than f has at vs, where it starts in this heap
pub record IsLesser (p : Program) (h : Heap) (f : Name) (vs : List Value) (f' : Name) (vs' : List Value) : Type 0 where
  pub caller : Function
  pub named : function_named p f ≡ Some caller
  pub start : StartsAt p caller vs h
  pub measure : Measure
  pub has_measure : caller.decreases ≡ Some measure
  pub lowers : LowersMeasure p measure start.state f' vs'

-- the application of f' to vs' is below that of f to vs
pub data IsBelow (p : Program) (h : Heap) (f : Name) (vs : List Value) (f' : Name) (vs' : List Value) : Type 0 where
  lower_group : Reaches p f f' → (Reaches p f' f → ⊥) → IsBelow p h f vs f' vs'
  lesser_measure : InGroup p f f' → IsLesser p h f vs f' vs' → IsBelow p h f vs f' vs'

-- what is said of applications in a heap
abbrev pub Claim : Type 1
Claim = Name → Function → List Value → Type 0

-- it holds of an application where it holds of all below it
abbrev pub HoldsFromBelow : Program → Heap → Claim → Type 0
HoldsFromBelow p h C =
    (f : Name) (g : Function) (vs : List Value) → function_named p f ≡ Some g → HaveTypes g.parameters vs →
    ((f' : Name) (g' : Function) (vs' : List Value) → function_named p f' ≡ Some g' → HaveTypes g'.parameters vs' → IsBelow p h f vs f' vs' → C f' g' vs') → C f g vs

-- then it holds of all
abbrev pub HoldsOfAll : Program → Claim → Type 0
HoldsOfAll p C = (f : Name) (g : Function) (vs : List Value) → function_named p f ≡ Some g → HaveTypes g.parameters vs → C f g vs

-- by induction over groups, and in a group over the measure
abbrev pub MeasuresInduce : Program → Type 1
MeasuresInduce p = (h : Heap) (C : Claim) → HoldsFromBelow p h C → HoldsOfAll p C

-- from an application no way down goes on for ever
pub data GoesDown (p : Program) (h : Heap) : Name → List Value → Type 0 where
  ends : (f : Name) (vs : List Value) →
      ((f' : Name) (g' : Function) (vs' : List Value) → function_named p f' ≡ Some g' → HaveTypes g'.parameters vs' → IsBelow p h f vs f' vs' → GoesDown p h f' vs') → GoesDown p h f vs

abbrev pub MeasuresEnd : Program → Type 0
MeasuresEnd p = (h : Heap) → HoldsOfAll p (λ f g vs. GoesDown p h f vs)

-- the groups that the rules decide are these groups
abbrev pub GroupsAgree : Program → Type 0
GroupsAgree p = (f g : Name) → (is_in_group p f g ≡ true → InGroup p f g) × (InGroup p f g → is_in_group p f g ≡ true)

-- What a precondition applies is below its function, in every heap and whatever the arguments: it is of a lower group.
abbrev pub PreconditionsAskBelow : Program → Type 0
PreconditionsAskBelow p =
    (f : Name) (g : Function) (f' : Name) → function_named p f ≡ Some g → Stands f' (entered_by (precondition_of g)) → (h : Heap) (vs vs' : List Value) → IsBelow p h f vs f' vs'
