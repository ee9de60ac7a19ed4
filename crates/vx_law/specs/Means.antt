-- What the symbol of a function means: at the asking tree of its precondition and at its arguments it has the function's value, where the
-- function can be applied.
use Rattle.std.specs.Prelude.{◌≡◌, ℕ, true, List, [], ◌∷◌, ◌++◌, Some, Ok}
use Rattle.vx_ast.specs.Syntax.{Name, result_name, Program, Function, function_named, conjoined}
use Rattle.vx_frac.specs.Fractions.{full, lowest}
use Rattle.vx_terms.specs.Interpretations.{Element, IntElement, BoolElement, RealElement, TreeElement, Tree, RefLeaf}
use Rattle.vx_meaning.specs.Values.{Value, IntValue, BoolValue, RefValue, PermValue}
use Rattle.vx_meaning.specs.States.{State, Heap, HaveTypes, bind, with_store}
use Rattle.vx_meaning.specs.Flatten.{bare}
use Rattle.vx_meaning.specs.Fits.{fit, add}
use Rattle.vx_meaning.specs.Consistent.{IsConsistent}
use Rattle.vx_rules.specs.Groups.{function_number}
use Rattle.vx_types.specs.Closure.{InClosure}
use Rattle.vx_sound_preds.specs.Covered.{IsStocked}
use Rattle.vx_sound_preds.specs.Asking.{IsAskingTreeOf}
use Rattle.vx_sound_funcs.specs.Told.{precondition_of}
use Rattle.vx_sound_funcs.specs.Firm.{firm_application, firmly}

-- the element of a value: a Perm's is its Real in lowest terms
abbrev pub element_of : Value → Element
element_of (IntValue z) = IntElement z
element_of (BoolValue b) = BoolElement b
element_of (RefValue r) = TreeElement (RefLeaf r)
element_of (PermValue a) = RealElement (lowest a)

abbrev pub elements_of : List Value → List Element
elements_of [] = []
elements_of (v ∷ vs) = element_of v ∷ elements_of vs

-- an application that is allowed firmly, in a state that can be, of a function that x leads to
pub record IsApplied (p : Program) (x f : Name) (g : Function) (vs : List Value) (s : State) (t : Tree) (v : Value) : Type 0 where
  pub leads : InClosure p x f
  pub named : function_named p f ≡ Some g
  pub types : HaveTypes g.parameters vs
  pub consistent : IsConsistent p s
  pub stocked : IsStocked p x s.holdings
  pub tree : IsAskingTreeOf p (with_store (bind g.parameters vs) s) (precondition_of g) t
  pub fuel : ℕ
  pub value : firm_application p (firmly p fuel) f vs s ≡ Some v

-- the function with the number k has the element e at these
pub record Means (p : Program) (x : Name) (k : ℕ) (es : List Element) (e : Element) : Type 0 where
  pub name : Name
  pub function : Function
  pub arguments : List Value
  pub state : State
  pub tree : Tree
  pub result : Value
  pub number : function_number p name ≡ k
  pub applied : IsApplied p x name function arguments state tree result
  pub takes : TreeElement tree ∷ elements_of arguments ≡ es
  pub gives : element_of result ≡ e

-- the postcondition fits firmly and is true, where just the precondition is held and `result` is the value
pub record Promise (p : Program) (g : Function) (vs : List Value) (v : Value) (h : Heap) : Type 0 where
  pub fuel : ℕ
  pub state : State
  pub adds : add p (firmly p fuel) full (precondition_of g) (bare (bind g.parameters vs ++ (result_name, v) ∷ []) h) ≡ Ok state
  pub fits : fit p (firmly p fuel) state (conjoined g.place g.ensures) ≡ Ok (BoolValue true)

-- each application of what x leads to that is allowed firmly keeps its promise
abbrev pub PromisesKept : Program → Name → Type 0
PromisesKept p x = (f : Name) (g : Function) (vs : List Value) (s : State) (t : Tree) (v : Value) → IsApplied p x f g vs s t v → Promise p g vs v s.heap

-- A symbol means one element.
abbrev pub SymbolsMeanOne : Program → Name → Type 0
SymbolsMeanOne p x = (k : ℕ) (es : List Element) (d e : Element) → Means p x k es d → Means p x k es e → d ≡ e
