-- Where the precondition of a function can be taken, the function starts; and the application is allowed firmly, if it keeps its promise.
use Rattle.std.specs.Prelude.{◌≡◌, ℕ, List, Some}
use Rattle.vx_frac.specs.Fractions.{full}
use Rattle.vx_ast.specs.Syntax.{Name, Program, Function, function_named}
use Rattle.vx_meaning.specs.Values.{Value}
use Rattle.vx_meaning.specs.States.{State, Heap, Holdings, HaveTypes, bind, with_store}
use Rattle.vx_meaning.specs.Consistent.{IsConsistent}
use Rattle.vx_meaning.specs.Fits.{Eventually, Takes, deeper}
use Rattle.vx_meaning.specs.Fails.{FunctionStarts}
use Rattle.vx_meaning.specs.Group.{Reaches}
use Rattle.vx_types.specs.Closure.{InClosure}
use Rattle.vx_sound_preds.specs.Covered.{IsStocked}
use Rattle.vx_sound_funcs.specs.Told.{precondition_of}
use Rattle.vx_sound_funcs.specs.Firm.{firm_application, firmly}
use Rattle.vx_law.specs.Walks.{Keeps, KeepsAt}

-- g starts with these arguments in this heap
pub record StartsAt (p : Program) (g : Function) (vs : List Value) (h : Heap) : Type 0 where
  pub state : State
  pub starts : FunctionStarts p g state
  pub store : state.store ≡ bind g.parameters vs
  pub heap : state.heap ≡ h

-- f may be applied to these in c, firmly and as the meaning has it, with one value
pub record IsAllowed (p : Program) (f : Name) (vs : List Value) (c : State) : Type 0 where
  pub fuel : ℕ
  pub value : Value
  pub firm : firm_application p (firmly p fuel) f vs c ≡ Some value
  pub applied : Eventually (λ n. (deeper p n).applied f vs c ≡ Some value)

-- Of a function, in a state that can be: where its precondition can be taken at these arguments it starts there, and if it keeps its
-- promise there the application is allowed.
abbrev pub IsAllowedWhereTaken : Program → Name → Name → Function → Type 0
IsAllowedWhereTaken p x f g =
    (vs : List Value) → HaveTypes g.parameters vs → (c : State) → IsConsistent p c → IsStocked p x c.holdings →
    (rest : Holdings) → Takes p (with_store (bind g.parameters vs) c) (precondition_of g) full rest → StartsAt p g vs c.heap × (KeepsAt p f g vs c.heap → IsAllowed p f vs c)

-- All functions that f reaches and that don't lead back keep their promises: so does all that its precondition applies.
abbrev pub LowerKeep : Program → Name → Name → Type 0
LowerKeep p x f =
    (f' : Name) (g' : Function) → InClosure p x f' → function_named p f' ≡ Some g' → Reaches p f f' → (Reaches p f' f → ⊥) → (s : State) → FunctionStarts p g' s → Keeps p g' s

-- So it is with each function that x leads to, if those of lower groups keep their promises.
abbrev pub TakenIsAllowed : Program → Name → Type 0
TakenIsAllowed p x = (f : Name) (g : Function) → InClosure p x f → function_named p f ≡ Some g → LowerKeep p x f → IsAllowedWhereTaken p x f g
