-- What the walks of functions show: where a function starts its body fits firmly, and its promise is kept.
use Rattle.std.specs.Prelude.{◌≡◌, true, List, Some}
use Rattle.vx_ast.specs.Syntax.{Name, Program, Function, IsFunction, function_named, conjoined}
use Rattle.vx_smt_meaning.specs.declared.reply.Reply.{Reply}
use Rattle.vx_meaning.specs.Values.{Value, BoolValue}
use Rattle.vx_meaning.specs.States.{State, Heap, bind}
use Rattle.vx_meaning.specs.Fails.{FunctionStarts, with_result}
use Rattle.vx_types.specs.Closure.{InClosure}
use Rattle.vx_sound.specs.Law.{Passes}
use Rattle.vx_sound_funcs.specs.Firm.{FitsFirmly}

-- of the functions that x leads to: the walk of each over its replies passed, and its unsat replies are right
abbrev pub FunctionsPass : Program → Name → (Name → List Reply) → Type 0
FunctionsPass p x replies = (f : Name) (g : Function) → InClosure p x f → function_named p f ≡ Some g → Passes p f (IsFunction g) (replies f)

-- where g starts in s its body fits firmly, with a value with which the postcondition fits firmly and is true
pub record Keeps (p : Program) (g : Function) (s : State) : Type 0 where
  pub value : Value
  pub fits : FitsFirmly p s g.body value
  pub promise : FitsFirmly p (with_result value s) (conjoined g.place g.ensures) (BoolValue true)

-- so it is with the functions that x leads to, wherever they start
abbrev pub FunctionsKeep : Program → Name → Type 0
FunctionsKeep p x = (f : Name) (g : Function) → InClosure p x f → function_named p f ≡ Some g → (s : State) → FunctionStarts p g s → Keeps p g s

-- so it is with one application: of f, at these arguments and in this heap
abbrev pub KeepsAt : Program → Name → Function → List Value → Heap → Type 0
KeepsAt p f g vs h = function_named p f ≡ Some g → (s : State) → FunctionStarts p g s → s.store ≡ bind g.parameters vs → s.heap ≡ h → Keeps p g s
