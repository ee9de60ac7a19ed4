-- Where a function starts: what is held there can be, and its variables have values of their types.
use Rattle.std.proofs.Common.{◌≡◌, true, List, [], Some, sym, ◌∙◌, ap, subst}
use Rattle.vx_ast.specs.Syntax.{Name, Program, Function, function_named}
use Rattle.vx_types.specs.Premises.{IsTypedProgram}
use Rattle.vx_types.specs.Closure.{InClosure}
use Rattle.vx_meaning.specs.Values.{Value}
use Rattle.vx_meaning.specs.States as run
use Rattle.vx_meaning.specs.States.{State, bind, from_now}
use Rattle.vx_meaning.specs.Fails.{FunctionStarts}
use Rattle.vx_elements.proofs.Scopes.{joined_typed}
use Rattle.vx_sound_preds.proofs.Asked.{speaks_for}
use Rattle.vx_sound_preds.proofs.Given.{gave}
use Rattle.vx_sound_preds.proofs.Speaking.{good, no_perm}
use Rattle.vx_sound_preds.proofs.Holding.{HoldsInstances, nothing}
use Rattle.vx_sound_preds.proofs.FunctionWalks.{own_asks}
use Rattle.vx_sound_funcs.specs.Told.{precondition_of}
use Rattle.vx_sound_funcs.specs.Firm.{GoodFunctions}

-- where a function starts
pub record StartKnown (p : Program) (x : Name) (g : Function) (s : State) : Type 0 where
  pub arguments : List Value
  pub types : run.HaveTypes g.parameters arguments
  pub store : s.store ≡ bind g.parameters arguments
  pub holds : HoldsInstances p (InClosure p x) true s.heap s.holdings

pub start_known : (p : Program) (x : Name) → IsTypedProgram p → GoodFunctions p → (f : Name) (g : Function) → InClosure p x f → function_named p f ≡ Some g → (s : State) → FunctionStarts p g s → StartKnown p x g s
start_known p x typed functions f g leads named s (vs, types, (h, t, gives, is)) =
    let tf = typed.functions f g named in
    let asks = functions.asks f g named in
    let k = gave p (good p x typed) typed.functions (InClosure p x) (no_perm p x typed) g.parameters vs types tf.parameters h (precondition_of g) [] t (joined_typed p g.parameters g.place g.requires tf.requires) asks
    (speaks_for (InClosure p x) (InClosure p x) (precondition_of g) (own_asks p x typed f g leads named asks)) (nothing p (good p x typed) (InClosure p x) true h) gives in
    let end = is ∙ ap from_now k.is in
    record {
      arguments = vs;
      types = types;
      store = ap (λ (s : State). s.store) end;
      holds = subst (λ (s : State). HoldsInstances p (InClosure p x) true s.heap s.holdings) (sym end) k.holds;
    }
