-- What fits firmly: where a function is applied, its body fits too, with just its precondition held, and its postcondition holds there;
-- and so it is with what these apply.
use Rattle.std.specs.Prelude.{◌≡◌, ℕ, zero, suc, true, List, Option, Some, None, Ok}
use Rattle.vx_frac.specs.Fractions.{full, is_positive}
use Rattle.vx_ast.specs.Syntax.{Name, Program, Function, function_named, conjoined, Expr, Assertion}
use Rattle.vx_types.specs.Now.{IsOfNow}
use Rattle.vx_meaning.specs.Values.{Value, is_true}
use Rattle.vx_meaning.specs.States.{State, Heap, Instance, Folded, amount, bind, with_store}
use Rattle.vx_meaning.specs.Flatten.{bare, IsGrounded}
use Rattle.vx_meaning.specs.Fits.{Checked, ◌>>=◌, guard, to_option, Deeper, fit, take, add, exchange}
use Rattle.vx_meaning.specs.Fails.{with_result}
use Rattle.vx_sound_preds.specs.Bodies.{Rigid}
use Rattle.vx_sound_funcs.specs.Told.{precondition_of}
use Rattle.vx_sound_preds.specs.Asking.{Says, HasRigidArguments, IsAsking}

-- where a function starts: its precondition is given to what holds nothing
abbrev pub start_of : Program → Deeper → Function → List Value → Heap → Checked State
start_of p d g vs h = add p d full (precondition_of g) (bare (bind g.parameters vs) h)

-- a value whose promise is kept: with it as `result` the postcondition fits and is true
abbrev pub promised : Program → Deeper → Function → State → Value → Checked Value
promised p d g u v = fit p d (with_result v u) (conjoined g.place g.ensures) >>= λ w. guard g.place (is_true w) >>= λ _. Ok v

-- the precondition can be taken, and where the function starts its body fits and its promise is kept
abbrev pub firm_value : Program → Deeper → Function → List Value → State → Checked Value
firm_value p d g vs s =
    take p d (with_store (bind g.parameters vs) s) full (precondition_of g) s.holdings >>= λ _. start_of p d g vs s.heap >>= λ u. fit p d u g.body >>= λ v. promised p d g u v

-- an application that is allowed firmly, with its value: its precondition can be taken, its body fits, and its promise is kept
abbrev pub firm_application : Program → Deeper → Name → List Value → State → Option Value
firm_application p d f vs s = value_of (function_named p f) where
  value_of : Option Function → Option Value
  value_of None = None
  value_of (Some g) = to_option (firm_value p d g vs s)

abbrev pub firmly : Program → ℕ → Deeper
firmly p zero = record { applied = λ f vs s. None; opened = λ i q s. None }
firmly p (suc n) = record { applied = firm_application p (firmly p n); opened = exchange p (firmly p n) }

-- e fits firmly, with the value v
abbrev pub FitsFirmly : Program → State → Expr → Value → Type 0
FitsFirmly p s e v = (n : ℕ) × (fit p (firmly p n) s e ≡ Ok v)

-- what is asked of functions: no `old`, in postconditions either, and arguments that are no amounts; their preconditions may apply functions
pub record GoodFunctions (p : Program) : Type 0 where
  pub asks : (f : Name) (g : Function) → function_named p f ≡ Some g → IsAsking p (precondition_of g)
  pub says : (f : Name) (g : Function) → function_named p f ≡ Some g → Says (HasRigidArguments p) g.body
  pub promises_now : (f : Name) (g : Function) → function_named p f ≡ Some g → IsOfNow (conjoined g.place g.ensures)

-- s holds just what a gives firmly, added to nothing; the instances that are held are good
pub record HoldsFirmly (p : Program) (Good : Heap → Instance → Type 0) (a : Assertion) (s : State) : Type 0 where
  pub given : (n : ℕ) × (t : State) × (add p (firmly p n) full a (bare s.store s.heap) ≡ Ok t) × (t.holdings ≡ s.holdings)
  pub rigid : Rigid s
  pub good : (i : Instance) → is_positive (amount s.holdings (Folded i)) ≡ true → Good s.heap i × IsGrounded p s.heap i
