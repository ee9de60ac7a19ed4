-- What is still to be done of statements.
use Rattle.std.specs.Prelude.{ℕ, ◌-◌, [], ◌∷◌, ◌++◌, List, Option, Some, None, string_bytes}
use Rattle.vx_ast.specs.declared.Place.{Place}
use Rattle.vx_ast.specs.declared.ValueType.{ValueType}
use Rattle.vx_ast.specs.Syntax.{Name, Program, Method, method_named, Expr, Exprs, Assertion, Stmt, Block}
use Rattle.vx_frac.specs.Fraction.{fraction}
use Rattle.vx_frac.specs.Fractions.{Fraction, full, at_most}
use Rattle.vx_meaning.specs.Values.{Value, RefValue, is_true}
use Rattle.vx_meaning.specs.States.{State, Store, Heap, Holdings, Location, Instance, Resource, At, Folded, assign, assign_all, bind, amount, gained, field_type, with_store, with_heap, with_holdings, declare, leave}
use Rattle.vx_meaning.specs.Fits.{location_of, has_instance}
use Rattle.vx_meaning.specs.Fails.{postcondition_of}
use Rattle.vx_meaning.specs.Around.{Around}
use Rattle.vx_resolved.specs.Resolved.{expr, exprs, block, method, names_of}
use Rattle.vx_run.specs.Draws.{by_draws}
use Rattle.vx_run.specs.Going.{Going, ◌>>=◌, gives, when, require, expect, failing_as, chosen, Stopped, Failed}
use Rattle.vx_run.specs.Widths.{within_128_bits, more, less}
use Rattle.vx_run.specs.Evaluated.{Permitted, take}
use Rattle.vx_run.specs.Given.{give, give_again}
use Rattle.vx_run.specs.Whole as whole
use Rattle.vx_run.specs.Whole.{Bodies, bodies, gone, values_of}
use Rattle.vx_run.specs.Fresh.{fresh}
use Rattle.vx_run.specs.Configs.{Setting, Config, Caller, around, newest_of, in_state, resumed, with_callers, with_one, with_two, with_list, with_taking, put_value, put_list, put_state, put_taking}
use Rattle.vx_run.specs.Pending as pending
use Rattle.vx_run.specs.Pending.{share_of, deeper_by}
use Rattle.vx_run.specs.declared.blame.Blame.TheVariants as blame'
use Rattle.vx_run.specs.declared.context.Within.{Within}
use Rattle.vx_run.specs.declared.task.Task.{Task}
use Rattle.vx_run.specs.declared.task.Task.TheVariants as task'

-- what comes to a state
abbrev pub put : Config → Going ℕ State → Going ℕ Config
put c m = m >>= λ s. gives (in_state s c)

abbrev pub with_caller : Config → (Caller → Config → Going ℕ Config) → Going ℕ Config
with_caller c f = newest_of c.callers (λ w ws. f w (with_callers ws c))

abbrev pub left : ℕ → Config → Going ℕ Config
left kept c = gives (in_state (leave kept c.state) c)

abbrev pub assigned : Name → Config → Going ℕ Config
assigned x c = with_one c (λ v d. gives (in_state (with_store (assign x v d.state.store) d.state) d))

-- a value is written to a field of a reference
abbrev pub written_at : Place → Location → Value → State → Going ℕ State
written_at at l v s = require (at_most full (amount s.holdings (At l))) (Failed at) >>= λ _. gives (with_heap ((l, v) ∷ s.heap) s)

abbrev pub written : Place → Name → Value → Value → State → Going ℕ State
written at f r v s = expect (location_of f r) (Failed at) >>= λ l. written_at at l v s

abbrev pub wrote : Place → Name → Config → Going ℕ Config
wrote at f c = with_two c (λ r v d. put d (written at f r v d.state))

abbrev pub assumed : Place → Config → Going ℕ Config
assumed at c = with_one c (λ v d. require (is_true v) (Stopped at) >>= λ _. gives d)

-- an instance is held, whose body was taken, beside what is left
abbrev pub held_with : Place → Instance → Fraction → Holdings → State → Going ℕ State
held_with at i q h s = more within_128_bits at (Folded i) q h >>= λ h'. gives (with_holdings h' s)

abbrev pub held_again : Place → Name → Fraction → Config → Going ℕ Config
held_again at i q c = with_list c (λ vs d. with_taking d (λ h e. put e (held_with at (record { predicate = i; arguments = vs }) q h e.state)))

-- Calls

-- a caller waits with what it holds, and these are the arguments and the variables
abbrev pub waiting : Store → List Value → Config → Config
waiting x vs c = record c { lists = vs ∷ c.lists; state = with_store x c.state; callers = record { state = c.state; left = c.state.holdings } ∷ c.callers }

abbrev pub contract_store : Method → List Value → List Value → Store
contract_store m vs ws = bind m.parameters vs ++ bind m.returns ws

-- where the postcondition is given
abbrev pub given_in : State → Method → List Value → List Value → Holdings → Heap → State
given_in s m vs ws h heap = record { store = contract_store m vs ws; heap = heap; holdings = h; old_heap = s.heap; old_holdings = s.holdings }

-- where the callee's body begins
abbrev pub entered_in : State → Method → List Value → List Value → Holdings → State
entered_in s m vs ws h = record { store = contract_store m vs ws; heap = s.heap; holdings = gone s.holdings h; old_heap = s.heap; old_holdings = gone s.holdings h }

-- the targets have these values
abbrev pub answered : List Name → List Value → State → State
answered xs ws s = with_store (assign_all xs ws s.store) s

abbrev pub resuming : State → Config → Going ℕ Config
resuming s c = gives (in_state (resumed s c.state) c)

-- New variables and references

abbrev pub declared : Name → ValueType → Config → Going ℕ Config
declared x of c = put c (chosen by_draws of >>= λ v. gives (declare x v c.state))

abbrev pub with_field : ℕ → Name → Value → State → State
with_field r f v s =
    record s { heap = (record { receiver = r; field = f }, v) ∷ s.heap; holdings = gained (At record { receiver = r; field = f }) full s.holdings }

abbrev pub one_field : Program → ℕ → Name → State → Going ℕ State
one_field p r f s = chosen by_draws (field_type p f) >>= λ v. gives (with_field r f v s)

abbrev pub new_fields : Program → ℕ → List Name → State → Going ℕ State
new_fields p r [] s = gives s
new_fields p r (f ∷ fs) s = one_field p r f s >>= new_fields p r fs

abbrev pub made : Program → Name → List Name → Config → Going ℕ Config
made p x fs c =
    let r = fresh (around c.callers) c.state in put c (new_fields p r fs (with_store (assign x (RefValue r) c.state.store) c.state))

module _ (t : Setting) where
  -- bodies within so many calls
  abbrev pub bodies_by : ℕ → Bodies ℕ
  bodies_by n = bodies t.program by_draws within_128_bits t.steps n

  -- within n calls, where these wait
  module _ (n : ℕ) (a : Around) where
    abbrev pub run : Stmt → State → Going ℕ State
    run x s = whole.run t.program by_draws within_128_bits t.steps n (bodies_by (n - 1)) a x s

    abbrev pub scoped : Block → State → Going ℕ State
    scoped b s = whole.scoped t.program by_draws within_128_bits t.steps n (bodies_by (n - 1)) a (bodies_by n a b) s

    abbrev pub again : ℕ → Expr → Block → State → Going ℕ State
    again k e b s = whole.again t.program by_draws within_128_bits t.steps n (bodies_by (n - 1)) a k e (scoped b) s

    abbrev pub round : ℕ → Expr → Block → Value → State → Going ℕ State
    round k e b v s = when (is_true v) (scoped b s >>= again k e b) (gives s)

    abbrev pub called : Place → State → List Name → Method → List Value → Going ℕ State
    called at s xs m vs = whole.called t.program by_draws within_128_bits t.steps n (bodies_by (n - 1)) a at s xs m vs

    -- by its body where there is one
    abbrev pub run_by : Option Block → Place → State → List Name → Method → List Value → Holdings → Going ℕ State
    run_by None at s xs m vs h = whole.by_contract t.program by_draws within_128_bits t.steps n (bodies_by (n - 1)) a at s xs m vs h
    run_by (Some b) at s xs m vs h = whole.by_body t.program by_draws within_128_bits t.steps n (bodies_by (n - 1)) a at s xs m vs h b

    -- behind a body's postcondition, with these returns
    abbrev pub back_in : Place → Caller → List Name → Method → List Value → List Value → State → Going ℕ State
    back_in at w xs m vs us s =
        whole.back_in t.program by_draws within_128_bits t.steps n (bodies_by (n - 1)) a at w.state xs m vs w.left s.heap us
        (whole.given_again t.program by_draws within_128_bits t.steps n (bodies_by (n - 1)) a full)

    abbrev pub fold_it : Place → State → Instance × Fraction → Going ℕ State
    fold_it at s x = whole.fold_it t.program by_draws within_128_bits t.steps n (bodies_by (n - 1)) a at s x

    abbrev pub unfold_it : Place → State → Instance × Fraction → Going ℕ State
    unfold_it at s x = whole.unfold_it t.program by_draws within_128_bits t.steps n (bodies_by (n - 1)) a at s x

  -- an instance of so much as a value says, with these arguments
  abbrev pub instance_of : ℕ → Place → Name → Exprs → Value → State → Going ℕ (Instance × Fraction)
  instance_of n at i es v s = share_of at v >>= λ q. pending.evaluate_all t n Permitted s es >>= λ vs. gives (record { predicate = i; arguments = vs }, q)

  abbrev pub evaluated : ℕ → Expr → Config → Going ℕ Config
  evaluated n e c = put_value blame'.Itself c (pending.evaluate t n Permitted c.state e)

  abbrev pub evaluated_all : ℕ → Exprs → Config → Going ℕ Config
  evaluated_all n es c = put_list blame'.Itself c (pending.evaluate_all t n Permitted c.state es)

  abbrev pub take_of : ℕ → Fraction → Assertion → State → Going ℕ Holdings
  take_of n q x s = take t.program within_128_bits (deeper_by t n) s q x s.holdings

  abbrev pub give_of : ℕ → List Caller → Fraction → Assertion → State → Going ℕ State
  give_of n cs q x s = give t.program by_draws within_128_bits (deeper_by t n) t.steps (around cs) n q x s

  abbrev pub give_again_of : ℕ → List Caller → Fraction → Assertion → State → Going ℕ State
  give_again_of n cs q x s = give_again t.program by_draws within_128_bits (deeper_by t n) t.steps (around cs) q x s

  -- within something so much of an assertion is taken or given
  abbrev pub taking : Within → Fraction → Assertion → Config → Going ℕ Config
  taking k q x c = put_taking k.blame c (take_of k.level q x c.state)

  abbrev pub giving : Within → Fraction → Assertion → Config → Going ℕ Config
  giving k q x c = put_state k.blame c (give_of k.level c.callers q x c.state)

  abbrev pub giving_again : Within → Fraction → Assertion → Config → Going ℕ Config
  giving_again k q x c = put_state k.blame c (give_again_of k.level c.callers q x c.state)

  abbrev pub begun : ℕ → Stmt → Config → Going ℕ Config
  begun n x c = put c (run n (around c.callers) x c.state)

  abbrev pub body : ℕ → Block → Config → Going ℕ Config
  body n b c = put c (bodies_by n (around c.callers) b c.state)

  abbrev pub branch : ℕ → Block → Block → Value → Config → Going ℕ Config
  branch n x y v c = put c (when (is_true v) (scoped n (around c.callers) x c.state) (scoped n (around c.callers) y c.state))

  abbrev pub branched : ℕ → Block → Block → Config → Going ℕ Config
  branched n x y c = with_one c (branch n x y)

  abbrev pub looped : ℕ → ℕ → Expr → Block → Config → Going ℕ Config
  looped n k e b c = put c (again n (around c.callers) k e b c.state)

  abbrev pub one_round : ℕ → ℕ → Expr → Block → Value → Config → Going ℕ Config
  one_round n k e b v c = put c (round n (around c.callers) k e b v c.state)

  abbrev pub rounded : ℕ → ℕ → Expr → Block → Config → Going ℕ Config
  rounded n k e b c = with_one c (one_round n k e b)

  abbrev pub called_by : ℕ → Place → List Name → Method → List Value → Config → Going ℕ Config
  called_by n at xs m vs c = put c (called n (around c.callers) at c.state xs m vs)

  abbrev pub calling : ℕ → Place → List Name → Name → Config → Going ℕ Config
  calling n at xs m c = with_list c (λ vs d. expect (method_named t.program m) (Failed at) >>= λ f. called_by n at xs f vs d)

  -- the caller is the newest that waits, and what remains of the precondition's taking is left to it
  abbrev pub entering : ℕ → Place → List Name → Method → Config → Going ℕ Config
  entering n at xs m c = with_list c (λ vs d. with_taking d (λ h e. with_caller e (λ w f. put f (run_by n (around f.callers) m.body at w.state xs m vs h))))

  -- a body's end: the postcondition is taken, and held again
  abbrev pub ending : ℕ → Method → Config → Going ℕ Config
  ending n m c = taking (record { level = n; blame = blame'.Itself }) full (postcondition_of m) c >>= λ d. with_taking d (λ h e. gives e)

  abbrev pub answering : ℕ → Place → Caller → List Name → Method → List Value → List Value → Config → Going ℕ Config
  answering n at w xs m vs us c = put c (back_in n (around c.callers) at w xs m vs us c.state)

  abbrev pub returning : ℕ → Place → List Name → Method → Config → Going ℕ Config
  returning n at xs m c =
      with_list c (λ vs d. with_caller d (λ w e. expect (values_of m.returns e.state.store) (Failed at) >>= λ us. answering n at w xs m vs us e))

  abbrev pub to_fold : ℕ → Place → Name → Exprs → Config → Going ℕ Config
  to_fold n at i es c = with_one c (λ v d. put d (instance_of n at i es v d.state >>= fold_it n (around d.callers) at d.state))

  abbrev pub to_unfold : ℕ → Place → Name → Exprs → Config → Going ℕ Config
  to_unfold n at i es c = with_one c (λ v d. put d (instance_of n at i es v d.state >>= unfold_it n (around d.callers) at d.state))

  -- the body of an instance, where these are the parameters, is exchanged for the instance, and back
  abbrev pub fold_body : ℕ → Place → Name → Fraction → Store → Assertion → List Value → Config → Going ℕ Config
  fold_body n at i q x e vs c =
      failing_as (Failed at) (take_of n q e (with_store x c.state)) >>= λ h.
      more within_128_bits at (Folded record { predicate = i; arguments = vs }) q h >>= λ h'. gives (in_state (with_holdings h' c.state) c)

  abbrev pub body_given : ℕ → Place → Fraction → Store → Assertion → Holdings → Config → Going ℕ Config
  body_given n at q x e h c = failing_as (Failed at) (give_again_of n c.callers q e (with_store x (with_holdings h c.state))) >>= λ u. gives (in_state (with_store c.state.store u) c)

  abbrev pub unfold_held : ℕ → Place → Fraction → Store → Assertion → Resource → Config → Going ℕ Config
  unfold_held n at q x e r c = less within_128_bits at r q c.state.holdings >>= λ h. body_given n at q x e h c

  abbrev pub unfold_body : ℕ → Place → Fraction → Store → Assertion → Instance → Config → Going ℕ Config
  unfold_body n at q x e i c = require (has_instance c.state i q) (Failed at) >>= λ _. unfold_held n at q x e (Folded i) c

  abbrev pub folding : ℕ → Place → Name → Fraction → Config → Going ℕ Config
  folding n at i q c = with_list c (λ vs d. put d (fold_it n (around d.callers) at d.state (record { predicate = i; arguments = vs }, q)))

  abbrev pub opening : ℕ → Place → Name → Fraction → Config → Going ℕ Config
  opening n at i q c = with_list c (λ vs d. put d (unfold_it n (around d.callers) at d.state (record { predicate = i; arguments = vs }, q)))

  abbrev pub act : Task → Config → Going ℕ Config
  act (task'.Body n b) = body n (block b.now)
  act (task'.Leave k) = left k
  act (task'.Assign x) = assigned (string_bytes x.now.value)
  act (task'.Write at f) = wrote at (string_bytes f.now.value)
  act (task'.Assume at) = assumed at
  act (task'.Branch n x y) = branched n (block x.now) (block y.now)
  act (task'.Again n k e b) = looped n k (expr e.now) (block b.now)
  act (task'.Round n k e b) = rounded n k (expr e.now) (block b.now)
  act (task'.Call n at xs m) = calling n at (names_of xs.now) (string_bytes m.now.value)
  act (task'.Enter k) = entering k.level k.place (names_of k.targets.now) (method k.method.now)
  act (task'.Return k) = returning k.level k.place (names_of k.targets.now) (method k.method.now)
  act (task'.ToFold n at i es) = to_fold n at (string_bytes i.now.value) (exprs es.now)
  act (task'.ToUnfold n at i es) = to_unfold n at (string_bytes i.now.value) (exprs es.now)
  act (task'.Fold n at i q) = folding n at (string_bytes i.now.value) (fraction q)
  act (task'.Unfold n at i q) = opening n at (string_bytes i.now.value) (fraction q)
  act (task'.Folded at i q) = held_again at (string_bytes i.now.value) (fraction q)
