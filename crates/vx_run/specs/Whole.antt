-- A whole run with choices, steps and a width, as one function: a call runs its callee's body, and a loop its body again and again, by no invariant.
use Rattle.std.specs.Prelude.{ℕ, zero, suc, ◌+◌, ◌-◌, List, [], ◌∷◌, ◌++◌, length, take, Option, Some, None, Result, Ok, Err, option_and_then}
use Rattle.vx_ast.specs.declared.Place.{Place}
use Rattle.vx_ast.specs.Syntax.{Name, Program, Method, Declaration, predicate_named, method_named, Expr, Exprs, Assertion, Stmt, Declare, Assign, Write, New, Call, Inhale, Exhale, Assert, Assume, Fold, Unfold, If, While, Block, Done, Then, place_of}
use Rattle.vx_frac.specs.Fractions.{Fraction, full, at_most, minus}
use Rattle.vx_meaning.specs.Values.{Value, RefValue, is_true}
use Rattle.vx_meaning.specs.States.{State, Store, Heap, Holdings, Instance, At, Folded, lookup, assign, assign_all, bind, amount, gained, field_type, from_now, with_store, with_heap, with_holdings, declare, leave}
use Rattle.vx_meaning.specs.Flatten.{bare}
use Rattle.vx_meaning.specs.Fits.{location_of, has_instance}
use Rattle.vx_meaning.specs.Fails.{precondition_of, postcondition_of}
use Rattle.vx_meaning.specs.Around.{Around, nobody, waits}
use Rattle.vx_run.specs.Draws.{Choosing}
use Rattle.vx_run.specs.Going.{Going, Outcome, Ended, Stopped, Failed, Running, Supply, ◌>>=◌, gives, ends_with, when, require, expect, failing_as, step, chosen, chosen_for}
use Rattle.vx_run.specs.Widths.{Width, more, less}
use Rattle.vx_run.specs.Evaluated as evaluated
use Rattle.vx_run.specs.Evaluated.{Permitted, deeper}
use Rattle.vx_run.specs.Given.{give, give_again}
use Rattle.vx_run.specs.Fresh.{fresh}

-- what was taken: the entries that taking put in front, with their signs turned
abbrev pub given_back : Holdings → Holdings
given_back [] = []
given_back (e ∷ rest) = (e.0, minus e.1) ∷ given_back rest

abbrev pub gone : Holdings → Holdings → Holdings
gone before after = given_back (take (length after - length before) after)

-- the values of these variables
abbrev pub values_of : List Declaration → Store → Option (List Value)
values_of [] s = Some []
values_of (d ∷ ds) s = option_and_then (λ v. option_and_then (λ vs. Some (v ∷ vs)) (values_of ds s)) (lookup d.name s)

-- how a method's body runs where these wait
abbrev pub Bodies : Type 0 → Type 0
Bodies S = Around → Block → State → Going S State

-- a run within n calls, rounds, applications and instances, where these wait; bodies are what runs one level deeper
module _ {S : Type 0} (p : Program) (c : Choosing S) (width : Width) (depth : ℕ) (n : ℕ) (bodies : Bodies S) (a : Around) where
  abbrev pub evaluate : State → Expr → Going S Value
  evaluate = evaluated.evaluate p width (deeper p width n) Permitted

  abbrev pub evaluate_all : State → Exprs → Going S (List Value)
  evaluate_all = evaluated.evaluate_all p width (deeper p width n) Permitted

  abbrev pub instance_at : State → Place → Name → Exprs → Expr → Going S (Instance × Fraction)
  instance_at = evaluated.instance_at p width (deeper p width n)

  abbrev pub taken : State → Fraction → Assertion → Going S Holdings
  taken s q x = evaluated.take p width (deeper p width n) s q x s.holdings

  abbrev pub given : Fraction → Assertion → State → Going S State
  given = give p c width (deeper p width n) depth a n

  abbrev pub given_again : Fraction → Assertion → State → Going S State
  given_again = give_again p c width (deeper p width n) depth a

  abbrev pub chosen_values : List Declaration → Going S (List Value)
  chosen_values = chosen_for c

  -- the predicate's body, and its arguments as a store
  abbrev pub body_of : Place → Instance → Going S (Store × Assertion)
  body_of at i =
      expect (predicate_named p i.predicate) (Failed at) >>= λ d. expect d.body (Failed at) >>= λ e. gives (bind d.parameters i.arguments, e)

  abbrev pub fold_it : Place → State → Instance × Fraction → Going S State
  fold_it at s (i, q) =
      body_of at i >>= λ b. failing_as (Failed at) (taken (with_store b.0 s) q b.1) >>= λ h. more width at (Folded i) q h >>= λ h'. gives (with_holdings h' s)

  abbrev pub unfold_it : Place → State → Instance × Fraction → Going S State
  unfold_it at s (i, q) =
      body_of at i >>= λ b. require (has_instance s i q) (Failed at) >>= λ _. less width at (Folded i) q s.holdings >>= λ h.
      failing_as (Failed at) (given_again q b.1 (with_store b.0 (with_holdings h s))) >>= λ u. gives (with_store s.store u)

  -- the new reference with these fields, whose values are chosen
  abbrev pub new_fields : ℕ → List Name → State → Going S State
  new_fields r [] s = gives s
  new_fields r (f ∷ fs) s = chosen c (field_type p f) >>= λ v. new_fields r fs (with_field v) where
    with_field : Value → State
    with_field v = record s { heap = (record { receiver = r; field = f }, v) ∷ s.heap; holdings = gained (At record { receiver = r; field = f }) full s.holdings }

  abbrev pub new : Name → List Name → State → Going S State
  new x fs s = new_fields (fresh a s) fs (with_store (assign x (RefValue (fresh a s)) s.store) s)

  abbrev pub write : Place → Expr → Name → Expr → State → Going S State
  write at e f e' s =
      evaluate s e >>= λ r. evaluate s e' >>= λ v. expect (location_of f r) (Failed at) >>= λ l.
      require (at_most full (amount s.holdings (At l))) (Failed at) >>= λ _. gives (with_heap ((l, v) ∷ s.heap) s)

  -- back in the caller: the postcondition, with old the state before; `into` gives it
  abbrev pub back_in : Place → State → List Name → Method → List Value → Holdings → Heap → List Value → (Assertion → State → Going S State) → Going S State
  back_in at s xs m vs left h ws into =
      failing_as (Failed at) (into (postcondition_of m)
      record { store = bind m.parameters vs ++ bind m.returns ws; heap = h; holdings = left; old_heap = s.heap; old_holdings = s.holdings }) >>= λ t.
      gives record { store = assign_all xs ws s.store; heap = t.heap; holdings = t.holdings; old_heap = s.old_heap; old_holdings = s.old_holdings }

  -- the callee starts with what was taken, and its old part is that state
  abbrev pub entered : State → Method → List Value → List Value → Holdings → State
  entered s m vs ws left = record { store = bind m.parameters vs ++ bind m.returns ws; heap = s.heap; holdings = gone s.holdings left; old_heap = s.heap; old_holdings = gone s.holdings left }

  -- a callee's body runs; at its end the postcondition is taken there, and given here
  abbrev pub by_body : Place → State → List Name → Method → List Value → Holdings → Block → Going S State
  by_body at s xs m vs left b =
      chosen_values m.returns >>= λ ws. bodies (waits s left a) b (entered s m vs ws left) >>= λ t. taken t full (postcondition_of m) >>= λ _.
      expect (values_of m.returns t.store) (Failed at) >>= λ us. back_in at s xs m vs left t.heap us (given_again full)

  -- a method without a body goes by its contract
  abbrev pub by_contract : Place → State → List Name → Method → List Value → Holdings → Going S State
  by_contract at s xs m vs left = chosen_values m.returns >>= λ ws. back_in at s xs m vs left s.heap ws (given full)

  abbrev pub called : Place → State → List Name → Method → List Value → Going S State
  called at s xs m vs = failing_as (Failed at) (taken (with_store (bind m.parameters vs) s) full (precondition_of m)) >>= λ left. run_by m.body left where
    run_by : Option Block → Holdings → Going S State
    run_by None left = by_contract at s xs m vs left
    run_by (Some b) left = by_body at s xs m vs left b

  abbrev pub call : Place → List Name → Name → Exprs → State → Going S State
  call at xs m es s = evaluate_all s es >>= λ vs. expect (method_named p m) (Failed at) >>= λ d. called at s xs d vs

  -- each condition that is evaluated is a step
  abbrev pub again : ℕ → Expr → (State → Going S State) → State → Going S State
  again zero e body s = ends_with Running
  again (suc k) e body s = step >>= λ _. evaluate s e >>= λ v. when (is_true v) (body s >>= again k e body) (gives s)

  -- a block's own variables are forgotten at its end
  abbrev pub scoped : (State → Going S State) → State → Going S State
  scoped body s = body s >>= λ t. gives (leave (length s.store) t)

  abbrev mutual
    pub run : Stmt → State → Going S State
    run (Declare at x t) s = chosen c t >>= λ v. gives (declare x v s)
    run (Assign at x e) s = evaluate s e >>= λ v. gives (with_store (assign x v s.store) s)
    run (New at x fs) s = new x fs s
    run (Write at e f e') s = write at e f e' s
    run (Call at xs m es) s = call at xs m es s
    run (Inhale at x) s = given full x s
    run (Assume at e) s = evaluate s e >>= λ v. require (is_true v) (Stopped (place_of e)) >>= λ _. gives s
    run (Exhale at x) s = taken s full x >>= λ h. gives (with_holdings h s)
    run (Assert at x) s = taken s full x >>= λ _. gives s
    run (Fold at i es share) s = instance_at s at i es share >>= fold_it at s
    run (Unfold at i es share) s = instance_at s at i es share >>= unfold_it at s
    run (If at e x y) s = evaluate s e >>= λ v. when (is_true v) (scoped (run_all x) s) (scoped (run_all y) s)
    run (While at e is x) s = again n e (scoped (run_all x)) s

    pub run_all : Block → State → Going S State
    run_all Done s = gives s
    run_all (Then x y) s = step >>= λ _. run x s >>= run_all y

module _ {S : Type 0} (p : Program) (c : Choosing S) (width : Width) (depth : ℕ) where
  abbrev pub bodies : ℕ → Bodies S
  bodies zero a b s = ends_with Running
  bodies (suc n) a b s = run_all p c width depth (suc n) (bodies n) a b s

  -- the precondition is given, the body runs, and the postcondition is taken
  abbrev pub run_method : ℕ → Method → Block → Going S (Unit {0})
  run_method n m b =
      chosen_for c m.parameters >>= λ vs. chosen_for c m.returns >>= λ ws.
      given p c width depth n (bodies n) nobody full (precondition_of m) (bare (bind m.parameters vs ++ bind m.returns ws) []) >>= λ s.
      bodies n nobody b (from_now s) >>= λ t. taken p c width depth n (bodies n) nobody t full (postcondition_of m) >>= λ _. gives tt

  abbrev pub outcome : Result (Unit {0} × Supply S) Outcome → Outcome
  outcome (Ok r) = Ended
  outcome (Err o) = o

-- Each call, round, application and instance takes a step, and what is unfolded within a predicate is another one; so no run is within more of them
-- than there are steps and members.
abbrev pub whole : {S : Type 0} → Program → Choosing S → Width → (steps : ℕ) → S → Method → Block → Outcome
whole p c width steps from m b = outcome p c width steps (run_method p c width steps (suc (steps + length p)) m b record { source = from; steps = steps })
