-- Whole runs: a call runs its callee's body, and a loop its body again and again, by no invariant.
use Rattle.std.specs.Prelude.{◌≡◌, ℕ, zero, suc, ◌-◌, List, [], ◌∷◌, ◌++◌, take, length, Option, Some, None, option_and_then}
use Rattle.vx_ast.specs.declared.Place.{Place}
use Rattle.vx_ast.specs.Syntax.{Name, Program, Method, Declaration, method_named, Expr, Assertion, Pure, Points, Both, Implied, Chosen, Block}
use Rattle.vx_ast.specs.Syntax as syntax
use Rattle.vx_frac.specs.Fractions.{Fraction, full, minus, product}
use Rattle.vx_meaning.specs.Values.{Value}
use Rattle.vx_meaning.specs.States.{State, Store, Heap, Holdings, Resource, lookup, assign_all, bind, HaveTypes, gained, from_now, with_store, with_holdings}
use Rattle.vx_meaning.specs.Flatten.{bare}
use Rattle.vx_meaning.specs.Fits.{placed, fit_by, take_by, deeper, field_part, instance_part}
use Rattle.vx_meaning.specs.Outcomes.{FailsAt, Outcomes, ends, stops, either, for_any, where_holds, checked, and_then, failing_at}
use Rattle.vx_meaning.specs.Give.{give, give_pure, side}
use Rattle.vx_meaning.specs.Run.{Manner, after_change_beside, run_all_in}
use Rattle.vx_meaning.specs.Fails.{precondition_of, postcondition_of}
use Rattle.vx_meaning.specs.Around.{Around, nobody, IsPossible, waits}

-- what was taken: the entries that taking put in front, with their signs turned
abbrev pub given_back : Holdings → Holdings
given_back [] = []
given_back (e ∷ rest) = (e.0, minus e.1) ∷ given_back rest

abbrev pub gone : Holdings → Holdings → Holdings
gone before after = given_back (take (length after - length before) after)

-- the values of the returns at a method's end
abbrev pub returned : List Declaration → Store → Option (List Value)
returned [] s = Some []
returned (d ∷ ds) s = option_and_then (λ v. option_and_then (λ vs. Some (v ∷ vs)) (returned ds s)) (lookup d.name s)

-- what follows values that are there
abbrev pub with_values : Option (List Value) → (List Value → Outcomes) → Outcomes
with_values None rest o = ⊥
with_values (Some vs) rest o = rest vs o

module _ (p : Program) (a : Around) where
  abbrev pub possible : State → Outcomes
  possible s = either (where_holds (IsPossible p a s) (ends s)) (where_holds (IsPossible p a s → ⊥) stops)

  -- A location of which nobody holds anything may have any value where some of it is given.
  abbrev pub give_part : Fraction → State → Resource × Fraction → Outcomes
  give_part q s part = after_change_beside p a s (λ u. possible (with_holdings (gained part.0 (product q part.1) u.holdings) u))

  abbrev pub give_whole : Fraction → Assertion → State → Outcomes
  give_whole q (Pure e) s = give_pure p (IsPossible p a) q e s
  give_whole q (Points at e f share) s = checked (λ n. field_part p (deeper p n) s at e f share) (give_part q s)
  give_whole q (syntax.Instance at i es share) s = checked (λ n. instance_part p (deeper p n) s at i es share) (give_part q s)
  give_whole q (Both x y) s = and_then (give_whole q x s) (give_whole q y)
  give_whole q (Implied c x) s = checked (λ n. fit_by p n s c) (λ v. side v (give_whole q x s) (ends s))
  give_whole q (Chosen c x y) s = checked (λ n. fit_by p n s c) (λ v. side v (give_whole q x s) (give_whole q y s))

  -- back in the caller: the postcondition, with old the state before; `into` gives it
  abbrev pub back_in : State → Place → List Name → Method → List Value → Holdings → Heap → List Value → (Assertion → State → Outcomes) → Outcomes
  back_in s at xs m vs left h ws into =
      and_then (failing_at at (into (postcondition_of m)
      record { store = bind m.parameters vs ++ bind m.returns ws; heap = h; holdings = left; old_heap = s.heap; old_holdings = s.holdings }))
      (λ t. ends record { store = assign_all xs ws s.store; heap = t.heap; holdings = t.holdings; old_heap = s.old_heap; old_holdings = s.old_holdings })

  -- a method without a body goes by its contract
  abbrev pub by_contract : State → Place → List Name → Method → List Value → Holdings → Outcomes
  by_contract s at xs m vs left =
      after_change_beside p a (with_holdings left s) (λ u. for_any (List Value) (λ ws. where_holds (HaveTypes m.returns ws) (
      back_in s at xs m vs left u.heap ws (give_whole full))))

-- how a method's body runs where these wait
abbrev pub Bodies : Type 1
Bodies = Around → Block → State → Outcomes

module _ (p : Program) (a : Around) (bodies : Bodies) where
  -- the callee starts with what was taken, and its old part is that state
  abbrev pub entered : State → Method → List Value → List Value → Holdings → State
  entered s m vs ws left = record { store = bind m.parameters vs ++ bind m.returns ws; heap = s.heap; holdings = gone s.holdings left; old_heap = s.heap; old_holdings = gone s.holdings left }

  abbrev pub by_body : State → Place → List Name → Method → List Value → Block → Holdings → Outcomes
  by_body s at xs m vs b left =
      for_any (List Value) (λ ws. where_holds (HaveTypes m.returns ws) (
      and_then (bodies (waits s left a) b (entered s m vs ws left)) (λ t.
      checked (λ n. take_by p n t full (postcondition_of m) t.holdings) (λ rest.
      with_values (returned m.returns t.store) (λ us.
      back_in p a s at xs m vs left t.heap us (give p (IsPossible p a) full))))))

  abbrev pub call_whole : State → Place → List Name → Name → List Value → Outcomes
  call_whole s at xs m vs = called (method_named p m) where
    run_by : Method → Option Block → Holdings → Outcomes
    run_by c None left = by_contract p a s at xs c vs left
    run_by c (Some b) left = by_body s at xs c vs b left

    called : Option Method → Outcomes
    called None o = ⊥
    called (Some c) o =
        checked (λ n. placed at (take_by p n (with_store (bind c.parameters vs) s) full (precondition_of c) s.holdings)) (run_by c c.body) o

  -- at most n times
  abbrev pub again : ℕ → Expr → (State → Outcomes) → State → Outcomes
  again zero c body s o = ⊥
  again (suc n) c body s o = checked (λ n. fit_by p n s c) (λ v. side v (and_then (body s) (again n c body)) (ends s)) o

  -- loops run at most n times each
  abbrev pub wholly : ℕ → Manner
  wholly n = record { call = call_whole; loop = λ s at c is xs body. again n c body s; inhale = give_whole p a full }

-- n calls within one another, and n rounds of each loop
abbrev pub bodies_by : Program → ℕ → Bodies
bodies_by p zero a b s o = ⊥
bodies_by p (suc n) a b s o = run_all_in p a (wholly p a (bodies_by p n) (suc n)) b s o

-- a whole run of a method: its precondition is given, its body runs, and its postcondition is taken
abbrev pub whole_run : Program → ℕ → Method → Block → List Value → List Value → Heap → Outcomes
whole_run p n m b vs ws h =
    and_then (give_whole p nobody full (precondition_of m) (bare (bind m.parameters vs ++ bind m.returns ws) h)) (λ s.
    and_then (bodies_by p n nobody b (from_now s)) (λ t.
    checked (λ n. take_by p n t full (postcondition_of m) t.holdings) (λ _. ends t)))

pub record WholeRunFails (p : Program) (m : Method) (at : Place) : Type 0 where
  pub body : Block
  pub is_body : m.body ≡ Some body
  pub arguments : List Value
  pub returns : List Value
  pub arguments_typed : HaveTypes m.parameters arguments
  pub returns_typed : HaveTypes m.returns returns
  pub heap : Heap
  pub fuel : ℕ
  pub fails : whole_run p fuel m body arguments returns heap (FailsAt at)
