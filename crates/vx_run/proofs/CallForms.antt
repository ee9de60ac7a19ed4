-- What calls and what is folded and unfolded come to, part by part.
use Rattle.std.proofs.Common.{◌≡◌, ℕ, ◌-◌, List, ◌∷◌, Option, Some, None, Result, Ok, Err, refl, sym, ◌∙◌, ap}
use Rattle.vx_ast.specs.declared.Place.{Place}
use Rattle.vx_ast.specs.Syntax.{Name, Method, Predicate, predicate_named, Exprs, Assertion, Block}
use Rattle.vx_frac.specs.Fractions.{Fraction, full}
use Rattle.vx_meaning.specs.Values.{Value}
use Rattle.vx_meaning.specs.States.{State, Store, Heap, Holdings, Instance, Folded, bind, assign_all, with_store, with_holdings}
use Rattle.vx_meaning.specs.Fits.{has_instance}
use Rattle.vx_meaning.specs.Fails.{precondition_of, postcondition_of}
use Rattle.vx_meaning.specs.Around.{Around}
use Rattle.vx_run.specs.Draws.{by_draws}
use Rattle.vx_run.specs.Going.{Going, Supply, Outcome, ◌>>=◌, continued, gives, require, expect, failing_as, chosen_for, Failed}
use Rattle.vx_run.specs.Widths.{within_128_bits, more, less}
use Rattle.vx_run.specs.Evaluated.{Permitted}
use Rattle.vx_run.specs.Pending.{evaluate_all}
use Rattle.vx_run.specs.Whole as whole
use Rattle.vx_run.specs.Blame.{within}
use Rattle.vx_run.specs.Configs.{Setting, Config, Caller, around, in_state, resumed, with_list, with_taking, put_state}
use Rattle.vx_run.specs.Frames.{before}
use Rattle.vx_run.specs.Tasks as tasks
use Rattle.vx_run.specs.Tasks.{put, body, bodies_by, taking, giving, giving_again, waiting, given_in, entered_in, answered, resuming, called_by, entering, returning, answering, ending}
use Rattle.vx_run.specs.declared.blame.Blame.TheVariants as blame
use Rattle.vx_run.specs.declared.context.Within.{Within}
use Rattle.vx_run.proofs.Steps.{bracketed}
use Rattle.vx_run.proofs.Parts.{itself, fails, taking_then, state_then}
use Rattle.vx_run.proofs.StatementForms.{plainly, plainly_taken, all_then}

abbrev pub failing : ℕ → Place → Within
failing n at = record { level = n; blame = blame.Fails at }

module _ (t : Setting) (n : ℕ) where
  -- by its body where there is one
  by_one : (a : Around) (at : Place) (s : State) (xs : List Name) (m : Method) (vs : List Value) (b : Option Block) → m.body ≡ b →
      tasks.called t n a at s xs m vs
      ≡ (failing_as (Failed at) (tasks.take_of t n full (precondition_of m) (with_store (bind m.parameters vs) s)) >>= λ h. tasks.run_by t n a b at s xs m vs h)
  by_one a at s xs m vs None e = rw e refl
  by_one a at s xs m vs (Some b) e = rw e refl

  -- a call: the precondition is taken, and then the callee is entered
  pub called_is : (at : Place) (xs : List Name) (m : Method) (vs : List Value) (c : Config) →
      called_by t n at xs m vs c
      ≡ (taking t (failing n at) full (precondition_of m) (waiting (bind m.parameters vs) vs c) >>= entering t n at xs m)
  called_is at xs m vs c =
      let s = with_store (bind m.parameters vs) c.state in
      let k = tasks.take_of t n full (precondition_of m) s in
      let enter = λ (h : Holdings). tasks.run_by t n (around c.callers) m.body at c.state xs m vs h in
      ap (put c) (by_one (around c.callers) at c.state xs m vs m.body refl)
      ∙ bracketed (failing_as (Failed at) k) enter (λ u. gives (in_state u c))
      ∙ ap (λ (o : Going ℕ Holdings). o >>= λ h. put c (enter h)) (sym (fails at k))
      ∙ sym (bracketed (within (blame.Fails at) k) _ (entering t n at xs m))

  -- the postcondition is given, and the caller goes on
  pub given_is : (c d : Config) (at : Place) (m : Going ℕ State) (s : State) (b : Assertion) →
      put c (failing_as (Failed at) m >>= λ u. gives (resumed s u)) ≡ (put_state (blame.Fails at) (in_state d.state c) m >>= resuming s)
  given_is c d at m s b =
      bracketed (failing_as (Failed at) m) (λ u. gives (resumed s u)) (λ u. gives (in_state u c))
      ∙ ap (λ (o : Going ℕ State). o >>= λ u. gives (in_state (resumed s u) c)) (sym (fails at m))
      ∙ sym (bracketed (within (blame.Fails at) m) (λ u. gives (in_state u (in_state d.state c))) (resuming s))

  pub answer_is : (at : Place) (w : Caller) (xs : List Name) (m : Method) (vs us : List Value) (c : Config) →
      answering t n at w xs m vs us c
      ≡ (giving_again t (failing n at) full (postcondition_of m) (in_state (given_in w.state m vs us w.left c.state.heap) c) >>= resuming (answered xs us w.state))
  answer_is at w xs m vs us c =
      given_is c (in_state (given_in w.state m vs us w.left c.state.heap) c) at
      (tasks.give_again_of t n c.callers full (postcondition_of m) (given_in w.state m vs us w.left c.state.heap)) (answered xs us w.state) (postcondition_of m)

  -- a method without a body
  pub contract_is : (at : Place) (s : State) (xs : List Name) (m : Method) (vs ws : List Value) (h : Holdings) (c : Config) (l l' : Supply ℕ) →
      chosen_for by_draws m.returns l ≡ Ok (ws, l') →
      put c (tasks.run_by t n (around c.callers) None at s xs m vs h) l
      ≡ (giving t (failing n at) full (postcondition_of m) (in_state (given_in s m vs ws h s.heap) c) >>= resuming (answered xs ws s)) l'
  contract_is at s xs m vs ws h c l l' e =
      ap (λ (r : Result (List Value × Supply ℕ) Outcome). continued (continued r (λ us. whole.back_in t.program by_draws within_128_bits t.steps n (bodies_by t (n - 1)) (around c.callers) at s xs m vs h s.heap us
      (whole.given t.program by_draws within_128_bits t.steps n (bodies_by t (n - 1)) (around c.callers) full))) (λ u. gives (in_state u c))) e
      ∙ ap (λ (o : Going ℕ Config). o l') (given_is c (in_state (given_in s m vs ws h s.heap) c) at
      (tasks.give_of t n c.callers full (postcondition_of m) (given_in s m vs ws h s.heap)) (answered xs ws s) (postcondition_of m))

  -- where the callee's body begins
  abbrev pub begins : State → Method → List Value → List Value → Holdings → Config → Config
  begins s m vs ws h c = record c { lists = vs ∷ c.lists; state = entered_in s m vs ws h; callers = record { state = s; left = h } ∷ c.callers }

  abbrev back : Place → List Name → Method → List Value → State → Holdings → Config → State → Going ℕ State
  back at xs m vs s h c u = expect (whole.values_of m.returns u.store) (Failed at) >>= λ us. tasks.back_in t n (around c.callers) at (record { state = s; left = h }) xs m vs us u

  abbrev ended : Place → List Name → Method → List Value → State → Holdings → Config → State → Going ℕ State
  ended at xs m vs s h c u = tasks.take_of t n full (postcondition_of m) u >>= λ _. back at xs m vs s h c u

  returns_from : (at : Place) (xs : List Name) (m : Method) (vs : List Value) (s : State) (h : Holdings) (c d : Config) (u : State) →
      d ≡ record c { lists = vs ∷ c.lists; callers = record { state = s; left = h } ∷ c.callers; state = u } →
      put c (ended at xs m vs s h c u) ≡ (ending t n m d >>= returning t n at xs m)
  returns_from at xs m vs s h c d u e =
      let k = tasks.take_of t n full (postcondition_of m) u in
      let here : Config = record c { lists = vs ∷ c.lists; callers = record { state = s; left = h } ∷ c.callers; state = u } in
      bracketed k (λ _. back at xs m vs s h c u) (λ z. gives (in_state z c))
      ∙ (λ i. k >>= λ _. bracketed (expect (whole.values_of m.returns u.store) (Failed at)) (λ us. tasks.back_in t n (around c.callers) at (record { state = s; left = h }) xs m vs us u) (λ z. gives (in_state z c)) i)
      ∙ sym (bracketed k (λ _. gives here) (returning t n at xs m))
      ∙ ap (λ (o : Going ℕ Config). o >>= returning t n at xs m) (sym (plainly_taken t n full (postcondition_of m) here (λ z e. gives e)))
      ∙ ap (λ (z : Config). ending t n m z >>= returning t n at xs m) (sym e)

  -- a callee's body runs, and its postcondition is taken; then it returns
  body_ends : (at : Place) (xs : List Name) (m : Method) (vs ws : List Value) (s : State) (h : Holdings) (b : Block) (c : Config) →
      put c (bodies_by t (n - 1) (around (begins s m vs ws h c).callers) b (entered_in s m vs ws h) >>= ended at xs m vs s h c)
      ≡ (body t (n - 1) b (begins s m vs ws h c) >>= before (ending t n m) (returning t n at xs m))
  body_ends at xs m vs ws s h b c =
      let run = bodies_by t (n - 1) (around (begins s m vs ws h c).callers) b (entered_in s m vs ws h) in
      bracketed run (ended at xs m vs s h c) (λ z. gives (in_state z c))
      ∙ (λ i. run >>= λ u. returns_from at xs m vs s h c (in_state u (begins s m vs ws h c)) u refl i)
      ∙ sym (bracketed run (λ u. gives (in_state u (begins s m vs ws h c))) (before (ending t n m) (returning t n at xs m)))

  pub by_body_is : (at : Place) (s : State) (xs : List Name) (m : Method) (vs ws : List Value) (h : Holdings) (b : Block) (c : Config) (l l' : Supply ℕ) →
      chosen_for by_draws m.returns l ≡ Ok (ws, l') →
      put c (tasks.run_by t n (around c.callers) (Some b) at s xs m vs h) l
      ≡ (body t (n - 1) b (begins s m vs ws h c) >>= before (ending t n m) (returning t n at xs m)) l'
  by_body_is at s xs m vs ws h b c l l' e =
      ap (λ (r : Result (List Value × Supply ℕ) Outcome). continued (continued r (λ us. bodies_by t (n - 1) (around (begins s m vs us h c).callers) b (entered_in s m vs us h) >>= ended at xs m vs s h c)) (λ u. gives (in_state u c))) e
      ∙ ap (λ (o : Going ℕ Config). o l') (body_ends at xs m vs ws s h b c)

  -- the variables are these again
  abbrev pub with_variables : Store → Config → Going ℕ Config
  with_variables x c = gives (in_state (with_store x c.state) c)

  -- an instance with its predicate and its body
  pub fold_with : (at : Place) (i : Name) (vs : List Value) (q : Fraction) (d : Predicate) (e : Assertion) (c : Config) →
      predicate_named t.program i ≡ Some d → d.body ≡ Some e →
      put c (tasks.fold_it t n (around c.callers) at c.state (record { predicate = i; arguments = vs }, q)) ≡ tasks.fold_body t n at i q (bind d.parameters vs) e vs c
  fold_with at i vs q d e c is body =
      let k = failing_as (Failed at) (tasks.take_of t n q e (with_store (bind d.parameters vs) c.state)) in
      let held = λ (h : Holdings). more within_128_bits at (Folded record { predicate = i; arguments = vs }) q h in
      ap (λ (o : Option Predicate). put c (from_predicate at i vs q c o)) is
      ∙ ap (λ (o : Option Assertion). put c (from_body at i vs q c d o)) body
      ∙ bracketed k (λ h. held h >>= λ h'. gives (with_holdings h' c.state)) (λ s. gives (in_state s c))
      ∙ (λ j. k >>= λ h. bracketed (held h) (λ h'. gives (with_holdings h' c.state)) (λ s. gives (in_state s c)) j)
    where
      from_body : (at : Place) (i : Name) (vs : List Value) (q : Fraction) (c : Config) (d : Predicate) → Option Assertion → Going ℕ State
      from_body at i vs q c d o =
          (expect o (Failed at) >>= λ e. gives (bind d.parameters vs, e)) >>= λ (b : Store × Assertion). failing_as (Failed at) (tasks.take_of t n q b.1 (with_store b.0 c.state)) >>= λ h.
          more within_128_bits at (Folded record { predicate = i; arguments = vs }) q h >>= λ h'. gives (with_holdings h' c.state)

      from_predicate : (at : Place) (i : Name) (vs : List Value) (q : Fraction) (c : Config) → Option Predicate → Going ℕ State
      from_predicate at i vs q c o =
          (expect o (Failed at) >>= λ d. expect d.body (Failed at) >>= λ e. gives (bind d.parameters vs, e)) >>= λ (b : Store × Assertion). failing_as (Failed at) (tasks.take_of t n q b.1 (with_store b.0 c.state)) >>= λ h.
          more within_128_bits at (Folded record { predicate = i; arguments = vs }) q h >>= λ h'. gives (with_holdings h' c.state)

  pub fold_is : (at : Place) (i : Name) (q : Fraction) (x : Store) (e : Assertion) (vs : List Value) (c : Config) →
      tasks.fold_body t n at i q x e vs c
      ≡ (taking t (failing n at) q e (record c { lists = vs ∷ c.lists; state = with_store x c.state }) >>= before (tasks.held_again at i q) (with_variables c.state.store))
  fold_is at i q x e vs c =
      let k = tasks.take_of t n q e (with_store x c.state) in
      let held = λ (h : Holdings). more within_128_bits at (Folded record { predicate = i; arguments = vs }) q h in
      let d : Config = in_state (with_store x c.state) c in
      ap (λ (o : Going ℕ Holdings). o >>= λ h. held h >>= λ h'. gives (in_state (with_holdings h' c.state) c)) (sym (fails at k))
      ∙ (λ j. within (blame.Fails at) k >>= λ h. sym (bracketed (held h >>= λ h'. gives (with_holdings h' d.state)) (λ s. gives (in_state s d)) (with_variables c.state.store)
      ∙ bracketed (held h) (λ h'. gives (with_holdings h' d.state)) (λ s. with_variables c.state.store (in_state s d))) j)
      ∙ sym (bracketed (within (blame.Fails at) k) _ (before (tasks.held_again at i q) (with_variables c.state.store)))

  pub unfold_with : (at : Place) (i : Instance) (q : Fraction) (d : Predicate) (e : Assertion) (c : Config) →
      predicate_named t.program i.predicate ≡ Some d → d.body ≡ Some e →
      put c (tasks.unfold_it t n (around c.callers) at c.state (i, q)) ≡ tasks.unfold_body t n at q (bind d.parameters i.arguments) e i c
  unfold_with at i q d e c is body =
      let has = require (has_instance c.state i q) (Failed at) in
      let rest = less within_128_bits at (Folded i) q c.state.holdings in
      let give = λ (h : Holdings). failing_as (Failed at) (tasks.give_again_of t n c.callers q e (with_store (bind d.parameters i.arguments) (with_holdings h c.state))) in
      ap (λ (o : Option Predicate). put c (from_predicate at i q c o)) is
      ∙ ap (λ (o : Option Assertion). put c (from_body at i q c d o)) body
      ∙ bracketed has (λ _. rest >>= λ h. give h >>= λ u. gives (with_store c.state.store u)) (λ s. gives (in_state s c))
      ∙ (λ j. has >>= λ _. (bracketed rest (λ h. give h >>= λ u. gives (with_store c.state.store u)) (λ s. gives (in_state s c))
      ∙ (λ k. rest >>= λ h. bracketed (give h) (λ u. gives (with_store c.state.store u)) (λ s. gives (in_state s c)) k)) j)
    where
      from_body : (at : Place) (i : Instance) (q : Fraction) (c : Config) (d : Predicate) → Option Assertion → Going ℕ State
      from_body at i q c d o =
          (expect o (Failed at) >>= λ e. gives (bind d.parameters i.arguments, e)) >>= λ (b : Store × Assertion). require (has_instance c.state i q) (Failed at) >>= λ _.
          less within_128_bits at (Folded i) q c.state.holdings >>= λ h.
          failing_as (Failed at) (tasks.give_again_of t n c.callers q b.1 (with_store b.0 (with_holdings h c.state))) >>= λ u. gives (with_store c.state.store u)

      from_predicate : (at : Place) (i : Instance) (q : Fraction) (c : Config) → Option Predicate → Going ℕ State
      from_predicate at i q c o =
          (expect o (Failed at) >>= λ d. expect d.body (Failed at) >>= λ e. gives (bind d.parameters i.arguments, e)) >>= λ (b : Store × Assertion).
          require (has_instance c.state i q) (Failed at) >>= λ _. less within_128_bits at (Folded i) q c.state.holdings >>= λ h.
          failing_as (Failed at) (tasks.give_again_of t n c.callers q b.1 (with_store b.0 (with_holdings h c.state))) >>= λ u. gives (with_store c.state.store u)

  -- behind what is less: the body is given, in the state with the parameters
  pub given_in_body : (at : Place) (q : Fraction) (x : Store) (e : Assertion) (h : Holdings) (c : Config) →
      (failing_as (Failed at) (tasks.give_again_of t n c.callers q e (with_store x (with_holdings h c.state))) >>= λ u. gives (in_state (with_store c.state.store u) c))
      ≡ (giving_again t (failing n at) q e (in_state (with_store x (with_holdings h c.state)) c) >>= with_variables c.state.store)
  given_in_body at q x e h c =
      let k = tasks.give_again_of t n c.callers q e (with_store x (with_holdings h c.state)) in
      let d : Config = in_state (with_store x (with_holdings h c.state)) c in
      ap (λ (o : Going ℕ State). o >>= λ u. gives (in_state (with_store c.state.store u) c)) (sym (fails at k))
      ∙ sym (bracketed (within (blame.Fails at) k) (λ s. gives (in_state s d)) (with_variables c.state.store))

  -- the arguments, where the amount is known
  pub to_fold_with : (at : Place) (i : Name) (es : Exprs) (q : Fraction) (c : Config) →
      put c ((evaluate_all t n Permitted c.state es >>= λ vs. gives (record { predicate = i; arguments = vs }, q)) >>= tasks.fold_it t n (around c.callers) at c.state)
      ≡ (tasks.evaluated_all t n es c >>= tasks.folding t n at i q)
  to_fold_with at i es q c =
      let m = evaluate_all t n Permitted c.state es in
      ap (put c) (bracketed m (λ vs. gives (record { predicate = i; arguments = vs }, q)) (tasks.fold_it t n (around c.callers) at c.state))
      ∙ bracketed m (λ vs. tasks.fold_it t n (around c.callers) at c.state (record { predicate = i; arguments = vs }, q)) (λ s. gives (in_state s c))
      ∙ sym (all_then t n es c (λ vs d. put d (tasks.fold_it t n (around d.callers) at d.state (record { predicate = i; arguments = vs }, q))))

  pub to_unfold_with : (at : Place) (i : Name) (es : Exprs) (q : Fraction) (c : Config) →
      put c ((evaluate_all t n Permitted c.state es >>= λ vs. gives (record { predicate = i; arguments = vs }, q)) >>= tasks.unfold_it t n (around c.callers) at c.state)
      ≡ (tasks.evaluated_all t n es c >>= tasks.opening t n at i q)
  to_unfold_with at i es q c =
      let m = evaluate_all t n Permitted c.state es in
      ap (put c) (bracketed m (λ vs. gives (record { predicate = i; arguments = vs }, q)) (tasks.unfold_it t n (around c.callers) at c.state))
      ∙ bracketed m (λ vs. tasks.unfold_it t n (around c.callers) at c.state (record { predicate = i; arguments = vs }, q)) (λ s. gives (in_state s c))
      ∙ sym (all_then t n es c (λ vs d. put d (tasks.unfold_it t n (around d.callers) at d.state (record { predicate = i; arguments = vs }, q))))

  -- no predicate of this name, and one without a body
  pub fold_without : (at : Place) (i : Name) (vs : List Value) (q : Fraction) (c : Config) (k : Config → Going ℕ Config) (l : Supply ℕ) → predicate_named t.program i ≡ None →
      Err (Failed at) ≡ (put c (tasks.fold_it t n (around c.callers) at c.state (record { predicate = i; arguments = vs }, q)) >>= k) l
  fold_without at i vs q c k l e =
      ap (λ (o : Option Predicate). (put c ((expect o (Failed at) >>= λ d. expect d.body (Failed at) >>= λ e. gives (bind d.parameters vs, e)) >>= λ (b : Store × Assertion).
      failing_as (Failed at) (tasks.take_of t n q b.1 (with_store b.0 c.state)) >>= λ h. more within_128_bits at (Folded record { predicate = i; arguments = vs }) q h >>= λ h'. gives (with_holdings h' c.state)) >>= k) l) (sym e)

  pub fold_bodyless : (at : Place) (i : Name) (vs : List Value) (q : Fraction) (d : Predicate) (c : Config) (k : Config → Going ℕ Config) (l : Supply ℕ) →
      predicate_named t.program i ≡ Some d → d.body ≡ None →
      Err (Failed at) ≡ (put c (tasks.fold_it t n (around c.callers) at c.state (record { predicate = i; arguments = vs }, q)) >>= k) l
  fold_bodyless at i vs q d c k l e b =
      ap (λ (o : Option Assertion). (put c ((expect o (Failed at) >>= λ e. gives (bind d.parameters vs, e)) >>= λ (b : Store × Assertion).
      failing_as (Failed at) (tasks.take_of t n q b.1 (with_store b.0 c.state)) >>= λ h. more within_128_bits at (Folded record { predicate = i; arguments = vs }) q h >>= λ h'. gives (with_holdings h' c.state)) >>= k) l) (sym b)
      ∙ ap (λ (o : Option Predicate). (put c ((expect o (Failed at) >>= λ d. expect d.body (Failed at) >>= λ e. gives (bind d.parameters vs, e)) >>= λ (b : Store × Assertion).
      failing_as (Failed at) (tasks.take_of t n q b.1 (with_store b.0 c.state)) >>= λ h. more within_128_bits at (Folded record { predicate = i; arguments = vs }) q h >>= λ h'. gives (with_holdings h' c.state)) >>= k) l) (sym e)

  pub unfold_without : (at : Place) (i : Instance) (q : Fraction) (c : Config) (k : Config → Going ℕ Config) (l : Supply ℕ) → predicate_named t.program i.predicate ≡ None →
      Err (Failed at) ≡ (put c (tasks.unfold_it t n (around c.callers) at c.state (i, q)) >>= k) l
  unfold_without at i q c k l e =
      ap (λ (o : Option Predicate). (put c ((expect o (Failed at) >>= λ d. expect d.body (Failed at) >>= λ e. gives (bind d.parameters i.arguments, e)) >>= λ (b : Store × Assertion).
      require (has_instance c.state i q) (Failed at) >>= λ _. less within_128_bits at (Folded i) q c.state.holdings >>= λ h.
      failing_as (Failed at) (tasks.give_again_of t n c.callers q b.1 (with_store b.0 (with_holdings h c.state))) >>= λ u. gives (with_store c.state.store u)) >>= k) l) (sym e)

  pub unfold_bodyless : (at : Place) (i : Instance) (q : Fraction) (d : Predicate) (c : Config) (k : Config → Going ℕ Config) (l : Supply ℕ) →
      predicate_named t.program i.predicate ≡ Some d → d.body ≡ None →
      Err (Failed at) ≡ (put c (tasks.unfold_it t n (around c.callers) at c.state (i, q)) >>= k) l
  unfold_bodyless at i q d c k l e b =
      ap (λ (o : Option Assertion). (put c ((expect o (Failed at) >>= λ e. gives (bind d.parameters i.arguments, e)) >>= λ (b : Store × Assertion).
      require (has_instance c.state i q) (Failed at) >>= λ _. less within_128_bits at (Folded i) q c.state.holdings >>= λ h.
      failing_as (Failed at) (tasks.give_again_of t n c.callers q b.1 (with_store b.0 (with_holdings h c.state))) >>= λ u. gives (with_store c.state.store u)) >>= k) l) (sym b)
      ∙ ap (λ (o : Option Predicate). (put c ((expect o (Failed at) >>= λ d. expect d.body (Failed at) >>= λ e. gives (bind d.parameters i.arguments, e)) >>= λ (b : Store × Assertion).
      require (has_instance c.state i q) (Failed at) >>= λ _. less within_128_bits at (Folded i) q c.state.holdings >>= λ h.
      failing_as (Failed at) (tasks.give_again_of t n c.callers q b.1 (with_store b.0 (with_holdings h c.state))) >>= λ u. gives (with_store c.state.store u)) >>= k) l) (sym e)
