-- What blocks, statements, branches and loops come to, part by part.
use Rattle.std.proofs.Common.{◌≡◌, ◌≢◌, ℕ, zero, suc, ◌-◌, Bool, true, false, List, [], ◌∷◌, length, Result, Ok, Err, refl, sym, ◌∙◌, ap, arith}
use Rattle.vx_ast.specs.declared.Place.{Place}
use Rattle.vx_ast.specs.Syntax as syntax
use Rattle.vx_ast.specs.Syntax.{Name, method_named, place_of, Expr, Exprs, Assertion, Stmt, Block, Done, Then}
use Rattle.vx_frac.specs.Fractions.{Fraction, full, is_positive}
use Rattle.vx_meaning.specs.Values.{Value, RefValue, is_true}
use Rattle.vx_meaning.specs.Fits.{amount_of}
use Rattle.vx_meaning.specs.States.{State, Holdings, Instance, field_type, assign, with_store, with_holdings, leave}
use Rattle.vx_meaning.specs.Around.{Around}
use Rattle.vx_resolved.specs.Resolved.{stmt}
use Rattle.vx_resolved.specs.declared.Stmt.{Stmt as Stmt'}
use Rattle.vx_run.specs.Draws.{by_draws}
use Rattle.vx_run.specs.Going.{Going, Outcome, Supply, Running, ◌>>=◌, continued, gives, when, require, expect, step, chosen, Stopped, Failed}
use Rattle.vx_run.specs.Widths.{within_128_bits}
use Rattle.vx_run.specs.Evaluated.{Permitted}
use Rattle.vx_run.specs.Fresh.{fresh}
use Rattle.vx_run.specs.Whole as whole
use Rattle.vx_run.specs.Configs.{Setting, Config, around, in_state, with_one, with_two, with_list, with_taking, put_value, put_list, put_taking}
use Rattle.vx_run.specs.Frames.{before}
use Rattle.vx_run.specs.Blame.{within}
use Rattle.vx_run.specs.Pending.{evaluate, evaluate_all, share_of}
use Rattle.vx_run.specs.Tasks as tasks
use Rattle.vx_run.specs.Tasks.{put, begun, body, bodies_by, scoped, again, round, branch, one_round, looped, left, assigned, assumed, wrote, written, evaluated, evaluated_all, taking, giving}
use Rattle.vx_run.specs.declared.blame.Blame.TheVariants as blame
use Rattle.vx_run.specs.declared.context.Within.{Within}
use Rattle.vx_run.proofs.Steps.{bracketed}
use Rattle.vx_run.proofs.Parts.{itself, value_then, list_then, taking_then, state_then}

abbrev pub plainly : ℕ → Within
plainly n = record { level = n; blame = blame.Itself }

-- an amount above none, and what follows it
amount_first : {A : Type 0} (at : Place) (v : Value) (f : Fraction → Going ℕ A) →
    (expect (amount_of v) (Failed at) >>= λ q. require (is_positive q) (Failed at) >>= λ _. f q) ≡ (share_of at v >>= f)
amount_first at v f =
    sym (bracketed (expect (amount_of v) (Failed at)) (λ q. require (is_positive q) (Failed at) >>= λ _. gives q) f
    ∙ (λ i. expect (amount_of v) (Failed at) >>= λ q. bracketed (require (is_positive q) (Failed at)) (λ _. gives q) f i))

-- two parts, and what follows
pub before_two : (f g k : Config → Going ℕ Config) (c : Config) (m : Going ℕ Config) → m ≡ (f c >>= g) → (m >>= k) ≡ before f (before g k) c
before_two f g k c m e = ap (λ (n : Going ℕ Config). n >>= k) e ∙ bracketed (f c) g k

module _ (t : Setting) where
  abbrev run_all : ℕ → Around → Block → State → Going ℕ State
  run_all n a b s = whole.run_all t.program by_draws within_128_bits t.steps n (bodies_by t (n - 1)) a b s

  pub body_is : (n : ℕ) (a : Around) (b : Block) (s : State) → n ≢ 0 → bodies_by t n a b s ≡ run_all n a b s
  body_is zero a b s h = absurd (h refl)
  body_is (suc n) a b s h =
      let less : n ≡ suc n - 1 = omega arith in
      ap (λ (k : ℕ). whole.run_all t.program by_draws within_128_bits t.steps (suc n) (bodies_by t k) a b s) less

  -- a block's statements one after the other
  pub done_is : (n : ℕ) (c : Config) → n ≢ 0 → body t n Done c ≡ gives c
  done_is n c h = ap (put c) (body_is n (around c.callers) Done c.state h)

  first_then : (n : ℕ) (x : Stmt) (y : Block) (c : Config) → n ≢ 0 →
      ((tasks.run t n (around c.callers) x c.state >>= run_all n (around c.callers) y) >>= λ s. gives (in_state s c)) ≡ (begun t n x c >>= body t n y)
  first_then n x y c h =
      let m = tasks.run t n (around c.callers) x c.state in
      bracketed m (run_all n (around c.callers) y) (λ s. gives (in_state s c))
      ∙ (λ i. m >>= λ u. put (in_state u c) (sym (body_is n (around c.callers) y u h) i))
      ∙ sym (bracketed m (λ s. gives (in_state s c)) (body t n y))

  pub then_is : (n : ℕ) (x : Stmt) (y : Block) (c : Config) → n ≢ 0 → body t n (Then x y) c ≡ (step >>= λ _. begun t n x c >>= body t n y)
  then_is n x y c h =
      ap (put c) (body_is n (around c.callers) (Then x y) c.state h)
      ∙ bracketed step (λ _. tasks.run t n (around c.callers) x c.state >>= run_all n (around c.callers) y) (λ s. gives (in_state s c))
      ∙ (λ i. step >>= λ _. first_then n x y c h i)

  -- what is evaluated, and then done with its value
  pub evaluated_then : (n : ℕ) (e : Expr) (c : Config) (f : Value → Config → Going ℕ Config) →
      (evaluated t n e c >>= λ d. with_one d f) ≡ (evaluate t n Permitted c.state e >>= λ v. f v c)
  evaluated_then n e c f = value_then blame.Itself (evaluate t n Permitted c.state e) c f ∙ ap (λ (m : Going ℕ Value). m >>= λ v. f v c) (itself (evaluate t n Permitted c.state e))

  pub all_then : (n : ℕ) (es : Exprs) (c : Config) (f : List Value → Config → Going ℕ Config) →
      (evaluated_all t n es c >>= λ d. with_list d f) ≡ (evaluate_all t n Permitted c.state es >>= λ vs. f vs c)
  all_then n es c f = list_then blame.Itself (evaluate_all t n Permitted c.state es) c f ∙ ap (λ (m : Going ℕ (List Value)). m >>= λ vs. f vs c) (itself (evaluate_all t n Permitted c.state es))

  pub assign_is : (n : ℕ) (at : Place) (x : Name) (e : Expr) (c : Config) → begun t n (syntax.Assign at x e) c ≡ (evaluated t n e c >>= assigned x)
  assign_is n at x e c =
      bracketed (evaluate t n Permitted c.state e) _ _
      ∙ sym (evaluated_then n e c (λ v d. gives (in_state (with_store (assign x v d.state.store) d.state) d)))

  pub assume_is : (n : ℕ) (at : Place) (e : Expr) (c : Config) → begun t n (syntax.Assume at e) c ≡ (evaluated t n e c >>= assumed (place_of e))
  assume_is n at e c =
      let m = evaluate t n Permitted c.state e in
      bracketed m _ _
      ∙ (λ i. m >>= λ v. bracketed (require (is_true v) (Stopped (place_of e))) (λ _. gives c.state) (λ s. gives (in_state s c)) i)
      ∙ sym (evaluated_then n e c (λ v d. require (is_true v) (Stopped (place_of e)) >>= λ _. gives d))

  pub call_is : (n : ℕ) (at : Place) (xs : List Name) (m : Name) (es : Exprs) (c : Config) → begun t n (syntax.Call at xs m es) c ≡ (evaluated_all t n es c >>= tasks.calling t n at xs m)
  call_is n at xs m es c =
      let k = evaluate_all t n Permitted c.state es in
      bracketed k _ _
      ∙ (λ i. k >>= λ vs. bracketed (expect (method_named t.program m) (Failed at)) (λ d. tasks.called t n (around c.callers) at c.state xs d vs) (λ s. gives (in_state s c)) i)
      ∙ sym (all_then n es c (λ vs d. expect (method_named t.program m) (Failed at) >>= λ f. tasks.called_by t n at xs f vs d))

  -- a new reference, field by field
  fields_are : (a : Around) (n r : ℕ) (fs : List Name) (s : State) →
      whole.new_fields t.program by_draws within_128_bits t.steps n (bodies_by t (n - 1)) a r fs s ≡ tasks.new_fields t.program r fs s
  fields_are a n r [] s = refl
  fields_are a n r (f ∷ fs) s =
      let m = chosen by_draws (field_type t.program f) in
      (λ i. m >>= λ v. fields_are a n r fs (tasks.with_field r f v s) i)
      ∙ sym (bracketed m (λ v. gives (tasks.with_field r f v s)) (tasks.new_fields t.program r fs))

  pub new_is : (n : ℕ) (at : Place) (x : Name) (fs : List Name) (c : Config) → begun t n (syntax.New at x fs) c ≡ tasks.made t.program x fs c
  new_is n at x fs c =
      let r = fresh (around c.callers) c.state in
      ap (put c) (fields_are (around c.callers) n r fs (with_store (assign x (RefValue r) c.state.store) c.state))

  -- two values
  second_then : (n : ℕ) (e : Expr) (c : Config) (v : Value) (f : Value → Value → Config → Going ℕ Config) →
      (evaluated t n e (record c { values = v ∷ c.values }) >>= λ d. with_two d f) ≡ (evaluate t n Permitted c.state e >>= λ w. f v w c)
  second_then n e c v f = evaluated_then n e (record c { values = v ∷ c.values }) (λ w d. with_one d (λ u. f u w))

  pub two_then : (n : ℕ) (e f : Expr) (c : Config) (g : Value → Value → Config → Going ℕ Config) →
      (evaluated t n e c >>= before (evaluated t n f) (λ d. with_two d g)) ≡ (evaluate t n Permitted c.state e >>= λ v. evaluate t n Permitted c.state f >>= λ w. g v w c)
  two_then n e f c g =
      let m = evaluate t n Permitted c.state e in
      bracketed (within blame.Itself m) _ _
      ∙ ap (λ (k : Going ℕ Value). k >>= λ v. before (evaluated t n f) (λ d. with_two d g) (record c { values = v ∷ c.values })) (itself m)
      ∙ (λ i. m >>= λ v. second_then n f c v g i)

  pub write_is : (n : ℕ) (at : Place) (e : Expr) (x : Name) (e' : Expr) (c : Config) →
      begun t n (syntax.Write at e x e') c ≡ (evaluated t n e c >>= before (evaluated t n e') (wrote at x))
  write_is n at e x e' c =
      let m = evaluate t n Permitted c.state e in
      let k = evaluate t n Permitted c.state e' in
      bracketed m _ _
      ∙ (λ i. m >>= λ r. bracketed k (λ v. written at x r v c.state) (λ s. gives (in_state s c)) i)
      ∙ sym (two_then n e e' c (λ r v d. put d (written at x r v d.state)))

  -- what is taken
  pub taken_then : (k : Within) (q : Fraction) (e : Assertion) (c : Config) (f : Holdings → Config → Going ℕ Config) →
      (taking t k q e c >>= λ d. with_taking d f) ≡ (within k.blame (tasks.take_of t k.level q e c.state) >>= λ h. f h c)
  taken_then k q e c f = taking_then k.blame (tasks.take_of t k.level q e c.state) c f

  pub plainly_taken : (n : ℕ) (q : Fraction) (e : Assertion) (c : Config) (f : Holdings → Config → Going ℕ Config) →
      (taking t (plainly n) q e c >>= λ d. with_taking d f) ≡ (tasks.take_of t n q e c.state >>= λ h. f h c)
  plainly_taken n q e c f = taken_then (plainly n) q e c f ∙ ap (λ (m : Going ℕ Holdings). m >>= λ h. f h c) (itself (tasks.take_of t n q e c.state))

  pub exhale_is : (n : ℕ) (at : Place) (x : Assertion) (c : Config) →
      begun t n (syntax.Exhale at x) c ≡ (taking t (plainly n) full x c >>= λ d. with_taking d (λ h e. gives (in_state (with_holdings h e.state) e)))
  exhale_is n at x c =
      bracketed (tasks.take_of t n full x c.state) _ _ ∙ sym (plainly_taken n full x c (λ h e. gives (in_state (with_holdings h e.state) e)))

  pub assert_is : (n : ℕ) (at : Place) (x : Assertion) (c : Config) → begun t n (syntax.Assert at x) c ≡ (taking t (plainly n) full x c >>= λ d. with_taking d (λ h e. gives e))
  assert_is n at x c = bracketed (tasks.take_of t n full x c.state) _ _ ∙ sym (plainly_taken n full x c (λ h e. gives e))

  pub inhale_is : (n : ℕ) (at : Place) (x : Assertion) (c : Config) → begun t n (syntax.Inhale at x) c ≡ giving t (plainly n) full x c
  inhale_is n at x c = ap (put c) (sym (itself (tasks.give_of t n c.callers full x c.state)))

  -- instances: the amount, and then the arguments
  shared : (n : ℕ) (at : Place) (i : Name) (es : Exprs) (c : Config) (share : Expr) (g : Instance × Fraction → Going ℕ State) →
      (whole.instance_at t.program by_draws within_128_bits t.steps n (bodies_by t (n - 1)) (around c.callers) c.state at i es share >>= g)
      ≡ (evaluate t n Permitted c.state share >>= λ v. tasks.instance_of t n at i es v c.state >>= g)
  shared n at i es c share g =
      let m = evaluate t n Permitted c.state share in
      let rest = λ (q : Fraction). evaluate_all t n Permitted c.state es >>= λ vs. gives (record { predicate = i; arguments = vs }, q) in
      bracketed m _ g ∙ (λ k. m >>= λ v. ap (λ (o : Going ℕ (Instance × Fraction)). o >>= g) (amount_first at v rest) k)

  pub fold_is : (n : ℕ) (at : Place) (i : Name) (es : Exprs) (share : Expr) (c : Config) → begun t n (syntax.Fold at i es share) c ≡ (evaluated t n share c >>= tasks.to_fold t n at i es)
  fold_is n at i es share c =
      let m = evaluate t n Permitted c.state share in
      let f = λ (v : Value). tasks.instance_of t n at i es v c.state in
      let g = tasks.fold_it t n (around c.callers) at c.state in
      ap (put c) (shared n at i es c share g)
      ∙ bracketed m (λ v. f v >>= g) (λ s. gives (in_state s c))
      ∙ sym (evaluated_then n share c (λ v d. put d (tasks.instance_of t n at i es v d.state >>= tasks.fold_it t n (around d.callers) at d.state)))

  pub unfold_is : (n : ℕ) (at : Place) (i : Name) (es : Exprs) (share : Expr) (c : Config) → begun t n (syntax.Unfold at i es share) c ≡ (evaluated t n share c >>= tasks.to_unfold t n at i es)
  unfold_is n at i es share c =
      let m = evaluate t n Permitted c.state share in
      let f = λ (v : Value). tasks.instance_of t n at i es v c.state in
      let g = tasks.unfold_it t n (around c.callers) at c.state in
      ap (put c) (shared n at i es c share g)
      ∙ bracketed m (λ v. f v >>= g) (λ s. gives (in_state s c))
      ∙ sym (evaluated_then n share c (λ v d. put d (tasks.instance_of t n at i es v d.state >>= tasks.unfold_it t n (around d.callers) at d.state)))

  -- branches and loops
  as_scoped : (n : ℕ) (a : Around) (b : Block) → n ≢ 0 → whole.scoped t.program by_draws within_128_bits t.steps n (bodies_by t (n - 1)) a (run_all n a b) ≡ scoped t n a b
  as_scoped n a b h = λ i s. sym (body_is n a b s h) i >>= λ u. gives (leave (length s.store) u)

  pub if_is : (n : ℕ) (at : Place) (e : Expr) (x y : Block) (c : Config) → n ≢ 0 → begun t n (syntax.If at e x y) c ≡ (evaluated t n e c >>= tasks.branched t n x y)
  if_is n at e x y c h =
      let m = evaluate t n Permitted c.state e in
      bracketed m _ _
      ∙ (λ i. m >>= λ v. put c (when (is_true v) (as_scoped n (around c.callers) x h i c.state) (as_scoped n (around c.callers) y h i c.state)))
      ∙ sym (evaluated_then n e c (branch t n x y))

  pub while_is : (n : ℕ) (at : Place) (e : Expr) (is : List Assertion) (b : Block) (c : Config) → n ≢ 0 → begun t n (syntax.While at e is b) c ≡ looped t n n e b c
  while_is n at e is b c h =
      ap (λ (f : State → Going ℕ State). put c (whole.again t.program by_draws within_128_bits t.steps n (bodies_by t (n - 1)) (around c.callers) n e f c.state))
      (as_scoped n (around c.callers) b h)

  pub scope_is : (n : ℕ) (b : Block) (c : Config) → put c (scoped t n (around c.callers) b c.state) ≡ (body t n b c >>= left (length c.state.store))
  scope_is n b c =
      let m = bodies_by t n (around c.callers) b c.state in
      bracketed m (λ u. gives (leave (length c.state.store) u)) (λ s. gives (in_state s c))
      ∙ sym (bracketed m (λ s. gives (in_state s c)) (left (length c.state.store)))

  -- a round is left
  pub again_is : (n k : ℕ) (e : Expr) (b : Block) (c : Config) → k ≢ 0 → looped t n k e b c ≡ (step >>= λ _. evaluated t n e c >>= tasks.rounded t n (k - 1) e b)
  again_is n zero e b c h = absurd (h refl)
  again_is n (suc k) e b c h =
      let less : k ≡ suc k - 1 = omega arith in
      let m = evaluate t n Permitted c.state e in
      bracketed step _ _
      ∙ (λ i. step >>= λ _. bracketed m (λ v. round t n (around c.callers) k e b v c.state) (λ s. gives (in_state s c)) i)
      ∙ (λ i. step >>= λ _. sym (evaluated_then n e c (one_round t n k e b)) i)
      ∙ ap (λ (j : ℕ). step >>= λ _. evaluated t n e c >>= tasks.rounded t n j e b) less

  pub round_is : (n k : ℕ) (e : Expr) (b : Block) (c : Config) →
      put c (scoped t n (around c.callers) b c.state >>= again t n (around c.callers) k e b) ≡ (put c (scoped t n (around c.callers) b c.state) >>= looped t n k e b)
  round_is n k e b c =
      let m = scoped t n (around c.callers) b c.state in
      bracketed m (again t n (around c.callers) k e b) (λ s. gives (in_state s c)) ∙ sym (bracketed m (λ s. gives (in_state s c)) (looped t n k e b))

  -- Steps, from where a run is

  module _ (n : ℕ) (c : Config) (k : Config → Going ℕ Config) where
    pub branch_true : (x y : Block) (v : Value) (kept : ℕ) (l : Supply ℕ) → is_true v ≡ true → kept ≡ length c.state.store →
        before (body t n x) (before (left kept) k) c l ≡ before (branch t n x y v) k c l
    branch_true x y v kept l e len =
        ap (λ (o : Going ℕ Config). o l) (sym (before_two (body t n x) (left kept) k c (branch t n x y v c)
        (ap (λ (b : Bool). put c (when b (scoped t n (around c.callers) x c.state) (scoped t n (around c.callers) y c.state))) e ∙ scope_is n x c ∙ ap (λ (j : ℕ). body t n x c >>= left j) (sym len))))

    pub branch_false : (x y : Block) (v : Value) (kept : ℕ) (l : Supply ℕ) → is_true v ≡ false → kept ≡ length c.state.store →
        before (body t n y) (before (left kept) k) c l ≡ before (branch t n x y v) k c l
    branch_false x y v kept l e len =
        ap (λ (o : Going ℕ Config). o l) (sym (before_two (body t n y) (left kept) k c (branch t n x y v c)
        (ap (λ (b : Bool). put c (when b (scoped t n (around c.callers) x c.state) (scoped t n (around c.callers) y c.state))) e ∙ scope_is n y c ∙ ap (λ (j : ℕ). body t n y c >>= left j) (sym len))))

    pub round_true : (j : ℕ) (e : Expr) (b : Block) (v : Value) (kept : ℕ) (l : Supply ℕ) → is_true v ≡ true → kept ≡ length c.state.store →
        before (body t n b) (before (left kept) (before (looped t n j e b) k)) c l ≡ before (one_round t n j e b v) k c l
    round_true j e b v kept l h len =
        let a = around c.callers in
        ap (λ (o : Going ℕ Config). o l) (sym (
        ap (λ (z : Bool). put c (when z (scoped t n a b c.state >>= again t n a j e b) (gives c.state)) >>= k) h
        ∙ ap (λ (o : Going ℕ Config). o >>= k) (round_is n j e b c ∙ ap (λ (o : Going ℕ Config). o >>= looped t n j e b) (scope_is n b c ∙ ap (λ (z : ℕ). body t n b c >>= left z) (sym len)))
        ∙ bracketed (body t n b c >>= left kept) (looped t n j e b) k
        ∙ bracketed (body t n b c) (left kept) (before (looped t n j e b) k)))

    pub round_false : (j : ℕ) (e : Expr) (b : Block) (v : Value) (l : Supply ℕ) → is_true v ≡ false → k c l ≡ before (one_round t n j e b v) k c l
    round_false j e b v l h =
        ap (λ (z : Bool). (put c (when z (scoped t n (around c.callers) b c.state >>= again t n (around c.callers) j e b) (gives c.state)) >>= k) l) (sym h)

    pub again_none : (j : ℕ) (e : Expr) (b : Block) (l : Supply ℕ) → j ≡ 0 → Err Running ≡ before (looped t n j e b) k c l
    again_none j e b l h = ap (λ (i : ℕ). before (looped t n i e b) k c l) (sym h)

    pub again_goes : (j : ℕ) (e : Expr) (b : Block) (l l' : Supply ℕ) → j ≢ 0 → Ok (tt, l') ≡ step l →
        before (evaluated t n e) (before (tasks.rounded t n (j - 1) e b) k) c l' ≡ before (looped t n j e b) k c l
    again_goes j e b l l' h q =
        ap (λ (o : Going ℕ Config). o l') (sym (bracketed (evaluated t n e c) (tasks.rounded t n (j - 1) e b) k))
        ∙ ap (λ (r : Result (Unit {0} × Supply ℕ) Outcome). continued (continued r (λ _. evaluated t n e c >>= tasks.rounded t n (j - 1) e b)) k) q
        ∙ ap (λ (o : Going ℕ Config). (o >>= k) l) (sym (again_is n j e b c h))

    pub again_ends : (j : ℕ) (e : Expr) (b : Block) (l : Supply ℕ) (o : Outcome) → j ≢ 0 → Err o ≡ step l → Err o ≡ before (looped t n j e b) k c l
    again_ends j e b l o h q =
        ap (λ (r : Result (Unit {0} × Supply ℕ) Outcome). continued (continued r (λ _. evaluated t n e c >>= tasks.rounded t n (j - 1) e b)) k) q
        ∙ ap (λ (m : Going ℕ Config). (m >>= k) l) (sym (again_is n j e b c h))

    pub body_none : (b : Block) (l : Supply ℕ) → n ≡ 0 → Err Running ≡ before (body t n b) k c l
    body_none b l h = ap (λ (i : ℕ). before (body t i b) k c l) (sym h)

    pub body_done : (l : Supply ℕ) → n ≢ 0 → k c l ≡ before (body t n Done) k c l
    body_done l h = ap (λ (o : Going ℕ Config). (o >>= k) l) (sym (done_is n c h))

    pub body_goes : (x : Stmt) (y : Block) (l l' : Supply ℕ) → n ≢ 0 → Ok (tt, l') ≡ step l →
        before (begun t n x) (before (body t n y) k) c l' ≡ before (body t n (Then x y)) k c l
    body_goes x y l l' h q =
        ap (λ (o : Going ℕ Config). o l') (sym (bracketed (begun t n x c) (body t n y) k))
        ∙ ap (λ (r : Result (Unit {0} × Supply ℕ) Outcome). continued (continued r (λ _. begun t n x c >>= body t n y)) k) q
        ∙ ap (λ (o : Going ℕ Config). (o >>= k) l) (sym (then_is n x y c h))

    pub body_stops : (x : Stmt) (y : Block) (l : Supply ℕ) (o : Outcome) → n ≢ 0 → Err o ≡ step l → Err o ≡ before (body t n (Then x y)) k c l
    body_stops x y l o h q =
        ap (λ (r : Result (Unit {0} × Supply ℕ) Outcome). continued (continued r (λ _. begun t n x c >>= body t n y)) k) q
        ∙ ap (λ (m : Going ℕ Config). (m >>= k) l) (sym (then_is n x y c h))

-- a form of two parts
pub of_parts : (f g k : Config → Going ℕ Config) (c : Config) (l : Supply ℕ) (m : Going ℕ Config) → m ≡ (f c >>= g) → before f (before g k) c l ≡ (m >>= k) l
of_parts f g k c l m e = ap (λ (o : Going ℕ Config). o l) (sym (before_two f g k c m e))

-- a form of three parts
pub of_three : (f g h k : Config → Going ℕ Config) (c : Config) (l : Supply ℕ) (m : Going ℕ Config) → m ≡ (f c >>= before g h) → before f (before g (before h k)) c l ≡ (m >>= k) l
of_three f g h k c l m e = ap (λ (o : Config → Going ℕ Config). before f o c l) (λ i d. sym (bracketed (g d) h k) i) ∙ of_parts f (before g h) k c l m e

-- a statement of code begins with two parts, with one, and with three
module _ (t : Setting) (n : ℕ) (x y : Stmt') (k : Config → Going ℕ Config) (c : Config) (l : Supply ℕ) (is : x ≡ y) where
  pub begins : (f g : Config → Going ℕ Config) → begun t n (stmt y) c ≡ (f c >>= g) → before f (before g k) c l ≡ before (begun t n (stmt x)) k c l
  begins f g e = of_parts f g k c l (begun t n (stmt y) c) e ∙ ap (λ (z : Stmt'). before (begun t n (stmt z)) k c l) (sym is)

  pub begins_one : (f : Config → Going ℕ Config) → begun t n (stmt y) c ≡ f c → before f k c l ≡ before (begun t n (stmt x)) k c l
  begins_one f e = ap (λ (m : Going ℕ Config). (m >>= k) l) (sym e) ∙ ap (λ (z : Stmt'). before (begun t n (stmt z)) k c l) (sym is)

  pub begins_three : (f g h : Config → Going ℕ Config) → begun t n (stmt y) c ≡ (f c >>= before g h) → before f (before g (before h k)) c l ≡ before (begun t n (stmt x)) k c l
  begins_three f g h e = ap (λ (o : Config → Going ℕ Config). before f o c l) (λ i d. sym (bracketed (g d) h k) i) ∙ begins f (before g h) e
