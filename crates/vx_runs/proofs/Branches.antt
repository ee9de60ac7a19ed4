-- Blocks with variables of their own, and conditions: they go where their parts do.
use Rattle.std.proofs.Common.{◌≡◌, ℕ, suc, true, false, ◌⊎◌, inl, inr, List, ◌++◌, length, take, refl, sym, ap, subst}
use Rattle.std.specs.Prelude.{Ok}
use Rattle.vx_ast.specs.declared.Place.{Place}
use Rattle.vx_ast.specs.declared.ValueType.TheVariants as type
use Rattle.vx_ast.specs.Syntax.{Program, Expr, Assertion, Block, Done, Then, Stmt, If, While}
use Rattle.vx_meaning.specs.Values.{is_true}
use Rattle.vx_meaning.specs.States.{State, Holdings, leave}
use Rattle.vx_meaning.specs.Fits.{fit_by, Eventually}
use Rattle.vx_meaning.specs.Outcomes.{Outcome, Ends, FailsAt, Stops, Outcomes, ends, checked, passes, refused, and_then, goes_on, is_over, IsOver}
use Rattle.vx_meaning.specs.Give.{side}
use Rattle.vx_meaning.specs.Around.{Around}
use Rattle.vx_meaning.specs.Run.{run, run_all, run_in, run_all_in, scoped}
use Rattle.vx_types.specs.Typing.{Scope, scope_after, scope_after_all}
use Rattle.vx_types.specs.Premises.{IsTypedProgram}
use Rattle.vx_elements.proofs.Scopes.{scope_more, joined_typed}
use Rattle.vx_sound_preds.proofs.Typed.{good_bodies}
use Rattle.vx_runs.specs.Whole.{wholly, bodies_by}
use Rattle.vx_runs.proofs.Followed.{SaneKept, FitsRise, TakesRise, TakenIsGiven, Agree, StoreOf, Follows, Goes, NeverFails, After, StmtGoes, BlockGoes}
use Rattle.vx_runs.proofs.Surely.{Surely, surely, surely_then, surely_map}
use Rattle.vx_runs.proofs.Agreeing.{agree_self, agree_then}
use Rattle.vx_runs.proofs.Stores.{store_first}
use Rattle.vx_runs.proofs.Beneath.{on_true, on_false, side_ends, follows_by}
use Rattle.vx_runs.proofs.Takings.{kept_sane}
use Rattle.vx_runs.proofs.Loops.{loop_goes}
use Rattle.vx_runs.proofs.Decided.{refined, Decided, decided}

-- what is shown of each outcome
abbrev pub GoesTo : (p : Program) (ds : Scope) (a : Around) (kept : Holdings) (Next : State → Type 0) (w : State) → Outcome → Type 0
GoesTo p ds a kept Next w (Ends t) = Follows p ds a kept Next t × Agree p w.heap (a.holdings ++ kept) t.heap
GoesTo p ds a kept Next w (FailsAt at) = ⊥
GoesTo p ds a kept Next w Stops = Unit {0}

pub goes_to : {p : Program} {ds : Scope} {a : Around} {kept : Holdings} {Next : State → Type 0} {w : State} {whole : Outcomes} → Goes p ds a kept Next w whole → (o : Outcome) → whole o → Surely (GoesTo p ds a kept Next w o)
goes_to g (Ends t) r = g.on t r
goes_to g (FailsAt at) r = absurd (g.fine at r)
goes_to g Stops r = surely tt

pub to_goes : {p : Program} {ds : Scope} {a : Around} {kept : Holdings} {Next : State → Type 0} {w : State} {whole : Outcomes} → ((o : Outcome) → whole o → Surely (GoesTo p ds a kept Next w o)) → Goes p ds a kept Next w whole
to_goes h = record { fine = λ at r. h (FailsAt at) r (λ k. k); on = λ t r. h (Ends t) r }

pub to_by : (p : Program) (ds : Scope) (a : Around) (kept : Holdings) (First Next : State → Type 0) (w : State) → ((s : State) → First s → Next s) → (o : Outcome) → GoesTo p ds a kept First w o → GoesTo p ds a kept Next w o
to_by p ds a kept First Next w by (Ends t) k = (follows_by First Next by k.0, k.1)
to_by p ds a kept First Next w by (FailsAt at) k = k
to_by p ds a kept First Next w by Stops k = k

module _ (p : Program) (typed : IsTypedProgram p) (kept_sane' : SaneKept p) (rise : FitsRise p) where
  -- the block's own variables are forgotten
  left : {ds : Scope} {a : Around} {kept : Holdings} {Reached : State → Type 0} {w : State} (b : Block) → Follows p ds a kept Reached w → (t : State) → Follows p (scope_after_all p b ds) a kept (After (run_all p b) (λ s. Reached s × (length s.store ≡ length w.store))) t →
      Follows p ds a kept (After (scoped p (run_all p b)) Reached) (leave (length w.store) t)
  left {ds = ds} {Reached = Reached} {w = w} b f t g = record {
    store = (let m = scope_more p b ds in store_first ds m.0 w.store t.store f.store (subst (λ (z : Scope). StoreOf z t.store) m.1 g.store));
    whole = g.whole;
    debts = g.debts;
    around = g.around;
    kept_debts = g.kept_debts;
    kept_typed = g.kept_typed;
    less = g.less;
    old_less = g.old_less;
    fewer = g.fewer;
    sane = g.sane;
    old_whole = g.old_whole;
    old_fewer = g.old_fewer;
    old_sane = g.old_sane;
    shadow = λ h agree. surely_map (g.shadow h agree) (λ x. (
      leave (length w.store) x.0,
      (let k = x.1 in record {
        reached = (k.reached.0, k.reached.1.0, goes_on x.0 k.reached.2 (ap (λ (n : ℕ). leave n x.0) (sym k.reached.1.1)));
        store = ap (take (length w.store)) k.store;
        holdings = k.holdings;
        heap = k.heap;
        old_holdings = k.old_holdings;
        old_heap = k.old_heap;
      }),
    ));
  }

  -- a block within a scope of its own
  pub scoped_goes : (b : Block) {ds : Scope} {a : Around} {kept : Holdings} {Reached : State → Type 0} {w : State} (block : Outcomes) → Follows p ds a kept Reached w → NeverFails Reached (scoped p (run_all p b)) →
      ((R : State → Type 0) → Follows p ds a kept R w → NeverFails R (run_all p b) → Goes p (scope_after_all p b ds) a kept (After (run_all p b) R) w block) →
      Goes p ds a kept (After (scoped p (run_all p b)) Reached) w (and_then block (λ t. ends (leave (length w.store) t)))
  scoped_goes b {ds = ds} {a = a} {kept = kept} {Reached = Reached} {w = w} block f never goes = to_goes run_to
    where
      g : Goes p (scope_after_all p b ds) a kept (After (run_all p b) (λ s. Reached s × (length s.store ≡ length w.store))) w block
      g = goes (λ s. Reached s × (length s.store ≡ length w.store)) (refined p typed kept_sane' ds a kept Reached (λ s. length s.store ≡ length w.store) w f (λ h s agree k. surely (ap length k.store))) (λ s r at fail. never s r.0 at (is_over tt fail))

      failed : (o : Outcome) → IsOver o → block o → GoesTo p ds a kept (After (scoped p (run_all p b)) Reached) w o
      failed (Ends t) over r = absurd over
      failed (FailsAt at) over r = g.fine at r
      failed Stops over r = tt

      ended : (o : Outcome) (t : State) → ends (leave (length w.store) t) o → Follows p (scope_after_all p b ds) a kept (After (run_all p b) (λ s. Reached s × (length s.store ≡ length w.store))) t × Agree p w.heap (a.holdings ++ kept) t.heap → GoesTo p ds a kept (After (scoped p (run_all p b)) Reached) w o
      ended (Ends u) t e k = subst (λ (z : State). Follows p ds a kept (After (scoped p (run_all p b)) Reached) z × Agree p w.heap (a.holdings ++ kept) z.heap) (sym e) (left b f t k.0, k.1)
      ended (FailsAt at) t e k = e
      ended Stops t e k = absurd e

      run_to : (o : Outcome) → and_then block (λ t. ends (leave (length w.store) t)) o → Surely (GoesTo p ds a kept (After (scoped p (run_all p b)) Reached) w o)
      run_to o (is_over over r) = surely (failed o over r)
      run_to o (goes_on t r e) = surely_map (g.on t r) (ended o t e)

  -- one statement after another
  pub block_goes : (n : ℕ) (st : Stmt) (b : Block) → StmtGoes p n st → BlockGoes p n b → BlockGoes p n (Then st b)
  block_goes n st b first rest ds a kept Reached w ty f never = to_goes run_to
    where
      g : Goes p (scope_after p st ds) a kept (After (run p st) Reached) w (run_in p a (wholly p a (bodies_by p n) (suc n)) st w)
      g = first ds a kept Reached w ty.0 f (λ s r at k. never s r at (is_over tt k))

      -- in the frame
      frame : (t : State) → Follows p (scope_after p st ds) a kept (After (run p st) Reached) t → Agree p w.heap (a.holdings ++ kept) t.heap → (o : Outcome) → GoesTo p (scope_after_all p (Then st b) ds) a kept (After (run_all p b) (After (run p st) Reached)) t o →
          GoesTo p (scope_after_all p (Then st b) ds) a kept (After (run_all p (Then st b)) Reached) w o
      frame t k agree (Ends u) x = (
        follows_by (After (run_all p b) (After (run p st) Reached)) (After (run_all p (Then st b)) Reached) (λ s y. (y.1.0, y.1.1, goes_on y.0 y.1.2 y.2)) x.0,
        agree_then p (good_bodies p typed) kept_sane' w.heap t.heap u.heap (a.holdings ++ kept) (kept_sane p (good_bodies p typed) kept_sane' f w.heap f.less w.holdings (λ r si. let z = f.sane in z.debts r si) f.fewer f.whole) agree x.1,
      )
      frame t k agree (FailsAt at) x = x
      frame t k agree Stops x = tt

      failed : (o : Outcome) → IsOver o → run_in p a (wholly p a (bodies_by p n) (suc n)) st w o → GoesTo p (scope_after_all p (Then st b) ds) a kept (After (run_all p (Then st b)) Reached) w o
      failed (Ends t) over r = absurd over
      failed (FailsAt at) over r = g.fine at r
      failed Stops over r = tt

      run_to : (o : Outcome) → and_then (run_in p a (wholly p a (bodies_by p n) (suc n)) st w) (run_all_in p a (wholly p a (bodies_by p n) (suc n)) b) o → Surely (GoesTo p (scope_after_all p (Then st b) ds) a kept (After (run_all p (Then st b)) Reached) w o)
      run_to o (is_over over r) = surely (failed o over r)
      run_to o (goes_on t r k) = surely_then (g.on t r) (λ x. surely_map
          (goes_to (rest (scope_after p st ds) a kept (After (run p st) Reached) t ty.1 x.0 (λ s y at z. never y.0 y.1 at (goes_on s y.2 z))) o k) (frame t x.0 x.1 o))

  -- a condition
  pub if_goes : (n : ℕ) (at : Place) (c : Expr) (x y : Block) → BlockGoes p n x → BlockGoes p n y → StmtGoes p n (If at c x y)
  if_goes n at c x y gx gy ds a kept Reached w ty f never = to_goes run_to
    where
      on : (o : Outcome) → Decided p typed kept_sane' ds a kept Reached (λ s n. fit_by p n s c) w (λ v. side v (scoped p (run_all_in p a (wholly p a (bodies_by p n) (suc n)) x) w) (scoped p (run_all_in p a (wholly p a (bodies_by p n) (suc n)) y) w)) o →
          Surely (GoesTo p ds a kept (After (run p (If at c x y)) Reached) w o)
      on o d = go (side_ends d.result (scoped p (run_all_in p a (wholly p a (bodies_by p n) (suc n)) x) w) (scoped p (run_all_in p a (wholly p a (bodies_by p n) (suc n)) y) w) o d.on)
        where
          go : ((is_true d.result ≡ true) × scoped p (run_all_in p a (wholly p a (bodies_by p n) (suc n)) x) w o) ⊎ ((is_true d.result ≡ false) × scoped p (run_all_in p a (wholly p a (bodies_by p n) (suc n)) y) w o) → Surely (GoesTo p ds a kept (After (run p (If at c x y)) Reached) w o)
          go (inl k) = surely_map (goes_to (scoped_goes x (run_all_in p a (wholly p a (bodies_by p n) (suc n)) x w) d.follows
              (λ s r place fail. never s r.0 place (passes d.result r.1 (on_true d.result (scoped p (run_all p x) s) (scoped p (run_all p y) s) (FailsAt place) k.0 fail)))
              (λ R f' never'. gx ds a kept R w ty.1 f' never')) o k.1)
              (to_by p ds a kept (After (scoped p (run_all p x)) (λ s. Reached s × Eventually (λ n. fit_by p n s c ≡ Ok d.result))) (After (run p (If at c x y)) Reached) w
              (λ t r. (r.0, r.1.0, passes d.result r.1.1 (on_true d.result (scoped p (run_all p x) r.0) (scoped p (run_all p y) r.0) (Ends t) k.0 r.2))) o)
          go (inr k) = surely_map (goes_to (scoped_goes y (run_all_in p a (wholly p a (bodies_by p n) (suc n)) y w) d.follows
              (λ s r place fail. never s r.0 place (passes d.result r.1 (on_false d.result (scoped p (run_all p x) s) (scoped p (run_all p y) s) (FailsAt place) k.0 fail)))
              (λ R f' never'. gy ds a kept R w ty.2 f' never')) o k.1)
              (to_by p ds a kept (After (scoped p (run_all p y)) (λ s. Reached s × Eventually (λ n. fit_by p n s c ≡ Ok d.result))) (After (run p (If at c x y)) Reached) w
              (λ t r. (r.0, r.1.0, passes d.result r.1.1 (on_false d.result (scoped p (run_all p x) r.0) (scoped p (run_all p y) r.0) (Ends t) k.0 r.2))) o)

      run_to : (o : Outcome) → checked (λ n. fit_by p n w c) (λ v. side v (scoped p (run_all_in p a (wholly p a (bodies_by p n) (suc n)) x) w) (scoped p (run_all_in p a (wholly p a (bodies_by p n) (suc n)) y) w)) o → Surely (GoesTo p ds a kept (After (run p (If at c x y)) Reached) w o)
      run_to o r = surely_then (decided p typed kept_sane' ds a kept Reached (λ s n. fit_by p n s c) w f (λ s u. rise.fits ds w s u c type.Bool ty.0) (λ s r y. never s r y.0 (refused y.0 y.1 refl))
          (λ v. side v (scoped p (run_all_in p a (wholly p a (bodies_by p n) (suc n)) x) w) (scoped p (run_all_in p a (wholly p a (bodies_by p n) (suc n)) y) w)) o r) (on o)

  -- a loop
  pub while_goes : (takes : TakesRise p) (given : TakenIsGiven p) (n : ℕ) (at : Place) (c : Expr) (is : List Assertion) (b : Block) → BlockGoes p n b → StmtGoes p n (While at c is b)
  while_goes takes given n at c is b block ds a kept Reached w ty f never =
      loop_goes p typed kept_sane' rise takes given at c is b ds a kept Reached w ty.0 (joined_typed p ds at is ty.1) f never (bodies_by p n) (suc n) (scoped p (run_all_in p a (wholly p a (bodies_by p n) (suc n)) b))
      (λ kept' R u g fails. scoped_goes b (run_all_in p a (wholly p a (bodies_by p n) (suc n)) b u) g fails (λ R' g' fails'. block ds a kept' R' u ty.2 g' fails'))

  pub done_goes : (n : ℕ) → BlockGoes p n Done
  done_goes n ds a kept Reached w ty f never = to_goes run_to
    where
      run_to : (o : Outcome) → ends w o → Surely (GoesTo p ds a kept (After (run_all p Done) Reached) w o)
      run_to (Ends t) e = surely (subst (λ (z : State). Follows p ds a kept (After (run_all p Done) Reached) z × Agree p w.heap (a.holdings ++ kept) z.heap) (sym e) (follows_by Reached (After (run_all p Done) Reached) (λ s r. (s, r, refl)) f, agree_self p w.heap (a.holdings ++ kept)))
      run_to (FailsAt at) e = absurd e
      run_to Stops e = absurd e
