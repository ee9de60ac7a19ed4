-- Back from a call: the postcondition is given beside the run by contracts, which goes on from any change.
use Rattle.std.proofs.Common.{◌≡◌, List, ◌++◌, Option, Some, None, refl, sym, subst}
use Rattle.std.specs.Prelude.{Ok}
use Rattle.vx_ast.specs.declared.Place.{Place}
use Rattle.vx_frac.specs.Fractions.{full}
use Rattle.vx_ast.specs.Syntax.{Name, Program, Method, Exprs, Assertion, Call, method_named}
use Rattle.vx_meaning.specs.Values.{Value}
use Rattle.vx_meaning.specs.States.{State, Heap, Holdings, HaveTypes, bind, assign_all, with_store}
use Rattle.vx_meaning.specs.Consistent.{IsConsistent}
use Rattle.vx_meaning.specs.Fits.{placed, fit_all, take_by, deeper, Eventually}
use Rattle.vx_meaning.specs.Outcomes.{Outcome, Ends, FailsAt, Outcomes, ends, passes, checked, goes_on, is_over, and_then, failing_at}
use Rattle.vx_meaning.specs.Give.{give}
use Rattle.vx_meaning.specs.Fails.{precondition_of, postcondition_of}
use Rattle.vx_meaning.specs.Around.{Around, nobody}
use Rattle.vx_meaning.specs.Run.{run, call_beside, return_from_beside}
use Rattle.vx_types.specs.Typing.{Scope, TargetsHaveTypes}
use Rattle.vx_sound_preds.proofs.Grouped.{NoDebts}
use Rattle.vx_sound_preds.proofs.Holding.{TypedAll}
use Rattle.vx_sound_preds.proofs.Typed.{good_bodies}
use Rattle.vx_runs.specs.Whole.{back_in}
use Rattle.vx_runs.proofs.Surely.{Surely, surely_map}
use Rattle.vx_runs.proofs.Followed.{Any, Sane, Agree, Alike, Shadow, Follows, NeverFails, After, Goes}
use Rattle.vx_runs.proofs.Together.{Takes}
use Rattle.vx_runs.proofs.Agreeing.{agree_self, agree_fewer, agree_then, agree_from, sane_there}
use Rattle.vx_runs.proofs.Stores.{store_both, store_bound, store_all_assigned}
use Rattle.vx_runs.proofs.Laws.{Laws}
use Rattle.vx_runs.proofs.Beneath.{seen, Beneath, IsBeneath, fewer_less, sane_alone}
use Rattle.vx_runs.proofs.Takings.{Left, left_over, kept_sane, kept_agrees}
use Rattle.vx_runs.proofs.Locals.{IsFollowed}

-- a call of a method that is there
pub to_called : (p : Program) (s : State) (at : Place) (xs : List Name) (x : Name) (m : Method) (vs : List Value) (o : Outcome) → method_named p x ≡ Some m →
    checked (λ n. placed at (take_by p n (with_store (bind m.parameters vs) s) full (precondition_of m) s.holdings)) (return_from_beside p nobody s at xs m vs) o → call_beside p nobody s at xs x vs o
to_called p s at xs x m vs o named k = subst (λ (z : Option Method). called z o) (sym named) k
  where
    called : Option Method → Outcomes
    called None o = ⊥
    called (Some c) o = checked (λ n. placed at (take_by p n (with_store (bind c.parameters vs) s) full (precondition_of c) s.holdings)) (return_from_beside p nobody s at xs c vs) o

module _ (p : Program) (l : Laws p) (at : Place) (xs : List Name) (x : Name) (es : Exprs) (m : Method) (named : method_named p x ≡ Some m) (vs us : List Value) (tv : HaveTypes m.parameters vs) (tu : HaveTypes m.returns us)
    {ds : Scope} {a : Around} {keeps : Holdings} (Before : State → Type 0) {w : State} (targets : TargetsHaveTypes p ds xs m.returns) (entries : Holdings) (typed : TypedAll p Any entries) (takes : Takes entries)
    (f : Follows p ds a keeps (λ s. Before s × Eventually (λ n. fit_all p (deeper p n) s es ≡ Ok vs)) w) (debts : NoDebts (entries ++ f.less))
    (each : (h : Heap) → Agree p w.heap f.less h → Surely (IsBeneath p ds (λ s. Before s × Eventually (λ n. fit_all p (deeper p n) s es ≡ Ok vs)) w f.less f.old_less
    (λ g old. Eventually (λ n. placed at (take_by p n (with_store (bind m.parameters vs) (seen w f.less f.old_less g old)) full (precondition_of m) f.less) ≡ Ok (entries ++ f.less))) h))
    (never : NeverFails Before (run p (Call at xs x es))) where
  abbrev Fitting : State → Type 0
  Fitting s = Before s × Eventually (λ n. fit_all p (deeper p n) s es ≡ Ok vs)

  abbrev state_in : Heap → Holdings → Heap → Holdings → State
  state_in h hs o old = record { store = bind m.parameters vs ++ bind m.returns us; heap = h; holdings = hs; old_heap = o; old_holdings = old }

  -- where the run by contracts gives the postcondition
  pub record Returning (u : State) : Type 0 where
    pub heap : Heap
    pub old : Heap
    pub beneath : Beneath p ds (λ s. Before s × Eventually (λ n. fit_all p (deeper p n) s es ≡ Ok vs)) w f.less f.old_less w.heap heap old
    pub taken : Eventually (λ n. placed at (take_by p n (with_store (bind m.parameters vs) (seen w f.less f.old_less heap old)) full (precondition_of m) f.less) ≡ Ok (entries ++ f.less))
    pub agree : Agree p heap (entries ++ f.less) u.heap
    pub is : u ≡ record { store = bind m.parameters vs ++ bind m.returns us; heap = u.heap; holdings = entries ++ f.less; old_heap = heap; old_holdings = f.less }

  left : Left p (good_bodies p l.typed) l.kept a keeps w f.less (entries ++ f.less) (entries ++ w.holdings)
  left = left_over p (good_bodies p l.typed) l.kept f entries typed takes debts

  -- the rest of the call by contracts
  call_from : (u : State) (k : Returning u) (o : Outcome) → and_then (failing_at at (give p (IsConsistent p) full (postcondition_of m) u))
      (λ t. ends record { store = assign_all xs us w.store; heap = t.heap; holdings = t.holdings; old_heap = k.old; old_holdings = f.old_less }) o → run p (Call at xs x es) (seen w f.less f.old_less k.heap k.old) o
  call_from u k o rest = passes vs fits (to_called p (seen w f.less f.old_less k.heap k.old) at xs x m vs o named (passes (entries ++ f.less) k.taken (
    u.heap,
    (
      k.agree,
      (
        us,
        (
          tu,
          subst (λ (z : State). and_then (failing_at at (give p (IsConsistent p) full (postcondition_of m) z))
              (λ t. ends record { store = assign_all xs us w.store; heap = t.heap; holdings = t.holdings; old_heap = k.old; old_holdings = f.old_less }) o) k.is rest,
        ),
      ),
    ),
  )))
    where
      fits : Eventually (λ n. fit_all p (deeper p n) (seen w f.less f.old_less k.heap k.old) es ≡ Ok vs)
      fits = let r = k.beneath.reached in r.1

  before : (u : State) (k : Returning u) → Before (seen w f.less f.old_less k.heap k.old)
  before u k = let r = k.beneath.reached in r.0

  pub never_back : NeverFails Returning (give p (IsConsistent p) full (postcondition_of m))
  never_back u k place r = never (seen w f.less f.old_less k.heap k.old) (before u k) at (call_from u k (FailsAt at) (is_over tt ((place, r), refl)))

  module _ (h : Heap) (agree : Agree p w.heap (a.holdings ++ (entries ++ w.holdings)) h) where
    less_agrees : Agree p w.heap (entries ++ f.less) h
    less_agrees = agree_fewer p (good_bodies p l.typed) w.heap h (entries ++ f.less) (a.holdings ++ (entries ++ w.holdings)) left.sane left.whole left.within agree

    less_sane : Sane p h (entries ++ f.less)
    less_sane = sane_there p (good_bodies p l.typed) l.kept w.heap h (entries ++ f.less) left.sane less_agrees

    pub returning_follows : Follows p (m.parameters ++ m.returns) a keeps Returning record { store = bind m.parameters vs ++ bind m.returns us; heap = h; holdings = entries ++ w.holdings; old_heap = w.heap; old_holdings = w.holdings }
    returning_follows = record {
      store = store_both m.parameters m.returns (bind m.parameters vs) (bind m.returns us) (store_bound m.parameters vs tv) (store_bound m.returns us tu);
      whole = sane_there p (good_bodies p l.typed) l.kept w.heap h (a.holdings ++ (entries ++ w.holdings)) left.whole agree;
      debts = left.debts;
      around = f.around;
      kept_debts = f.kept_debts;
      kept_typed = f.kept_typed;
      less = entries ++ f.less;
      old_less = f.less;
      fewer = left.fewer;
      sane = less_sane;
      old_whole = sane_alone p (good_bodies p l.typed) l.kept f;
      old_fewer = fewer_less p (good_bodies p l.typed) l.kept f;
      old_sane = f.sane;
      shadow = λ g same. surely_map (each w.heap (agree_self p w.heap f.less)) (λ b. (
        record { store = bind m.parameters vs ++ bind m.returns us; heap = g; holdings = entries ++ f.less; old_heap = b.0; old_holdings = f.less },
        record {
          reached = record {
            heap = b.0;
            old = b.1;
            beneath = b.2;
            taken = b.3;
            agree = agree_from p (good_bodies p l.typed) l.kept w.heap b.0 g (entries ++ f.less) left.sane b.2.heap (agree_then p (good_bodies p l.typed) l.kept w.heap h g (entries ++ f.less) left.sane less_agrees same);
            is = refl;
          };
          store = refl;
          holdings = refl;
          heap = λ z. refl;
          old_holdings = refl;
          old_heap = b.2.agree;
        },
      ));
    }

    -- the caller goes on
    caller_follows : (t : State) → Follows p (m.parameters ++ m.returns) a keeps (After (give p (IsConsistent p) full (postcondition_of m)) Returning) t →
        Follows p ds a keeps (After (run p (Call at xs x es)) Before) record { store = assign_all xs us w.store; heap = t.heap; holdings = t.holdings; old_heap = w.old_heap; old_holdings = w.old_holdings }
    caller_follows t k = record {
      store = store_all_assigned p ds w.store xs m.returns us f.store targets tu;
      whole = k.whole;
      debts = k.debts;
      around = f.around;
      kept_debts = f.kept_debts;
      kept_typed = f.kept_typed;
      less = k.less;
      old_less = f.old_less;
      fewer = k.fewer;
      sane = k.sane;
      old_whole = f.old_whole;
      old_fewer = f.old_fewer;
      old_sane = f.old_sane;
      shadow = λ g same. surely_map (k.shadow g same) (λ b. caller_shadow g b.0 b.1.reached b.1.holdings b.1.heap);
    }
      where
        caller_shadow : (g : Heap) (s : State) → After (give p (IsConsistent p) full (postcondition_of m)) Returning s → s.holdings ≡ k.less → Alike p g s.heap →
            (z : State) × Shadow p (After (run p (Call at xs x es)) Before) record { store = assign_all xs us w.store; heap = t.heap; holdings = t.holdings; old_heap = w.old_heap; old_holdings = w.old_holdings } k.less f.old_less g z
        caller_shadow g s r hs alike = (
          record { store = assign_all xs us w.store; heap = s.heap; holdings = s.holdings; old_heap = r.1.old; old_holdings = f.old_less },
          record {
            reached = (seen w f.less f.old_less r.1.heap r.1.old, before r.0 r.1, call_from r.0 r.1 (Ends record { store = assign_all xs us w.store; heap = s.heap; holdings = s.holdings; old_heap = r.1.old; old_holdings = f.old_less }) (goes_on s r.2 refl));
            store = refl;
            holdings = hs;
            heap = alike;
            old_holdings = refl;
            old_heap = r.1.beneath.old_heap;
          },
        )

    pub back_goes : (into : Assertion → State → Outcomes) → Goes p (m.parameters ++ m.returns) a keeps (After (give p (IsConsistent p) full (postcondition_of m)) Returning)
        record { store = bind m.parameters vs ++ bind m.returns us; heap = h; holdings = entries ++ w.holdings; old_heap = w.heap; old_holdings = w.holdings }
        (into (postcondition_of m) record { store = bind m.parameters vs ++ bind m.returns us; heap = h; holdings = entries ++ w.holdings; old_heap = w.heap; old_holdings = w.holdings }) →
        Goes p ds a keeps (After (run p (Call at xs x es)) Before) w (back_in p a w at xs m vs (entries ++ w.holdings) h us into)
    back_goes into g = record { fine = fine; on = λ t r. on t r }
      where
        fine : (place : Place) → back_in p a w at xs m vs (entries ++ w.holdings) h us into (FailsAt place) → ⊥
        fine place (goes_on t first rest) = rest
        fine place (is_over over first) = let r = first.0 in g.fine r.0 r.1

        kept_here : Agree p w.heap (a.holdings ++ keeps) h
        kept_here = kept_agrees p (good_bodies p l.typed) l.kept f w.heap h (entries ++ f.less) (entries ++ w.holdings) debts left.fewer left.whole agree

        on : (t : State) → back_in p a w at xs m vs (entries ++ w.holdings) h us into (Ends t) → Surely (IsFollowed p ds a keeps (After (run p (Call at xs x es)) Before) w t)
        on t (goes_on u first rest) = surely_map (g.on u first) (λ k. subst (IsFollowed p ds a keeps (After (run p (Call at xs x es)) Before) w) (sym rest)
            (caller_follows u k.0, agree_then p (good_bodies p l.typed) l.kept w.heap h u.heap (a.holdings ++ keeps) (kept_sane p (good_bodies p l.typed) l.kept f w.heap f.less w.holdings f.sane.debts f.fewer f.whole) kept_here k.1))
        on t (is_over over first) = absurd over
