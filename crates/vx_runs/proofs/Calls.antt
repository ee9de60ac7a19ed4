-- A call goes: its callee's body runs beside one of the callee's starts.
use Rattle.std.proofs.Common.{◌≡◌, ℕ, List, [], ◌++◌, Option, Some, None, refl, sym, subst}
use Rattle.std.specs.Prelude.{Ok}
use Rattle.vx_ast.specs.declared.Place.{Place}
use Rattle.vx_frac.specs.Fractions.{full}
use Rattle.vx_ast.specs.Syntax.{Name, Program, Method, Exprs, Block, Call, method_named}
use Rattle.vx_meaning.specs.Values.{Value}
use Rattle.vx_meaning.specs.States.{State, Heap, Holdings, HaveTypes, bind, with_store}
use Rattle.vx_meaning.specs.Fits.{placed, fit_all, take_by, deeper, Eventually}
use Rattle.vx_meaning.specs.Outcomes.{Outcome, Ends, FailsAt, Stops, Outcomes, IsOver, ends, passes, refused, checked, goes_on, is_over, and_then}
use Rattle.vx_meaning.specs.Give.{give}
use Rattle.vx_meaning.specs.Fails.{postcondition, MethodStarts, precondition_of, postcondition_of}
use Rattle.vx_meaning.specs.Around.{Around, nobody, IsPossible, waits}
use Rattle.vx_meaning.specs.Run.{run, run_all, call_beside, return_from_beside}
use Rattle.vx_types.specs.Typing.{Scope, IsTyped, scope_after_all, TargetsHaveTypes}
use Rattle.vx_amounts.proofs.Amounts.{full-positive}
use Rattle.vx_elements.proofs.Scopes.{joined_typed, typed_longer, scope_more}
use Rattle.vx_sound_preds.proofs.Grouped.{NoDebts}
use Rattle.vx_sound_preds.proofs.Holding.{TypedAll}
use Rattle.vx_runs.proofs.Together.{Takes}
use Rattle.vx_sound_preds.proofs.Typed.{good_bodies}
use Rattle.vx_runs.specs.Whole.{bodies_by, call_whole, by_body, by_contract, back_in, returned, with_values, give_whole, given_back}
use Rattle.vx_runs.proofs.Surely.{Surely, surely, surely_then}
use Rattle.vx_runs.proofs.Followed.{Any, Agree, Took, Follows, NeverFails, After, Goes, BodiesGo, StmtGoes}
use Rattle.vx_runs.proofs.Gone.{gone_is}
use Rattle.vx_runs.proofs.Stores.{store_typed, returned_typed, once_in, in_longer, AreIn}
use Rattle.vx_runs.proofs.Laws.{Laws, all_typed}
use Rattle.vx_runs.proofs.Beneath.{seen, IsBeneath, Same, passing_same, passing, fewer_less, narrowed}
use Rattle.vx_runs.proofs.Takings.{taking}
use Rattle.vx_runs.proofs.Entering.{never_fails, none_more, entered_follows, entered_with}
use Rattle.vx_runs.proofs.Returning.{to_called, Returning, never_back, returning_follows, back_goes}
use Rattle.vx_runs.proofs.Once.{once_goes}
use Rattle.vx_runs.proofs.Branches.{GoesTo, goes_to, to_goes}
use Rattle.vx_runs.proofs.Instances.{rises_placed}
use Rattle.vx_runs.proofs.Folds.{entered_under}

module _ (p : Program) (l : Laws p) (n : ℕ) (bodies : BodiesGo p n) (at : Place) (xs : List Name) (x : Name) (es : Exprs) (m : Method) (named : method_named p x ≡ Some m) where
  post_typed : IsTyped p (m.parameters ++ m.returns) (postcondition_of m)
  post_typed = let t = l.typed.methods x m named in joined_typed p (m.parameters ++ m.returns) m.place m.ensures t.ensures

  pre_typed : IsTyped p m.parameters (precondition_of m)
  pre_typed = let t = l.typed.methods x m named in joined_typed p m.parameters m.place m.requires t.requires

  by_side : (a : Around) (w : State) (vs : List Value) → Option Block → Holdings → Outcomes
  by_side a w vs None left = by_contract p a w at xs m vs left
  by_side a w vs (Some b) left = by_body p a (bodies_by p n) w at xs m vs b left

  of_called : (a : Around) (w : State) (vs : List Value) (o : Outcome) → call_whole p a (bodies_by p n) w at xs x vs o →
      checked (λ n. placed at (take_by p n (with_store (bind m.parameters vs) w) full (precondition_of m) w.holdings)) (by_side a w vs m.body) o
  unfolding by_side
  of_called a w vs o r = subst (λ (z : Option Method). called z o) named r
    where
      run_by : Method → Option Block → Holdings → Outcomes
      run_by c None left = by_contract p a w at xs c vs left
      run_by c (Some b) left = by_body p a (bodies_by p n) w at xs c vs b left

      called : Option Method → Outcomes
      called None o = ⊥
      called (Some c) o = checked (λ n. placed at (take_by p n (with_store (bind c.parameters vs) w) full (precondition_of c) w.holdings)) (run_by c c.body) o

  module _ {ds : Scope} {a : Around} {keeps : Holdings} (Before : State → Type 0) {w : State} (targets : TargetsHaveTypes p ds xs m.returns) (vs : List Value) (tv : HaveTypes m.parameters vs)
      (entries : Holdings) (typed : TypedAll p Any entries) (takes : Takes entries) (f : Follows p ds a keeps (λ s. Before s × Eventually (λ n. fit_all p (deeper p n) s es ≡ Ok vs)) w) (debts : NoDebts (entries ++ f.less))
      (each : (h : Heap) → Agree p w.heap f.less h → Surely (IsBeneath p ds (λ s. Before s × Eventually (λ n. fit_all p (deeper p n) s es ≡ Ok vs)) w f.less f.old_less
      (λ g old. Eventually (λ n. placed at (take_by p n (with_store (bind m.parameters vs) (seen w f.less f.old_less g old)) full (precondition_of m) f.less) ≡ Ok (entries ++ f.less))) h))
      (never : NeverFails Before (run p (Call at xs x es))) where
    -- back with these values
    back_done : (h : Heap) → Agree p w.heap (a.holdings ++ (entries ++ w.holdings)) h → (us : List Value) → HaveTypes m.returns us → (o : Outcome) → back_in p a w at xs m vs (entries ++ w.holdings) h us (give p (IsPossible p a) full) o →
        Surely (GoesTo p ds a keeps (After (run p (Call at xs x es)) Before) w o)
    back_done h agree us tu o r =
        let back = returning_follows p l at xs x es m named vs us tv tu Before targets entries typed takes f debts each never h agree in
        let no_fail = never_back p l at xs x es m named vs us tv tu Before targets entries typed takes f debts each never in
        goes_to (back_goes p l at xs x es m named vs us tv tu Before targets entries typed takes f debts each never h agree (give p (IsPossible p a) full)
        (once_goes p l (m.parameters ++ m.returns) a keeps (Returning p l at xs x es m named vs us tv tu Before targets entries typed takes f debts each never) (back_in_state h us) full (postcondition_of m) full-positive post_typed back no_fail)) o r
      where
        back_in_state : Heap → List Value → State
        back_in_state h us = record { store = bind m.parameters vs ++ bind m.returns us; heap = h; holdings = entries ++ w.holdings; old_heap = w.heap; old_holdings = w.holdings }

    contract_done : (o : Outcome) → by_contract p a w at xs m vs (entries ++ w.holdings) o → Surely (GoesTo p ds a keeps (After (run p (Call at xs x es)) Before) w o)
    contract_done o (h, (agree, (us, (tu, r)))) =
        let back = returning_follows p l at xs x es m named vs us tv tu Before targets entries typed takes f debts each never h agree in
        let no_fail = never_back p l at xs x es m named vs us tv tu Before targets entries typed takes f debts each never in
        goes_to (back_goes p l at xs x es m named vs us tv tu Before targets entries typed takes f debts each never h agree (give_whole p a full)
        (l.gives (m.parameters ++ m.returns) a keeps (Returning p l at xs x es m named vs us tv tu Before targets entries typed takes f debts each never)
        (record { store = bind m.parameters vs ++ bind m.returns us; heap = h; holdings = entries ++ w.holdings; old_heap = w.heap; old_holdings = w.holdings }) full (postcondition_of m) full-positive post_typed back no_fail)) o r

    -- at the body's end
    module _ (b : Block) (is_body : m.body ≡ Some b) where
      returns_in : AreIn m.returns (scope_after_all p b (m.parameters ++ m.returns))
      returns_in =
          let t = l.typed.methods x m named in
          let s = scope_more p b (m.parameters ++ m.returns) in
          subst (AreIn m.returns) (sym s.1) (in_longer m.returns (m.parameters ++ m.returns) s.0 (once_in m.parameters m.returns t.names))

      post_there : IsTyped p (scope_after_all p b (m.parameters ++ m.returns)) (postcondition_of m)
      post_there = let s = scope_more p b (m.parameters ++ m.returns) in subst (λ (z : Scope). IsTyped p z (postcondition_of m)) (sym s.1) (typed_longer p (m.parameters ++ m.returns) s.0 (postcondition_of m) post_typed)

      never_post : NeverFails (After (run_all p b) (MethodStarts p m)) (λ s. checked (λ n. take_by p n s full (postcondition_of m) s.holdings) (λ _. ends s))
      never_post t (s, st, r) place (passes h k e) = e
      never_post t (s, st, r) place (refused other k e) = never_fails p l x m named other (postcondition s t b st is_body r k)

      end_done : (t : State) → Follows p (scope_after_all p b (m.parameters ++ m.returns)) (waits w (entries ++ w.holdings) a) [] (After (run_all p b) (MethodStarts p m)) t → Agree p w.heap ((a.holdings ++ (entries ++ w.holdings)) ++ []) t.heap →
          (o : Outcome) → checked (λ n. take_by p n t full (postcondition_of m) t.holdings) (λ rest. with_values (returned m.returns t.store) (λ us. back_in p a w at xs m vs (entries ++ w.holdings) t.heap us (give p (IsPossible p a) full))) o →
          Surely (GoesTo p ds a keeps (After (run p (Call at xs x es)) Before) w o)
      end_done t g agree o r = surely_then (passing p (good_bodies p l.typed) l.kept (Took p g.less t.holdings) g (λ s n. take_by p n s full (postcondition_of m) s.holdings) (λ n. take_by p n t full (postcondition_of m) t.holdings)
          (λ h old u. l.takes (scope_after_all p b (m.parameters ++ m.returns)) t (seen t g.less g.old_less h old) u full full-positive (postcondition_of m) post_there t.holdings g.less (fewer_less p (good_bodies p l.typed) l.kept g) g.sane.typed g.sane.debts)
          (λ s _. ends s) never_post (λ rest. with_values (returned m.returns t.store) (λ us. back_in p a w at xs m vs (entries ++ w.holdings) t.heap us (give p (IsPossible p a) full))) o r)
          (λ k. by_values (returned m.returns t.store) refl k.on)
        where
          by_values : (z : Option (List Value)) → returned m.returns t.store ≡ z → with_values z (λ us. back_in p a w at xs m vs (entries ++ w.holdings) t.heap us (give p (IsPossible p a) full)) o → Surely (GoesTo p ds a keeps (After (run p (Call at xs x es)) Before) w o)
          by_values None e r = absurd r
          by_values (Some us) e r = back_done t.heap (subst (λ (z : Holdings). Agree p w.heap z t.heap) (none_more (a.holdings ++ (entries ++ w.holdings))) agree) us
              (returned_typed (scope_after_all p b (m.parameters ++ m.returns)) m.returns t.store us (store_typed (scope_after_all p b (m.parameters ++ m.returns)) t.store g.store) returns_in e) o r

      body_done : (o : Outcome) → by_body p a (bodies_by p n) w at xs m vs b (entries ++ w.holdings) o → Surely (GoesTo p ds a keeps (After (run p (Call at xs x es)) Before) w o)
      body_done o (ws, (tw, r)) = go (subst (λ (z : Holdings). and_then (bodies_by p n (waits w (entries ++ w.holdings) a) b (entered_with p l x m named at vs ws tv tw f entries typed takes debts z)) rest o) (gone_is w.holdings (entries ++ w.holdings) record { taken = entries; is = refl }) r)
        where
          rest : State → Outcomes
          rest t = checked (λ n. take_by p n t full (postcondition_of m) t.holdings) (λ left. with_values (returned m.returns t.store) (λ us. back_in p a w at xs m vs (entries ++ w.holdings) t.heap us (give p (IsPossible p a) full)))

          there : Goes p (scope_after_all p b (m.parameters ++ m.returns)) (waits w (entries ++ w.holdings) a) [] (After (run_all p b) (MethodStarts p m)) (entered_with p l x m named at vs ws tv tw f entries typed takes debts (given_back entries))
              (bodies_by p n (waits w (entries ++ w.holdings) a) b (entered_with p l x m named at vs ws tv tw f entries typed takes debts (given_back entries)))
          there = bodies x m b named is_body (waits w (entries ++ w.holdings) a) (entered_with p l x m named at vs ws tv tw f entries typed takes debts (given_back entries)) (entered_follows p l x m named at vs ws tv tw f entries typed takes debts each)

          over_done : (z : Outcome) → IsOver z → bodies_by p n (waits w (entries ++ w.holdings) a) b (entered_with p l x m named at vs ws tv tw f entries typed takes debts (given_back entries)) z → Surely (GoesTo p ds a keeps (After (run p (Call at xs x es)) Before) w z)
          over_done (Ends t) over r = absurd over
          over_done (FailsAt place) over r = absurd (there.fine place r)
          over_done Stops over r = surely tt

          go : and_then (bodies_by p n (waits w (entries ++ w.holdings) a) b (entered_with p l x m named at vs ws tv tw f entries typed takes debts (given_back entries))) rest o → Surely (GoesTo p ds a keeps (After (run p (Call at xs x es)) Before) w o)
          go (goes_on t first then) = surely_then (there.on t first) (λ k. end_done t k.0 k.1 o then)
          go (is_over over first) = over_done o over first

    side_done : (z : Option Block) → m.body ≡ z → (o : Outcome) → by_side a w vs z (entries ++ w.holdings) o → Surely (GoesTo p ds a keeps (After (run p (Call at xs x es)) Before) w o)
    unfolding by_side
    side_done None e o r = contract_done o r
    side_done (Some b) e o r = body_done b e o r

  -- the precondition is taken, and then the body runs
  called_done : {ds : Scope} {a : Around} {keeps : Holdings} (Before : State → Type 0) {w : State} → TargetsHaveTypes p ds xs m.returns → (vs : List Value) → HaveTypes m.parameters vs →
      (f : Follows p ds a keeps (λ s. Before s × Eventually (λ n. fit_all p (deeper p n) s es ≡ Ok vs)) w) → NeverFails Before (run p (Call at xs x es)) → (o : Outcome) → call_whole p a (bodies_by p n) w at xs x vs o →
      Surely (GoesTo p ds a keeps (After (run p (Call at xs x es)) Before) w o)
  called_done {ds = ds} {a = a} Before {w = w} targets vs tv f never o r = surely_then (taking p (good_bodies p l.typed) l.kept f (λ s n. placed at (take_by p n (with_store (bind m.parameters vs) s) full (precondition_of m) s.holdings))
      (λ n. placed at (take_by p n (with_store (bind m.parameters vs) w) full (precondition_of m) w.holdings))
      (λ g old u. rises_placed (Took p f.less w.holdings) at (λ n. take_by p n (with_store (bind m.parameters vs) (seen w f.less f.old_less g old)) full (precondition_of m) f.less) (λ n. take_by p n (with_store (bind m.parameters vs) w) full (precondition_of m) w.holdings)
      (l.takes m.parameters (with_store (bind m.parameters vs) w) (with_store (bind m.parameters vs) (seen w f.less f.old_less g old)) (entered_under p ds w (seen w f.less f.old_less g old) u m.parameters vs tv)
      full full-positive (precondition_of m) pre_typed w.holdings f.less (fewer_less p (good_bodies p l.typed) l.kept f) f.sane.typed f.sane.debts))
      (λ s h. return_from_beside p nobody s at xs m vs h) (λ s r place k. never s r.0 place (passes vs r.1 (to_called p s at xs x m vs (FailsAt place) named k))) (by_side a w vs m.body) o (of_called a w vs o r))
      (λ k. side_done Before targets vs tv k.entries k.typed k.takes f k.debts k.each never m.body refl o k.on)

module _ (p : Program) (l : Laws p) (n : ℕ) (bodies : BodiesGo p n) where
  pub call_goes : (at : Place) (xs : List Name) (x : Name) (es : Exprs) → StmtGoes p n (Call at xs x es)
  call_goes at xs x es ds a keeps Reached w ty f never = to_goes (λ o r. surely_then (fitted o r) (λ k. called_done p l n bodies at xs x es ty.0 ty.1 Reached ty.3 k.it (all_typed p l.typed ds w es _ k.it (store_typed ds w.store f.store) ty.2 k.by)
      (narrowed p (good_bodies p l.typed) l.kept f (λ s. Eventually (λ n. fit_all p (deeper p n) s es ≡ Ok k.it)) k.each) never o k.on))
    where
      fitted : (o : Outcome) → checked (λ n. fit_all p (deeper p n) w es) (call_whole p a (bodies_by p n) w at xs x) o →
          Surely (Same p (good_bodies p l.typed) l.kept ds Reached w f.less f.old_less (λ s n. fit_all p (deeper p n) s es) (λ n. fit_all p (deeper p n) w es) (call_whole p a (bodies_by p n) w at xs x) o)
      fitted o r = passing_same p (good_bodies p l.typed) l.kept f (λ s n. fit_all p (deeper p n) s es) (λ n. fit_all p (deeper p n) w es) (λ g old u. let r = l.fits in r.all_fit ds w (seen w f.less f.old_less g old) u es _ ty.2)
          (λ s. call_beside p nobody s at xs x) (λ s r place k. never s r place k) (call_whole p a (bodies_by p n) w at xs x) o r
