-- All statements go, and so do all bodies of methods, however deep calls are: by induction on the depth of calls, and on statements. So no
-- whole run fails where no member does.
use Rattle.std.proofs.Common.{◌≡◌, ℕ, zero, suc, true, ◌⊎◌, inl, inr, List, [], ◌++◌, Some, refl, sym, ◌∙◌, subst}
use Rattle.std.specs.Prelude.{Ok, Err}
use Rattle.vx_ast.specs.declared.Place.{Place}
use Rattle.vx_frac.specs.Fractions.{none, full}
use Rattle.vx_ast.specs.Syntax.{Name, Program, Method, method_named, Stmt, Declare, Assign, Write, New, Call, Inhale, Exhale, Assert, Assume, Fold, Unfold, If, While, Block, Done, Then}
use Rattle.vx_meaning.specs.Values.{Value}
use Rattle.vx_meaning.specs.States.{State, Store, Heap, Holdings, HaveTypes, bind, from_now}
use Rattle.vx_meaning.specs.Flatten.{bare}
use Rattle.vx_meaning.specs.Consistent.{IsConsistent}
use Rattle.vx_meaning.specs.Fits.{Checked, take_by}
use Rattle.vx_meaning.specs.Outcomes.{Ends, FailsAt, ends, checked, passes, refused, and_then, goes_on, is_over}
use Rattle.vx_meaning.specs.Give.{give}
use Rattle.vx_meaning.specs.Around.{nobody}
use Rattle.vx_meaning.specs.Run.{run_all}
use Rattle.vx_meaning.specs.Fails.{MethodStarts, precondition_of, postcondition_of}
use Rattle.vx_meaning.specs.Fails as fails
use Rattle.vx_types.specs.Typing.{Scope, IsTyped, IsTypedBlock, IsTypedBody, scope_after_all}
use Rattle.vx_types.specs.Premises.{IsTypedProgram}
use Rattle.vx_amounts.proofs.Amounts.{le-refl, full-positive}
use Rattle.vx_elements.proofs.Scopes.{joined_typed, typed_longer, all_typed_longer, scope_more}
use Rattle.vx_sound_preds.proofs.Holding.{nothing}
use Rattle.vx_sound_preds.proofs.Typed.{good_bodies}
use Rattle.vx_runs.specs.Law.{NoneFails, WholeRunLaw}
use Rattle.vx_runs.specs.Whole.{give_whole, bodies_by, whole_run}
use Rattle.vx_runs.proofs.Followed.{Any, Sane, Agree, Took, Shadow, Follows, Goes, NeverFails, After, BodiesGo, StmtGoes, BlockGoes}
use Rattle.vx_runs.proofs.Surely.{Surely, surely, surely_then, surely_map}
use Rattle.vx_runs.proofs.Rising.{Passes, Refuses, one_end}
use Rattle.vx_runs.proofs.Fewer.{at_most_self}
use Rattle.vx_runs.proofs.Agreeing.{agree_self}
use Rattle.vx_runs.proofs.Stores.{store_both, store_bound}
use Rattle.vx_runs.proofs.Laws.{Laws}
use Rattle.vx_runs.proofs.Beneath.{fewer_less, sane_alone}
use Rattle.vx_runs.proofs.Locals.{declare_goes, assign_goes, assert_goes, assume_goes, inhale_goes}
use Rattle.vx_runs.proofs.Exhales.{exhale_goes}
use Rattle.vx_runs.proofs.Writes.{write_goes}
use Rattle.vx_runs.proofs.News.{new_goes}
use Rattle.vx_runs.proofs.Entering.{never_fails, nothing_held}
use Rattle.vx_runs.proofs.Calls.{call_goes}
use Rattle.vx_runs.proofs.Folds.{fold_goes}
use Rattle.vx_runs.proofs.Branches.{to_goes, block_goes, if_goes, while_goes, done_goes}
use Rattle.vx_runs.proofs.Unfolds.{unfold_goes}
use Rattle.vx_runs.proofs.Decided.{shadow_under}
use Rattle.vx_runs.proofs.Up.{fits_rise, takes_rise}
use Rattle.vx_runs.proofs.Covering.{sane_kept}
use Rattle.vx_runs.proofs.TakenGiven.{taken_is_given}
use Rattle.vx_runs.proofs.Giving.{gives_go}
use Rattle.vx_runs.proofs.GivenAtOnce.{gives_at_once}

module _ (p : Program) (l : Laws p) where
  mutual
    stmt_goes : (n : ℕ) → BodiesGo p n → (st : Stmt) → StmtGoes p n st
    stmt_goes n bodies (Declare at x t) = declare_goes p l n at x t
    stmt_goes n bodies (Assign at x e) = assign_goes p l n at x e
    stmt_goes n bodies (New at x fs) = new_goes p l n at x fs
    stmt_goes n bodies (Write at e f e') = write_goes p l n at e f e'
    stmt_goes n bodies (Call at xs x es) = call_goes p l n bodies at xs x es
    stmt_goes n bodies (Inhale at x) = inhale_goes p l n at x
    stmt_goes n bodies (Exhale at x) = exhale_goes p l n at x
    stmt_goes n bodies (Assert at x) = assert_goes p l n at x
    stmt_goes n bodies (Assume at e) = assume_goes p l n at e
    stmt_goes n bodies (Fold at i es share) = fold_goes p l.typed l.kept l.fits l.takes n at i es share
    stmt_goes n bodies (Unfold at i es share) = unfold_goes p l at i es share n
    stmt_goes n bodies (If at c x y) = if_goes p l.typed l.kept l.fits n at c x y (all_go n bodies x) (all_go n bodies y)
    stmt_goes n bodies (While at c is b) = while_goes p l.typed l.kept l.fits l.takes l.given n at c is b (all_go n bodies b)

    all_go : (n : ℕ) → BodiesGo p n → (b : Block) → BlockGoes p n b
    all_go n bodies Done = done_goes p l.typed l.kept l.fits n
    all_go n bodies (Then st b) = block_goes p l.typed l.kept l.fits n st b (stmt_goes n bodies st) (all_go n bodies b)

  of_method : (x : Name) (m : Method) (b : Block) → method_named p x ≡ Some m → m.body ≡ Some b → IsTypedBlock p (m.parameters ++ m.returns) b
  of_method x m b named is = subst (IsTypedBody p (m.parameters ++ m.returns)) is (let t = let k = l.typed in k.methods x m named in t.body)

  pub bodies_go : (n : ℕ) → BodiesGo p n
  bodies_go zero x m b named is a w f = to_goes (λ o r. absurd r)
  bodies_go (suc n) x m b named is a w f = all_go n (bodies_go n) b (m.parameters ++ m.returns) a [] (MethodStarts p m) w (of_method x m b named is) f (λ s r at k. never_fails p l x m named at (fails.body s b r is k))

  -- A whole run of a method
  module _ (x : Name) (m : Method) (named : method_named p x ≡ Some m) (b : Block) (is : m.body ≡ Some b) (vs ws : List Value) (tv : HaveTypes m.parameters vs) (tw : HaveTypes m.returns ws) where
    store : Store
    store = bind m.parameters vs ++ bind m.returns ws

    ds : Scope
    ds = m.parameters ++ m.returns

    -- only variables and some heap
    abbrev Bare : State → Type 0
    Bare s = (h : Heap) × (s ≡ bare (bind m.parameters vs ++ bind m.returns ws) h)

    pre_typed : IsTyped p (m.parameters ++ m.returns) (precondition_of m)
    pre_typed = let t = let k = l.typed in k.methods x m named in joined_typed p (m.parameters ++ m.returns) m.place m.requires (all_typed_longer p m.parameters m.returns m.requires t.requires)

    post_typed : IsTyped p (m.parameters ++ m.returns) (postcondition_of m)
    post_typed = let t = let k = l.typed in k.methods x m named in joined_typed p (m.parameters ++ m.returns) m.place m.ensures t.ensures

    empty : (h : Heap) → Sane p h []
    empty h = nothing p (good_bodies p l.typed) Any true h

    at_first : (h : Heap) → Follows p (m.parameters ++ m.returns) nobody [] Bare (bare (bind m.parameters vs ++ bind m.returns ws) h)
    at_first h = record {
      store = store_both m.parameters m.returns (bind m.parameters vs) (bind m.returns ws) (store_bound m.parameters vs tv) (store_bound m.returns ws tw);
      whole = empty h;
      debts = λ r si. le-refl none;
      around = λ r si. le-refl none;
      kept_debts = λ r si. le-refl none;
      kept_typed = tt;
      less = [];
      old_less = [];
      fewer = at_most_self [];
      sane = empty h;
      old_whole = empty h;
      old_fewer = at_most_self [];
      old_sane = empty h;
      shadow = λ g agree. surely (bare (bind m.parameters vs ++ bind m.returns ws) g, record { reached = (g, refl); store = refl; holdings = refl; heap = λ l. refl; old_holdings = refl; old_heap = nothing_held p h g });
    }

    never_given : NeverFails Bare (give p (IsConsistent p) full (precondition_of m))
    never_given s (h, e) at k = never_fails p l x m named at (fails.precondition vs ws tv tw (h, subst (λ (z : State). give p (IsConsistent p) full (precondition_of m) z (FailsAt at)) e k))

    -- the old part is this state
    starts : (t : State) → Follows p (m.parameters ++ m.returns) nobody [] (After (give p (IsConsistent p) full (precondition_of m)) Bare) t → Follows p (m.parameters ++ m.returns) nobody [] (MethodStarts p m) (from_now t)
    starts t f = record {
      store = f.store;
      whole = f.whole;
      debts = f.debts;
      around = f.around;
      kept_debts = f.kept_debts;
      kept_typed = f.kept_typed;
      less = f.less;
      old_less = f.less;
      fewer = f.fewer;
      sane = f.sane;
      old_whole = sane_alone p (good_bodies p l.typed) l.kept f;
      old_fewer = fewer_less p (good_bodies p l.typed) l.kept f;
      old_sane = f.sane;
      shadow = λ h agree. surely_map (f.shadow h agree) (λ y. (from_now y.0, begun h agree y.0 y.1));
    }
      where
        begun : (h : Heap) → Agree p t.heap f.less h → (s : State) → Shadow p (After (give p (IsConsistent p) full (precondition_of m)) Bare) t f.less f.old_less h s → Shadow p (MethodStarts p m) (from_now t) f.less f.less h (from_now s)
        begun h agree s k = record {
          reached = (vs, ws, tv, tw, (k.reached.1.0, s, subst (λ (z : State). give p (IsConsistent p) full (precondition_of m) z (Ends s)) k.reached.1.1 k.reached.2, refl));
          store = k.store;
          holdings = k.holdings;
          heap = k.heap;
          old_holdings = k.holdings;
          old_heap = λ m z. k.heap m ∙ agree m z;
        }

    -- the postcondition can be taken
    end_fine : (t : State) (at : Place) → Follows p (scope_after_all p b (m.parameters ++ m.returns)) nobody [] (After (run_all p b) (MethodStarts p m)) t → checked (λ n. take_by p n t full (postcondition_of m) t.holdings) (λ _. ends t) (FailsAt at) → Surely ⊥
    end_fine t at f (passes left c e) = absurd e
    end_fine t at f (refused place c e) = surely_then (f.shadow t.heap (agree_self p t.heap f.less)) (λ y. go y.0 y.1)
      where
        later : Scope
        later = scope_after_all p b (m.parameters ++ m.returns)

        typed_later : IsTyped p (scope_after_all p b (m.parameters ++ m.returns)) (postcondition_of m)
        typed_later = let k = scope_more p b (m.parameters ++ m.returns) in subst (λ (z : Scope). IsTyped p z (postcondition_of m)) (sym k.1) (typed_longer p (m.parameters ++ m.returns) k.0 (postcondition_of m) post_typed)

        go : (s : State) → Shadow p (After (run_all p b) (MethodStarts p m)) t f.less f.old_less t.heap s → Surely ⊥
        go s k =
            let u = shadow_under p l.typed l.kept (scope_after_all p b (m.parameters ++ m.returns)) nobody [] (After (run_all p b) (MethodStarts p m)) t f t.heap s (agree_self p t.heap f.less) k in
            surely_map (l.takes (scope_after_all p b (m.parameters ++ m.returns)) t s u full full-positive (postcondition_of m) typed_later t.holdings s.holdings u.fewer (let z = u.sane in z.typed) (let z = u.sane in z.debts)) (clash s k)
          where
            clash : (s : State) → Shadow p (After (run_all p b) (MethodStarts p m)) t f.less f.old_less t.heap s →
                Passes (Took p s.holdings t.holdings) (λ n. take_by p n s full (postcondition_of m) s.holdings) (λ n. take_by p n t full (postcondition_of m) t.holdings) ⊎ Refuses (λ n. take_by p n s full (postcondition_of m) s.holdings) → ⊥
            clash s k (inl y) = differ (one_end (λ n. take_by p n t full (postcondition_of m) t.holdings) (Err place) (Ok y.more) c y.by_more)
              where
                differ : ◌≡◌ {A = Checked Holdings} (Err place) (Ok y.more) → ⊥
                differ h = cc
            clash s k (inr y) = never_fails p l x m named y.0 (fails.postcondition k.reached.0 s b k.reached.1 is k.reached.2 y.1)

    pub never_runs : (n : ℕ) (h : Heap) (at : Place) → whole_run p n m b vs ws h (FailsAt at) → ⊥
    never_runs n h at r = given r
      where
        start : Goes p (m.parameters ++ m.returns) nobody [] (After (give p (IsConsistent p) full (precondition_of m)) Bare) (bare (bind m.parameters vs ++ bind m.returns ws) h) (give_whole p nobody full (precondition_of m) (bare (bind m.parameters vs ++ bind m.returns ws) h))
        start = l.gives (m.parameters ++ m.returns) nobody [] Bare (bare (bind m.parameters vs ++ bind m.returns ws) h) full (precondition_of m) full-positive pre_typed (at_first h) never_given

        bodied : (s : State) → Follows p (m.parameters ++ m.returns) nobody [] (After (give p (IsConsistent p) full (precondition_of m)) Bare) s →
            and_then (bodies_by p n nobody b (from_now s)) (λ t. checked (λ n. take_by p n t full (postcondition_of m) t.holdings) (λ _. ends t)) (FailsAt at) → Surely ⊥
        bodied s f (is_over over k) = let g = bodies_go n x m b named is nobody (from_now s) (starts s f) in surely (g.fine at k)
        bodied s f (goes_on t k rest) = let g = bodies_go n x m b named is nobody (from_now s) (starts s f) in surely_then (g.on t k) (λ y. end_fine t at y.0 rest)

        given : whole_run p n m b vs ws h (FailsAt at) → ⊥
        given (is_over over k) = start.fine at k
        given (goes_on s k rest) = surely_then (start.on s k) (λ y. bodied s y.0 rest) (λ z. z)

-- What all of this stands on holds of a typed program of which no member fails.
laws : (p : Program) → IsTypedProgram p → NoneFails p → Laws p
laws p typed none_fails =
    let kept = sane_kept p typed none_fails in
    let fits = fits_rise p typed none_fails in
    record {
      typed = typed;
      never = none_fails;
      kept = kept;
      fits = fits;
      takes = takes_rise p typed none_fails;
      given = taken_is_given p typed kept fits;
      gives = gives_go p typed kept fits;
      rise = gives_at_once p typed kept fits;
    }

pub whole_runs_never_fail : WholeRunLaw
whole_runs_never_fail p typed none_fails x m named at k = never_runs p (laws p typed none_fails) x m named k.body k.is_body k.arguments k.returns k.arguments_typed k.returns_typed k.fuel k.heap at k.fails
