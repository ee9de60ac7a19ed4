-- A loop goes: before each round its invariant can be taken from what the run by contracts holds, so that run is at the start of an iteration, and
-- it is behind the loop too.
use Rattle.std.proofs.Common.{◌≡◌, ℕ, zero, suc, Bool, true, false, ◌⊎◌, inl, inr, List, [], ◌∷◌, ◌++◌, refl, sym, ◌∙◌, ap, subst}
use Rattle.std.specs.Prelude.{Ok}
use Rattle.vx_ast.specs.declared.Place.{Place}
use Rattle.vx_ast.specs.declared.ValueType.TheVariants as type
use Rattle.vx_frac.specs.Fractions.{none, full}
use Rattle.vx_ast.specs.Syntax.{Program, Expr, Assertion, Block, While, joined, assigned_in}
use Rattle.vx_meaning.specs.Values.{Value, is_true}
use Rattle.vx_meaning.specs.States.{State, Store, Heap, Holdings, with_holdings}
use Rattle.vx_meaning.specs.Fits.{fit_by, take_by, Eventually}
use Rattle.vx_meaning.specs.Outcomes.{Outcome, Ends, FailsAt, Stops, Outcomes, ends, stops, checked, passes, refused, and_then, goes_on, is_over, IsOver}
use Rattle.vx_meaning.specs.Give.{give, side}
use Rattle.vx_meaning.specs.Around.{Around, nobody, IsPossible}
use Rattle.vx_meaning.specs.Run.{DiffersAt, run, run_all, scoped}
use Rattle.vx_types.specs.Typing.{Scope, HasType, IsTyped}
use Rattle.vx_types.specs.Premises.{IsTypedProgram}
use Rattle.vx_amounts.proofs.Amounts.{Le, full-positive}
use Rattle.vx_sound_preds.specs.Bodies.{GoodBodies}
use Rattle.vx_sound_preds.proofs.Framing.{ok_same}
use Rattle.vx_sound_preds.proofs.Grouped.{NoDebts}
use Rattle.vx_sound_preds.proofs.Holding.{TypedAll}
use Rattle.vx_sound_preds.proofs.Typed.{good_bodies}
use Rattle.vx_runs.specs.Whole.{Bodies, again, given_back}
use Rattle.vx_runs.proofs.Followed.{Any, Sane, SaneKept, FitsRise, TakesRise, TakenIsGiven, Agree, AtMost, Under, Took, Shadow, StoreOf, Follows, Goes, NeverFails, After}
use Rattle.vx_runs.proofs.Surely.{Surely, surely, surely_then, surely_map}
use Rattle.vx_runs.proofs.Rising.{Passes, Refuses, one_end}
use Rattle.vx_runs.proofs.Fewer.{at_most_both, sane_fewer}
use Rattle.vx_runs.proofs.Taking.{typed_both}
use Rattle.vx_runs.proofs.Together.{Takes, takes_by, less_by, front, swap, turn, more_with, less_with, debts_both, debts_more, back_again, there_again, back_debts, typed_left, typed_right, typed_back}
use Rattle.vx_runs.proofs.Agreeing.{agree_self, agree_fewer, agree_back, agree_then}
use Rattle.vx_runs.proofs.Stores.{store_typed}
use Rattle.vx_runs.proofs.Beneath.{seen, Beneath, beneath, fewer_less, on_true, on_false, side_ends}
use Rattle.vx_runs.proofs.Decided.{shadow_under, Decided, decided}
use Rattle.vx_runs.proofs.Ran.{Keeps, IsSame, same_self, same_then, same_by, differs_by, give_only, scoped_keeps, run_all_keep}

none_more : (xs : Holdings) → xs ++ [] ≡ xs
none_more [] = refl
none_more (x ∷ xs) = ap (λ (z : Holdings). x ∷ z) (none_more xs)

module _ (p : Program) (typed : IsTypedProgram p) (kept_sane : SaneKept p) (rise : FitsRise p) (takes : TakesRise p) (given : TakenIsGiven p) where
  abbrev good : GoodBodies p
  good = good_bodies p typed

  module _ (at : Place) (c : Expr) (is : List Assertion) (b : Block) (ds : Scope) (a : Around) (kept : Holdings) (Reached : State → Type 0) (w0 : State) (tc : HasType p ds c type.Bool) (ti : IsTyped p ds (joined at is))
      (f0 : Follows p ds a kept Reached w0) (never : NeverFails Reached (run p (While at c is b))) where
    abbrev begun : Heap → Heap → State
    begun g o = seen w0 f0.less f0.old_less g o

    -- the run by contracts in front of the loop, with its invariant taken
    record Start : Type 0 where
      heap : Heap
      old : Heap
      reached : Reached (seen w0 f0.less f0.old_less heap old)
      agree : Agree p w0.heap f0.less heap
      old_agree : Agree p w0.old_heap f0.old_less old
      entries : Holdings
      kinds : TypedAll p Any entries
      signs : Takes entries
      debts : NoDebts (entries ++ f0.less)
      by_less : Eventually (λ n. take_by p n (seen w0 f0.less f0.old_less heap old) full (joined at is) f0.less ≡ Ok (entries ++ f0.less))
      by_more : Eventually (λ n. take_by p n w0 full (joined at is) w0.holdings ≡ Ok (entries ++ w0.holdings))

    start : Surely Start
    start = surely_then (beneath p good kept_sane f0 w0.heap (agree_self p w0.heap f0.less)) (λ x. surely_map
        (takes ds w0 (seen w0 f0.less f0.old_less x.0 x.1) (let k = x.2 in k.under) full full-positive (joined at is) ti w0.holdings f0.less (fewer_less p good kept_sane f0) (let k = f0.sane in k.typed) (let k = f0.sane in k.debts)) (go x.0 x.1 x.2))
      where
        go : (g o : Heap) → Beneath p ds Reached w0 f0.less f0.old_less w0.heap g o →
            Passes (Took p f0.less w0.holdings) (λ n. take_by p n (seen w0 f0.less f0.old_less g o) full (joined at is) f0.less) (λ n. take_by p n w0 full (joined at is) w0.holdings)
            ⊎ Refuses (λ n. take_by p n (seen w0 f0.less f0.old_less g o) full (joined at is) f0.less) → Start
        go g o k (inr x) = absurd (never (seen w0 f0.less f0.old_less g o) k.reached x.0 (refused x.0 x.1 refl))
        go g o k (inl x) =
            let t = x.related in
            record {
              heap = g;
              old = o;
              reached = k.reached;
              agree = k.agree;
              old_agree = k.old_heap;
              entries = t.entries;
              kinds = t.typed;
              signs = takes_by t.entries f0.less (subst (λ (z : Holdings). AtMost z f0.less) t.few_is t.less);
              debts = subst NoDebts t.few_is t.debts;
              by_less = subst (λ (z : Holdings). Eventually (λ n. take_by p n (seen w0 f0.less f0.old_less g o) full (joined at is) f0.less ≡ Ok z)) t.few_is x.by_less;
              by_more = subst (λ (z : Holdings). Eventually (λ n. take_by p n w0 full (joined at is) w0.holdings ≡ Ok z)) t.many_is x.by_more;
            }

    module _ (st : Start) where
      -- what the run by contracts leaves behind in the loop
      abbrev left : Holdings
      left = st.entries ++ f0.less

      -- with any variables that the body assigns, and in any heap
      abbrev Iteration : State → Type 0
      Iteration t = (h : Heap) × (x : Store) × DiffersAt (assigned_in b) w0.store x × give p (IsPossible p nobody) full (joined at is) record { store = x; heap = h; holdings = []; old_heap = st.old; old_holdings = f0.old_less } (Ends t)

      abbrev AfterBody : State → Outcomes
      AfterBody t = and_then (scoped p (run_all p b) t) (λ u. checked (λ n. take_by p n u full (joined at is) u.holdings) (λ _. stops))

      in_iteration : (t : State) → Iteration t → (o : Outcome) → checked (λ n. fit_by p n t c) (λ v. side v (AfterBody t) stops) o → run p (While at c is b) (seen w0 f0.less f0.old_less st.heap st.old) o
      in_iteration t (h, x, d, g) o r = passes (st.entries ++ f0.less) st.by_less (inl (h, (x, (d, goes_on t g r))))

      -- the giving itself fails
      giving_fails : (h : Heap) (x : Store) → DiffersAt (assigned_in b) w0.store x → (place : Place) → give p (IsPossible p nobody) full (joined at is) record { store = x; heap = h; holdings = []; old_heap = st.old; old_holdings = f0.old_less } (FailsAt place) → ⊥
      giving_fails h x d place r = never (seen w0 f0.less f0.old_less st.heap st.old) st.reached place (passes (st.entries ++ f0.less) st.by_less (inl (h, (x, (d, is_over tt r)))))

      -- A whole run before a round
      record In (w : State) : Type 0 where
        store : StoreOf ds w.store
        differs : DiffersAt (assigned_in b) w0.store w.store
        whole : Sane p w.heap (a.holdings ++ w.holdings)
        debts : NoDebts w.holdings
        old_whole : Sane p w.old_heap w.old_holdings
        old_fewer : AtMost f0.old_less w.old_holdings
        old_sane : Sane p w.old_heap f0.old_less
        old_agree : Agree p w.old_heap f0.old_less st.old
        entries : Holdings
        kinds : TypedAll p Any entries
        signs : Takes entries
        by : Eventually (λ n. take_by p n w full (joined at is) w.holdings ≡ Ok (entries ++ w.holdings))
        room : AtMost ((kept ++ (st.entries ++ f0.less)) ++ given_back entries) w.holdings
        agree : Agree p w0.heap (a.holdings ++ (kept ++ (st.entries ++ f0.less))) w.heap

      frame_debts : NoDebts (kept ++ (st.entries ++ f0.less))
      frame_debts = debts_both kept (st.entries ++ f0.less) f0.kept_debts st.debts

      frame_kinds : TypedAll p Any (kept ++ (st.entries ++ f0.less))
      frame_kinds = typed_both p kept (st.entries ++ f0.less) f0.kept_typed (typed_both p st.entries f0.less st.kinds (let k = f0.sane in k.typed))

      -- what is left in front of the loop, beside what is kept and held by others
      start_less : AtMost (st.entries ++ f0.less) f0.less
      start_less = less_by st.entries f0.less st.signs

      frame_sane : Sane p w0.heap (a.holdings ++ (kept ++ (st.entries ++ f0.less)))
      frame_sane = sane_fewer p good w0.heap (a.holdings ++ (kept ++ (st.entries ++ f0.less))) (a.holdings ++ w0.holdings) f0.whole
          (typed_both p a.holdings (kept ++ (st.entries ++ f0.less)) (typed_left p a.holdings w0.holdings (let z = f0.whole in z.typed)) frame_kinds) (debts_both a.holdings (kept ++ (st.entries ++ f0.less)) f0.around frame_debts)
          (front a.holdings (kept ++ (st.entries ++ f0.less)) w0.holdings (at_most_both (kept ++ (st.entries ++ f0.less)) (kept ++ f0.less) w0.holdings (front kept (st.entries ++ f0.less) f0.less start_less) f0.fewer))

      module _ (w : State) (k : In w) where
        of_whole : TypedAll p Any w.holdings
        of_whole = typed_right p a.holdings w.holdings (let z = k.whole in z.typed)

        alone : Sane p w.heap w.holdings
        alone = sane_fewer p good w.heap w.holdings (a.holdings ++ w.holdings) k.whole of_whole k.debts (more_with a.holdings w.holdings f0.around)

        back : Holdings
        back = given_back k.entries

        back_fine : NoDebts (given_back k.entries)
        back_fine = back_debts k.entries k.signs

        back_kinds : TypedAll p Any (given_back k.entries)
        back_kinds = typed_back p k.entries k.kinds

        -- the frame is no more than what is left where the invariant is taken
        frame_left : AtMost (kept ++ (st.entries ++ f0.less)) (k.entries ++ w.holdings)
        frame_left =
            let frame = kept ++ (st.entries ++ f0.less) in
            at_most_both frame (k.entries ++ (given_back k.entries ++ frame)) (k.entries ++ w.holdings) (there_back frame)
            (front k.entries (given_back k.entries ++ frame) w.holdings (at_most_both (given_back k.entries ++ frame) (frame ++ given_back k.entries) w.holdings (turn (given_back k.entries) frame) k.room))
          where
            there_back : (ys : Holdings) → AtMost ys (k.entries ++ (given_back k.entries ++ ys))
            there_back ys = at_most_both ys (given_back k.entries ++ (k.entries ++ ys)) (k.entries ++ (given_back k.entries ++ ys)) (there_again k.entries ys) (swap (given_back k.entries) k.entries ys)

        left_debts : NoDebts (k.entries ++ w.holdings)
        left_debts = debts_more (kept ++ (st.entries ++ f0.less)) (k.entries ++ w.holdings) frame_debts frame_left

        -- the invariant is given again, besides some of what is left
        given_at : (base : Holdings) → TypedAll p Any base → NoDebts base → AtMost base (k.entries ++ w.holdings) → (h : Heap) → Agree p w.heap (given_back k.entries ++ base) h →
            Surely (give p (IsPossible p nobody) full (joined at is) record { store = w.store; heap = h; holdings = base; old_heap = st.old; old_holdings = f0.old_less } (Ends record { store = w.store; heap = h; holdings = given_back k.entries ++ base; old_heap = st.old; old_holdings = f0.old_less })
            ⊎ ((place : Place) × give p (IsPossible p nobody) full (joined at is) record { store = w.store; heap = h; holdings = base; old_heap = st.old; old_holdings = f0.old_less } (FailsAt place)))
        given_at base kinds debts less h agree = given ds w record { store = w.store; heap = h; holdings = base; old_heap = st.old; old_holdings = f0.old_less } (joined at is) k.entries ti k.by left_debts record {
          store = λ x t e. refl;
          typed = store_typed ds w.store k.store;
          sane = alone;
          fewer = less;
          debts = debts;
          held = kinds;
          agree = agree;
          old_sane = (kept_sane w.old_heap st.old f0.old_less k.old_sane k.old_agree).0;
          old_fewer = k.old_fewer;
          old_agree = agree_back p good kept_sane w.old_heap st.old f0.old_less k.old_sane k.old_agree;
        }

        low : AtMost (given_back k.entries) w.holdings
        low = at_most_both (given_back k.entries) ((kept ++ (st.entries ++ f0.less)) ++ given_back k.entries) w.holdings (more_with (kept ++ (st.entries ++ f0.less)) (given_back k.entries) frame_debts) k.room

        -- at the start of an iteration
        in_round : Follows p ds a (kept ++ (st.entries ++ f0.less)) Iteration w
        in_round = record {
          store = k.store;
          whole = k.whole;
          debts = k.debts;
          around = f0.around;
          kept_debts = frame_debts;
          kept_typed = frame_kinds;
          less = given_back k.entries;
          old_less = f0.old_less;
          fewer = k.room;
          sane = sane_fewer p good w.heap (given_back k.entries) w.holdings alone back_kinds back_fine low;
          old_whole = k.old_whole;
          old_fewer = k.old_fewer;
          old_sane = k.old_sane;
          shadow = λ h agree. surely_map (given_at [] tt (λ r si. none_none) (λ r si. left_debts r si) h (subst (λ (z : Holdings). Agree p w.heap z h) (sym (none_more (given_back k.entries))) agree)) (go h);
        }
          where
            none_none : Le none none
            none_none = record { holds = refl }

            go : (h : Heap) → give p (IsPossible p nobody) full (joined at is) record { store = w.store; heap = h; holdings = []; old_heap = st.old; old_holdings = f0.old_less } (Ends record { store = w.store; heap = h; holdings = given_back k.entries ++ []; old_heap = st.old; old_holdings = f0.old_less })
                ⊎ ((place : Place) × give p (IsPossible p nobody) full (joined at is) record { store = w.store; heap = h; holdings = []; old_heap = st.old; old_holdings = f0.old_less } (FailsAt place)) →
                (s : State) × Shadow p Iteration w (given_back k.entries) f0.old_less h s
            go h (inr x) = absurd (giving_fails h w.store k.differs x.0 x.1)
            go h (inl x) = (
              record { store = w.store; heap = h; holdings = given_back k.entries ++ []; old_heap = st.old; old_holdings = f0.old_less },
              record {
                reached = (h, w.store, k.differs, x);
                store = refl;
                holdings = none_more (given_back k.entries);
                heap = λ l. refl;
                old_holdings = refl;
                old_heap = k.old_agree;
              },
            )

        left_low : AtMost (st.entries ++ f0.less) (k.entries ++ w.holdings)
        left_low = at_most_both (st.entries ++ f0.less) (kept ++ (st.entries ++ f0.less)) (k.entries ++ w.holdings) (more_with kept (st.entries ++ f0.less) f0.kept_debts) frame_left

        left_kinds : TypedAll p Any (st.entries ++ f0.less)
        left_kinds = typed_both p st.entries f0.less st.kinds (let z = f0.sane in z.typed)

        end_low : AtMost (kept ++ (given_back k.entries ++ (st.entries ++ f0.less))) w.holdings
        end_low =
            let l = st.entries ++ f0.less in
            let b = given_back k.entries in
            at_most_both (kept ++ (b ++ l)) (b ++ (kept ++ l)) w.holdings (swap kept b l) (at_most_both (b ++ (kept ++ l)) ((kept ++ l) ++ b) w.holdings (turn b (kept ++ l)) k.room)

        end_sane : Sane p w.heap (given_back k.entries ++ (st.entries ++ f0.less))
        end_sane = sane_fewer p good w.heap (given_back k.entries ++ (st.entries ++ f0.less)) w.holdings alone (typed_both p (given_back k.entries) (st.entries ++ f0.less) back_kinds left_kinds) (debts_both (given_back k.entries) (st.entries ++ f0.less) back_fine st.debts)
            (at_most_both (given_back k.entries ++ (st.entries ++ f0.less)) (kept ++ (given_back k.entries ++ (st.entries ++ f0.less))) w.holdings (more_with kept (given_back k.entries ++ (st.entries ++ f0.less)) f0.kept_debts) end_low)

        -- of the heap of the run by contracts in front of the loop what it left has the same values
        unchanged : (h : Heap) → Agree p w.heap (given_back k.entries ++ (st.entries ++ f0.less)) h → Agree p st.heap (st.entries ++ f0.less) h
        unchanged h agree =
            let l = st.entries ++ f0.less in
            let l_sane0 : Sane p w0.heap (st.entries ++ f0.less) = sane_fewer p good w0.heap l f0.less f0.sane left_kinds st.debts start_less in
            let l_sane : Sane p w.heap (st.entries ++ f0.less) = sane_fewer p good w.heap l (given_back k.entries ++ l) end_sane left_kinds st.debts (more_with (given_back k.entries) l back_fine) in
            let around_sane : Sane p w0.heap (a.holdings ++ (kept ++ l)) = frame_sane in
            let one : Agree p w0.heap l w.heap = agree_fewer p good w0.heap w.heap l (a.holdings ++ (kept ++ l)) l_sane0 around_sane (at_most_both l (kept ++ l) (a.holdings ++ (kept ++ l)) (more_with kept l f0.kept_debts) (more_with a.holdings (kept ++ l) f0.around)) k.agree in
            let two : Agree p w.heap l h = agree_fewer p good w.heap h l (given_back k.entries ++ l) l_sane end_sane (more_with (given_back k.entries) l back_fine) agree in
            let three : Agree p w0.heap l h = agree_then p good kept_sane w0.heap w.heap h l l_sane0 one two in
            let four : Agree p w0.heap l st.heap = agree_fewer p good w0.heap st.heap l f0.less l_sane0 f0.sane start_less st.agree in
            agree_then p good kept_sane st.heap w0.heap h l (kept_sane w0.heap st.heap l l_sane0 four).0 (agree_back p good kept_sane w0.heap st.heap l l_sane0 four) three

        -- behind the loop
        behind : (v : Value) → Eventually (λ n. fit_by p n w c ≡ Ok v) → is_true v ≡ false → Follows p ds a kept (After (run p (While at c is b)) Reached) w
        behind v fits falsity = record {
          store = k.store;
          whole = k.whole;
          debts = k.debts;
          around = f0.around;
          kept_debts = f0.kept_debts;
          kept_typed = f0.kept_typed;
          less = given_back k.entries ++ (st.entries ++ f0.less);
          old_less = f0.old_less;
          fewer = end_low;
          sane = end_sane;
          old_whole = k.old_whole;
          old_fewer = k.old_fewer;
          old_sane = k.old_sane;
          shadow = λ h agree. surely_then (given_at (st.entries ++ f0.less) left_kinds st.debts left_low h agree) (go h agree);
        }
          where
            s0 : State
            s0 = seen w0 f0.less f0.old_less st.heap st.old

            end_at : Heap → State
            end_at h = record { store = w.store; heap = h; holdings = given_back k.entries ++ (st.entries ++ f0.less); old_heap = st.old; old_holdings = f0.old_less }

            under : (h : Heap) → Agree p w.heap (given_back k.entries ++ (st.entries ++ f0.less)) h → Under p ds w record { store = w.store; heap = h; holdings = given_back k.entries ++ (st.entries ++ f0.less); old_heap = st.old; old_holdings = f0.old_less }
            under h agree = record {
              store = λ x t e. refl;
              typed = store_typed ds w.store k.store;
              sane = (kept_sane w.heap h (given_back k.entries ++ (st.entries ++ f0.less)) end_sane agree).0;
              fewer = at_most_both (given_back k.entries ++ (st.entries ++ f0.less)) (kept ++ (given_back k.entries ++ (st.entries ++ f0.less))) w.holdings (more_with kept (given_back k.entries ++ (st.entries ++ f0.less)) f0.kept_debts) end_low;
              agree = agree_back p good kept_sane w.heap h (given_back k.entries ++ (st.entries ++ f0.less)) end_sane agree;
              old_sane = (kept_sane w.old_heap st.old f0.old_less k.old_sane k.old_agree).0;
              old_fewer = k.old_fewer;
              old_agree = agree_back p good kept_sane w.old_heap st.old f0.old_less k.old_sane k.old_agree;
            }

            -- from there on
            run_on : (h : Heap) → Agree p w.heap (given_back k.entries ++ (st.entries ++ f0.less)) h → (o : Outcome) →
                and_then (give p (IsPossible p nobody) full (joined at is) record { store = w.store; heap = h; holdings = st.entries ++ f0.less; old_heap = st.old; old_holdings = f0.old_less }) (λ t. checked (λ n. fit_by p n t c) (λ v. side v stops (ends t))) o →
                run p (While at c is b) (seen w0 f0.less f0.old_less st.heap st.old) o
            run_on h agree o r = passes (st.entries ++ f0.less) st.by_less (inr (h, (unchanged h agree, (w.store, (k.differs, r)))))

            go : (h : Heap) → Agree p w.heap (given_back k.entries ++ (st.entries ++ f0.less)) h →
                give p (IsPossible p nobody) full (joined at is) record { store = w.store; heap = h; holdings = st.entries ++ f0.less; old_heap = st.old; old_holdings = f0.old_less } (Ends record { store = w.store; heap = h; holdings = given_back k.entries ++ (st.entries ++ f0.less); old_heap = st.old; old_holdings = f0.old_less })
                ⊎ ((place : Place) × give p (IsPossible p nobody) full (joined at is) record { store = w.store; heap = h; holdings = st.entries ++ f0.less; old_heap = st.old; old_holdings = f0.old_less } (FailsAt place)) →
                Surely ((s : State) × Shadow p (After (run p (While at c is b)) Reached) w (given_back k.entries ++ (st.entries ++ f0.less)) f0.old_less h s)
            go h agree (inr x) = absurd (never (seen w0 f0.less f0.old_less st.heap st.old) st.reached x.0 (run_on h agree (FailsAt x.0) (is_over tt x.1)))
            go h agree (inl x) = surely_map (rise.fits ds w (end_at h) (under h agree) c type.Bool tc) settled
              where
                settled : Passes (◌≡◌ {A = Value}) (λ n. fit_by p n (end_at h) c) (λ n. fit_by p n w c) ⊎ Refuses (λ n. fit_by p n (end_at h) c) → (s : State) × Shadow p (After (run p (While at c is b)) Reached) w (given_back k.entries ++ (st.entries ++ f0.less)) f0.old_less h s
                settled (inr y) = absurd (never (seen w0 f0.less f0.old_less st.heap st.old) st.reached y.0 (run_on h agree (FailsAt y.0) (goes_on (end_at h) x (refused y.0 y.1 refl))))
                settled (inl y) =
                    let same : y.less ≡ v = y.related ∙ ok_same y.more v (one_end (λ n. fit_by p n w c) (Ok y.more) (Ok v) y.by_more fits) in
                    let fine = subst (λ (z : Value). Eventually (λ n. fit_by p n (end_at h) c ≡ Ok z)) same y.by_less in (
                      end_at h,
                      record {
                        reached = (seen w0 f0.less f0.old_less st.heap st.old, st.reached, run_on h agree (Ends (end_at h)) (goes_on (end_at h) x (passes v fine (on_false v stops (ends (end_at h)) (Ends (end_at h)) falsity refl))));
                        store = refl;
                        holdings = refl;
                        heap = λ l. refl;
                        old_holdings = refl;
                        old_heap = k.old_agree;
                      },
                    )

      abbrev LoopTo : Outcome → Type 0
      LoopTo (Ends t) = Follows p ds a kept (After (run p (While at c is b)) Reached) t × Agree p w0.heap (a.holdings ++ kept) t.heap
      LoopTo (FailsAt place) = ⊥
      LoopTo Stops = Unit {0}

      abbrev Entered : Value → State → Type 0
      Entered v s = Iteration s × Eventually (λ n. fit_by p n s c ≡ Ok v)

      -- after a round
      module _ (v : Value) (truth : is_true v ≡ true) (w w' : State) (k : In w) (f : Follows p ds a (kept ++ (st.entries ++ f0.less)) (After (scoped p (run_all p b)) (Entered v)) w') (agree : Agree p w.heap (a.holdings ++ (kept ++ (st.entries ++ f0.less))) w'.heap) where
        module _ (u : State) (sh : Shadow p (After (scoped p (run_all p b)) (Entered v)) w' f.less f.old_less w'.heap u) where
          t : State
          t = sh.reached.0

          keeps : Keeps (assigned_in b) sh.reached.0 u
          keeps = scoped_keeps p (assigned_in b) (run_all p b) sh.reached.0 u (λ z r. run_all_keep p b sh.reached.0 z r) sh.reached.2

          only : sh.reached.0 ≡ with_holdings sh.reached.0.holdings record { store = sh.reached.1.0.1; heap = sh.reached.1.0.0; holdings = []; old_heap = st.old; old_holdings = f0.old_less }
          only = give_only p (IsPossible p nobody) full (joined at is) record { store = sh.reached.1.0.1; heap = sh.reached.1.0.0; holdings = []; old_heap = st.old; old_holdings = f0.old_less } sh.reached.0 sh.reached.1.0.3

          old_is : f.old_less ≡ f0.old_less
          old_is = sym sh.old_holdings ∙ keeps.old_holdings ∙ ap (λ (z : State). z.old_holdings) only

          old_heap_is : u.old_heap ≡ st.old
          old_heap_is = keeps.old_heap ∙ ap (λ (z : State). z.old_heap) only

          same : IsSame (assigned_in b) w0.store w'.store
          same =
              let one = same_by (assigned_in b) w0.store sh.reached.1.0.1 sh.reached.1.0.2 in
              let two = subst (λ (z : Store). IsSame (assigned_in b) z u.store) (ap (λ (z : State). z.store) only) keeps.store in
              subst (IsSame (assigned_in b) w0.store) sh.store (same_then (assigned_in b) w0.store sh.reached.1.0.1 u.store one two)

          under : Under p ds w' u
          under = shadow_under p typed kept_sane ds a (kept ++ (st.entries ++ f0.less)) (After (scoped p (run_all p b)) (Entered v)) w' f w'.heap u (agree_self p w'.heap f.less) sh

          in_next : Passes (Took p u.holdings w'.holdings) (λ n. take_by p n u full (joined at is) u.holdings) (λ n. take_by p n w' full (joined at is) w'.holdings) ⊎ Refuses (λ n. take_by p n u full (joined at is) u.holdings) → In w'
          in_next (inr y) = absurd (never (seen w0 f0.less f0.old_less st.heap st.old) st.reached y.0 (in_iteration sh.reached.0 sh.reached.1.0 (FailsAt y.0)
              (passes v sh.reached.1.1 (on_true v (AfterBody sh.reached.0) stops (FailsAt y.0) truth (goes_on u sh.reached.2 (refused y.0 y.1 refl))))))
          in_next (inl y) =
              let r = y.related in
              let debts = subst NoDebts r.few_is r.debts in
              let signs = takes_by r.entries u.holdings (subst (λ (z : Holdings). AtMost z u.holdings) r.few_is r.less) in
              let frame = kept ++ (st.entries ++ f0.less) in
              let back = given_back r.entries in
              let low : AtMost back u.holdings = at_most_both back (back ++ (r.entries ++ u.holdings)) u.holdings (less_with back (r.entries ++ u.holdings) debts) (back_again r.entries u.holdings) in
              record {
                store = f.store;
                differs = differs_by ds (assigned_in b) w0.store w'.store f0.store f.store same;
                whole = f.whole;
                debts = f.debts;
                old_whole = f.old_whole;
                old_fewer = subst (λ (z : Holdings). AtMost z w'.old_holdings) old_is f.old_fewer;
                old_sane = subst (Sane p w'.old_heap) old_is f.old_sane;
                old_agree = subst (λ (z : Heap). Agree p w'.old_heap f0.old_less z) old_heap_is (subst (λ (z : Holdings). Agree p w'.old_heap z u.old_heap) old_is sh.old_heap);
                entries = r.entries;
                kinds = r.typed;
                signs = signs;
                by = subst (λ (z : Holdings). Eventually (λ n. take_by p n w' full (joined at is) w'.holdings ≡ Ok z)) r.many_is y.by_more;
                room = at_most_both (frame ++ back) (frame ++ u.holdings) w'.holdings (front frame back u.holdings low) (subst (λ (z : Holdings). AtMost (frame ++ z) w'.holdings) (sym sh.holdings) f.fewer);
                agree = agree_then p good kept_sane w0.heap w.heap w'.heap (a.holdings ++ frame) frame_sane k.agree agree;
              }

        next : Surely (In w')
        next = surely_then (f.shadow w'.heap (agree_self p w'.heap f.less)) (λ x. let u = under x.0 x.1 in
            surely_map (takes ds w' x.0 u full full-positive (joined at is) ti w'.holdings (let s = x.0 in s.holdings) u.fewer (let z = u.sane in z.typed) (let z = u.sane in z.debts)) (in_next x.0 x.1))

      module _ (bodies : Bodies) (whole_body : State → Outcomes)
          (body_goes : (kept' : Holdings) (R : State → Type 0) (w : State) → Follows p ds a kept' R w → NeverFails R (scoped p (run_all p b)) → Goes p ds a kept' (After (scoped p (run_all p b)) R) w (whole_body w)) where
        -- the loop is over
        over : (o : Outcome) (v : Value) (w : State) (k : In w) → Eventually (λ n. fit_by p n w c ≡ Ok v) → is_true v ≡ false → ends w o → LoopTo o
        over (Ends t) v w k fits falsity e = subst (λ (z : State). Follows p ds a kept (After (run p (While at c is b)) Reached) z × Agree p w0.heap (a.holdings ++ kept) z.heap) (sym e) (behind w k v fits falsity, frame)
          where
            few : AtMost (a.holdings ++ kept) (a.holdings ++ (kept ++ (st.entries ++ f0.less)))
            few = front a.holdings kept (kept ++ (st.entries ++ f0.less)) (less_with kept (st.entries ++ f0.less) st.debts)

            few_sane : Sane p w0.heap (a.holdings ++ kept)
            few_sane = sane_fewer p good w0.heap (a.holdings ++ kept) (a.holdings ++ (kept ++ (st.entries ++ f0.less))) frame_sane (typed_both p a.holdings kept (typed_left p a.holdings w0.holdings (let z = f0.whole in z.typed)) f0.kept_typed) (debts_both a.holdings kept f0.around f0.kept_debts) few

            frame : Agree p w0.heap (a.holdings ++ kept) w.heap
            frame = agree_fewer p good w0.heap w.heap (a.holdings ++ kept) (a.holdings ++ (kept ++ (st.entries ++ f0.less))) few_sane frame_sane few k.agree
        over (FailsAt place) v w k fits falsity e = e
        over Stops v w k fits falsity e = absurd e

        rounds : (n : ℕ) (w : State) → In w → (o : Outcome) → again p a bodies n c whole_body w o → Surely (LoopTo o)
        rounds zero w k o r = absurd r
        rounds (suc n) w k o r = surely_then (decided p typed kept_sane ds a (kept ++ (st.entries ++ f0.less)) Iteration (λ s n. fit_by p n s c) w (in_round w k) (λ s u. rise.fits ds w s u c type.Bool tc)
            (λ t it y. never (seen w0 f0.less f0.old_less st.heap st.old) st.reached y.0 (in_iteration t it (FailsAt y.0) (refused y.0 y.1 refl))) (λ v. side v (and_then (whole_body w) (again p a bodies n c whole_body)) (ends w)) o r)
            (λ d. by_side (λ w' k' rest. rounds n w' k' o rest) d (side_ends d.result (and_then (whole_body w) (again p a bodies n c whole_body)) (ends w) o d.on))
          where
            by_side : ((w' : State) → In w' → again p a bodies n c whole_body w' o → Surely (LoopTo o)) → (d : Decided p typed kept_sane ds a (kept ++ (st.entries ++ f0.less)) Iteration (λ s n. fit_by p n s c) w (λ v. side v (and_then (whole_body w) (again p a bodies n c whole_body)) (ends w)) o) →
                ((is_true d.result ≡ true) × and_then (whole_body w) (again p a bodies n c whole_body) o) ⊎ ((is_true d.result ≡ false) × ends w o) → Surely (LoopTo o)
            by_side rounds_on d (inr x) = surely (over o d.result w k d.passes x.0 x.1)
            by_side rounds_on d (inl x) = go (body_goes (kept ++ (st.entries ++ f0.less)) (Entered d.result) w d.follows never_fails) x.1
              where
                never_fails : NeverFails (Entered d.result) (scoped p (run_all p b))
                never_fails t it place fail = never (seen w0 f0.less f0.old_less st.heap st.old) st.reached place (in_iteration t it.0 (FailsAt place) (passes d.result it.1 (on_true d.result (AfterBody t) stops (FailsAt place) x.0 (is_over tt fail))))

                failed : (o : Outcome) → IsOver o → Goes p ds a (kept ++ (st.entries ++ f0.less)) (After (scoped p (run_all p b)) (Entered d.result)) w (whole_body w) → whole_body w o → LoopTo o
                failed (Ends t) over g first = absurd over
                failed (FailsAt place) over g first = g.fine place first
                failed Stops over g first = tt

                go : Goes p ds a (kept ++ (st.entries ++ f0.less)) (After (scoped p (run_all p b)) (Entered d.result)) w (whole_body w) → and_then (whole_body w) (again p a bodies n c whole_body) o → Surely (LoopTo o)
                go g (is_over over first) = surely (failed o over g first)
                go g (goes_on w' first rest) = surely_then (g.on w' first) (λ y. surely_then (next d.result x.0 w w' k y.0 y.1) (λ k'. rounds_on w' k' rest))

      first_in : In w0
      first_in = record {
        store = f0.store;
        differs = differs_by ds (assigned_in b) w0.store w0.store f0.store f0.store (same_self (assigned_in b) w0.store);
        whole = f0.whole;
        debts = f0.debts;
        old_whole = f0.old_whole;
        old_fewer = f0.old_fewer;
        old_sane = f0.old_sane;
        old_agree = st.old_agree;
        entries = st.entries;
        kinds = st.kinds;
        signs = st.signs;
        by = st.by_more;
        room =
            let l = st.entries ++ f0.less in
            let b = given_back st.entries in
            at_most_both ((kept ++ l) ++ b) (b ++ (kept ++ l)) w0.holdings (turn (kept ++ l) b) (at_most_both (b ++ (kept ++ l)) (kept ++ (b ++ l)) w0.holdings (swap b kept l) (at_most_both (kept ++ (b ++ l)) (kept ++ f0.less) w0.holdings (front kept (b ++ l) f0.less (back_again st.entries f0.less)) f0.fewer));
        agree = agree_self p w0.heap (a.holdings ++ (kept ++ (st.entries ++ f0.less)));
      }

    -- a loop of at most n rounds
    pub loop_goes : (bodies : Bodies) (n : ℕ) (whole_body : State → Outcomes) →
        ((kept' : Holdings) (R : State → Type 0) (w : State) → Follows p ds a kept' R w → NeverFails R (scoped p (run_all p b)) → Goes p ds a kept' (After (scoped p (run_all p b)) R) w (whole_body w)) →
        Goes p ds a kept (After (run p (While at c is b)) Reached) w0 (again p a bodies n c whole_body w0)
    loop_goes bodies n whole_body body_goes = record {
      fine = λ place r. surely_then start (λ st. rounds st bodies whole_body body_goes n w0 (first_in st) (FailsAt place) r) (λ x. x);
      on = λ t r. surely_then start (λ st. rounds st bodies whole_body body_goes n w0 (first_in st) (Ends t) r);
    }
