-- An unfold goes: the body is given to and_from _ _, and what was held folded is held openly, so no value there could have changed.
use Rattle.std.proofs.Common.{arith, ◌≡◌, ◌≤◌, ℕ, true, ◌&&◌, ◌⊎◌, inl, inr, List, [], ◌∷◌, ◌++◌, Some, refl, sym, ◌∙◌, ap, subst}
use Rattle.std.specs.Prelude.{Ok}
use Rattle.std.proofs.lemmas.Bool.{and_from, and_parts}
use Rattle.vx_ast.specs.declared.Place.{Place}
use Rattle.vx_frac.specs.Fractions.{Fraction, minus, is_positive, at_most}
use Rattle.vx_ast.specs.Syntax.{Name, Program, Predicate, predicate_named, Expr, Exprs, Assertion, Unfold}
use Rattle.vx_meaning.specs.States as run
use Rattle.vx_meaning.specs.States.{State, Heap, Holdings, Location, Instance, Folded, amount, lost, bind, with_store, with_holdings}
use Rattle.vx_meaning.specs.Consistent.{IsHeld, IsConsistent}
use Rattle.vx_meaning.specs.Values.{Value}
use Rattle.vx_meaning.specs.Fits.{Checked, guard, has_instance, fit_all, deeper, Eventually}
use Rattle.vx_meaning.specs.Outcomes.{Outcome, Ends, FailsAt, Stops, Outcomes, ends, passes, checked, and_then, goes_on, is_over, failing_at}
use Rattle.vx_meaning.specs.Give.{give}
use Rattle.vx_meaning.specs.Around.{Around, nobody, IsPossible}
use Rattle.vx_meaning.specs.Run.{run, instance_at, unfold_it_beside}
use Rattle.vx_types.specs.Typing.{Scope, IsTyped}
use Rattle.vx_amounts.proofs.Amounts.{Le, Positive, le-trans}
use Rattle.vx_amounts.proofs.Products.{positive_le}
use Rattle.vx_sound.proofs.World.{IsTypedInstance}
use Rattle.vx_sound_preds.proofs.Fitting.{guarded}
use Rattle.vx_sound_preds.proofs.Grouped.{IsSingle, NoDebts}
use Rattle.vx_sound_preds.proofs.Holding.{instance_rigid, taken}
use Rattle.vx_sound_preds.proofs.Typed.{good_bodies}
use Rattle.vx_sound_preds.proofs.TypedValues.{AreTyped}
use Rattle.vx_runs.proofs.Surely.{Surely, surely, surely_then, surely_map}
use Rattle.vx_runs.proofs.Rising.{Rises, rises_always}
use Rattle.vx_runs.proofs.Followed.{Any, Sane, Agree, AtMost, Under, IsShown, Follows, NeverFails, After, StmtGoes}
use Rattle.vx_runs.proofs.Fewer.{at_most_both, sane_fewer}
use Rattle.vx_runs.proofs.Shared.{lost_fewer, lost_debts}
use Rattle.vx_runs.proofs.Taking.{typed_both}
use Rattle.vx_runs.proofs.Together.{front, swap, more_with, debts_both, typed_left, typed_right}
use Rattle.vx_runs.proofs.Exchanging.{no_perm, body_typed}
use Rattle.vx_runs.proofs.Agreeing.{agree_self, agree_fewer, alike_then, alike_agrees, held_there}
use Rattle.vx_runs.proofs.Stores.{store_typed, store_bound}
use Rattle.vx_runs.proofs.Laws.{Laws, all_typed}
use Rattle.vx_runs.proofs.Beneath.{seen, Beneath, beneath, fewer_less, Same, passing_same, follows, narrowed}
use Rattle.vx_runs.proofs.GivenAtOnce.{GivesMore}
use Rattle.vx_runs.proofs.Locals.{IsFollowed}
use Rattle.vx_runs.proofs.Once.{ends_is, no_failure}
use Rattle.vx_runs.proofs.Branches.{GoesTo, to_goes}
use Rattle.vx_runs.proofs.Instances.{instance_rises, named as named_there, bodied, with_its_body}
use Rattle.vx_runs.proofs.Openings.{unfolded_covers}

module _ (p : Program) (l : Laws p) (at : Place) (i : Instance) (q : Fraction) (pos : Positive q) (d : Predicate) (e : Assertion) (named : predicate_named p i.predicate ≡ Some d) (is : d.body ≡ Some e) (types : run.HaveTypes d.parameters i.arguments)
    {ds : Scope} {a : Around} {keeps : Holdings} {Reached : State → Type 0} {w : State} (f : Follows p ds a keeps Reached w) (enough : Le q (amount f.less (Folded i))) where
  of_type : IsTypedInstance p Any i
  of_type = (tt, (d, named, no_perm p l.typed i.predicate d named, types))

  single : IsSingle (Folded i)
  single = instance_rigid p Any i of_type

  ty : IsTyped p d.parameters e
  ty = body_typed p l.typed i.predicate d e named is

  vars : AreTyped d.parameters (bind d.parameters i.arguments)
  vars = store_typed d.parameters (bind d.parameters i.arguments) (store_bound d.parameters i.arguments types)

  less_within : AtMost (lost (Folded i) q f.less) (lost (Folded i) q w.holdings)
  less_within = front ((Folded i, minus q) ∷ []) f.less w.holdings (fewer_less p (good_bodies p l.typed) l.kept f)

  less_sane : (h : Heap) → Sane p h f.less → Sane p h (lost (Folded i) q f.less)
  less_sane h s = taken p (good_bodies p l.typed) Any true h f.less (Folded i) q of_type (positive_le pos) enough s

  all_debts : NoDebts (lost (Folded i) q w.holdings)
  all_debts = lost_debts p (Folded i) q w.holdings of_type (le-trans enough (fewer_less p (good_bodies p l.typed) l.kept f (Folded i) single)) f.debts

  whole : Sane p w.heap (a.holdings ++ lost (Folded i) q w.holdings)
  whole = sane_fewer p (good_bodies p l.typed) w.heap (a.holdings ++ lost (Folded i) q w.holdings) (a.holdings ++ w.holdings) f.whole
      (typed_both p a.holdings (lost (Folded i) q w.holdings) (typed_left p a.holdings w.holdings f.whole.typed) (of_type, typed_right p a.holdings w.holdings f.whole.typed))
      (debts_both a.holdings (lost (Folded i) q w.holdings) f.around all_debts) (front a.holdings (lost (Folded i) q w.holdings) w.holdings (lost_fewer (Folded i) q w.holdings (positive_le pos)))

  -- where the body is given
  abbrev opening : State → State
  opening s = with_store (bind d.parameters i.arguments) (with_holdings (lost (Folded i) q s.holdings) s)

  under_there : (g old : Heap) → Under p ds w (seen w f.less f.old_less g old) → Under p d.parameters (opening w) (opening (seen w f.less f.old_less g old))
  under_there g old u = record {
    store = λ x t e. refl;
    typed = vars;
    sane = less_sane g u.sane;
    fewer = less_within;
    agree = agree_fewer p (good_bodies p l.typed) g w.heap (lost (Folded i) q f.less) f.less (less_sane g u.sane) u.sane (lost_fewer (Folded i) q f.less (positive_le pos)) u.agree;
    old_sane = u.old_sane;
    old_fewer = u.old_fewer;
    old_agree = u.old_agree;
  }

  pub more_given : (o : Outcome) → IsShown o → give p (IsPossible p a) q e (opening w) o → Surely (GivesMore p d.parameters a q e (opening w) o)
  more_given o shown r = l.rise d.parameters a (opening w) q e pos ty vars whole all_debts f.around o shown r

  module _ (never : (s : State) → Reached s → (place : Place) → give p (IsConsistent p) q e (opening s) (FailsAt place) → ⊥) where
    gave : (o : Outcome) (k : GivesMore p d.parameters a q e (opening w) o) (h g old : Heap) → Agree p w.heap (k.entries ++ lost (Folded i) q f.less) h → Beneath p ds Reached w f.less f.old_less h g old →
        Surely ((o ≡ Ends (with_holdings (k.entries ++ lost (Folded i) q w.holdings) (opening w))) × give p (IsConsistent p) q e (opening (seen w f.less f.old_less g old)) (Ends (with_holdings (k.entries ++ lost (Folded i) q f.less) (opening (seen w f.less f.old_less g old)))))
    gave o k h g old agree b = surely_map (k.less (opening (seen w f.less f.old_less g old)) (under_there g old b.under) (alike_then p w.heap h g (k.entries ++ lost (Folded i) q f.less) agree b.heap)) go
      where
        go : ((o ≡ Ends (with_holdings (k.entries ++ lost (Folded i) q w.holdings) (opening w))) × give p (IsConsistent p) q e (opening (seen w f.less f.old_less g old)) (Ends (with_holdings (k.entries ++ lost (Folded i) q f.less) (opening (seen w f.less f.old_less g old)))))
            ⊎ ((place : Place) × give p (IsConsistent p) q e (opening (seen w f.less f.old_less g old)) (FailsAt place)) →
            (o ≡ Ends (with_holdings (k.entries ++ lost (Folded i) q w.holdings) (opening w))) × give p (IsConsistent p) q e (opening (seen w f.less f.old_less g old)) (Ends (with_holdings (k.entries ++ lost (Folded i) q f.less) (opening (seen w f.less f.old_less g old))))
        go (inl r) = r
        go (inr (place, r)) = absurd (never (seen w f.less f.old_less g old) b.reached place r)

    -- what was held is held
    covers : (t : State) (k : GivesMore p d.parameters a q e (opening w) (Ends t)) (g old : Heap) → Beneath p ds Reached w f.less f.old_less w.heap g old →
        give p (IsConsistent p) q e (opening (seen w f.less f.old_less g old)) (Ends (with_holdings (k.entries ++ lost (Folded i) q f.less) (opening (seen w f.less f.old_less g old)))) → Sane p w.heap (k.entries ++ lost (Folded i) q f.less) →
        (m : Location) → IsHeld p w.heap f.less m → IsHeld p w.heap (k.entries ++ lost (Folded i) q f.less) m
    covers t k g old b r sane m z =
        let there = held_there p (good_bodies p l.typed) l.kept w.heap g f.less f.sane (alike_agrees p w.heap g f.less b.heap) m z in
        let inside = unfolded_covers p l.typed (IsConsistent p) (seen w f.less f.old_less g old) (with_holdings (k.entries ++ lost (Folded i) q f.less) (opening (seen w f.less f.old_less g old))) i q d e named is ty vars b.under.sane (and_from _ _ pos.holds enough.holds) r m there in
        let back = l.kept w.heap g (k.entries ++ lost (Folded i) q f.less) sane (alike_agrees p w.heap g (k.entries ++ lost (Folded i) q f.less) b.heap) in
        back.1 m inside

    pub opened : (Then : State → Type 0) → ((g old : Heap) → Reached (seen w f.less f.old_less g old) → (t : State) → give p (IsConsistent p) q e (opening (seen w f.less f.old_less g old)) (Ends t) → Then (with_store w.store t)) →
        (t : State) → give p (IsPossible p a) q e (opening w) (Ends t) → Surely (IsFollowed p ds a keeps Then w (with_store w.store t))
    opened Then on t r = surely_then (more_given (Ends t) tt r) (λ k. surely_then (beneath p (good_bodies p l.typed) l.kept f w.heap (agree_self p w.heap f.less)) (λ b. surely_map (gave (Ends t) k w.heap b.0 b.1 (agree_self p w.heap (k.entries ++ lost (Folded i) q f.less)) b.2)
        (λ j. subst (λ (z : State). IsFollowed p ds a keeps Then w (with_store w.store z)) (sym (ends_is t (with_holdings (k.entries ++ lost (Folded i) q w.holdings) (opening w)) j.0)) (there k (covers t k b.0 b.1 b.2 j.1 (sane_open k)), agree_self p w.heap (a.holdings ++ keeps)))))
      where
        sane_open : (k : GivesMore p d.parameters a q e (opening w) (Ends t)) → Sane p w.heap (k.entries ++ lost (Folded i) q f.less)
        sane_open k =
            let s = less_sane w.heap f.sane in
            sane_fewer p (good_bodies p l.typed) w.heap (k.entries ++ lost (Folded i) q f.less) (a.holdings ++ (k.entries ++ lost (Folded i) q w.holdings)) k.sane (typed_both p k.entries (lost (Folded i) q f.less) k.typed s.typed) (debts_both k.entries (lost (Folded i) q f.less) k.debts s.debts)
            (at_most_both (k.entries ++ lost (Folded i) q f.less) (k.entries ++ lost (Folded i) q w.holdings) (a.holdings ++ (k.entries ++ lost (Folded i) q w.holdings)) (front k.entries (lost (Folded i) q f.less) (lost (Folded i) q w.holdings) less_within)
            (more_with a.holdings (k.entries ++ lost (Folded i) q w.holdings) f.around))

        fewer_open : (k : GivesMore p d.parameters a q e (opening w) (Ends t)) → AtMost (keeps ++ (k.entries ++ lost (Folded i) q f.less)) (k.entries ++ lost (Folded i) q w.holdings)
        fewer_open k = at_most_both (keeps ++ (k.entries ++ lost (Folded i) q f.less)) (k.entries ++ (keeps ++ lost (Folded i) q f.less)) (k.entries ++ lost (Folded i) q w.holdings) (swap keeps k.entries (lost (Folded i) q f.less))
            (front k.entries (keeps ++ lost (Folded i) q f.less) (lost (Folded i) q w.holdings) (at_most_both (keeps ++ lost (Folded i) q f.less) ((Folded i, minus q) ∷ (keeps ++ f.less)) (lost (Folded i) q w.holdings) (swap keeps ((Folded i, minus q) ∷ []) f.less)
            (front ((Folded i, minus q) ∷ []) (keeps ++ f.less) w.holdings f.fewer)))

        there : (k : GivesMore p d.parameters a q e (opening w) (Ends t)) → ((m : Location) → IsHeld p w.heap f.less m → IsHeld p w.heap (k.entries ++ lost (Folded i) q f.less) m) →
            Follows p ds a keeps Then record { store = w.store; heap = w.heap; holdings = k.entries ++ lost (Folded i) q w.holdings; old_heap = w.old_heap; old_holdings = w.old_holdings }
        there k covered = follows p (good_bodies p l.typed) l.kept f ds Then w.store (k.entries ++ lost (Folded i) q w.holdings) w.heap f.store k.sane (debts_both k.entries (lost (Folded i) q w.holdings) k.debts all_debts) (k.entries ++ lost (Folded i) q f.less) (fewer_open k) (sane_open k)
            (λ h agree. surely_then (beneath p (good_bodies p l.typed) l.kept f h (λ m z. agree m (covered m z)))
            (λ b. surely_map (gave (Ends t) k h b.0 b.1 agree b.2) (λ j. (b.0, b.1, on b.0 b.1 b.2.reached (with_holdings (k.entries ++ lost (Folded i) q f.less) (opening (seen w f.less f.old_less b.0 b.1))) j.1, b.2.heap, b.2.old_heap))))

    pub never_opens : (place : Place) → give p (IsPossible p a) q e (opening w) (FailsAt place) → ⊥
    never_opens place r = more_given (FailsAt place) tt r (λ k. beneath p (good_bodies p l.typed) l.kept f w.heap (agree_self p w.heap f.less) (λ b. gave (FailsAt place) k w.heap b.0 b.1 (agree_self p w.heap (k.entries ++ lost (Folded i) q f.less)) b.2 (λ j. no_failure place _ j.0)))

module _ (p : Program) (l : Laws p) (at : Place) (i : Name) (es : Exprs) (share : Expr) where
  module _ {ds : Scope} {a : Around} {keeps : Holdings} {Reached : State → Type 0} {w : State} (never : NeverFails Reached (run p (Unfold at i es share))) (x : Instance × Fraction) (d : Predicate) (e : Assertion)
      (named : predicate_named p x.0.predicate ≡ Some d) (is : d.body ≡ Some e) (types : run.HaveTypes d.parameters x.0.arguments) (f : Follows p ds a keeps (λ s. Reached s × Eventually (λ n. instance_at p n s at i es share ≡ Ok x)) w) where
    abbrev At : State → Type 0
    At s = Reached s × Eventually (λ n. instance_at p n s at i es share ≡ Ok x)

    -- once the instance is there, its body is given
    abbrev given_in : State → Outcomes
    given_in s = and_then (failing_at at (give p (IsConsistent p) x.1 e (with_store (bind d.parameters x.0.arguments) (with_holdings (lost (Folded x.0) x.1 s.holdings) s)))) (λ t. ends (with_store s.store t))

    to_unfold : (s : State) → At s → (o : Outcome) → checked (λ n. guard at (has_instance s x.0 x.1)) (λ _. given_in s) o → run p (Unfold at i es share) s o
    to_unfold s r o k = passes x r.1 (with_its_body p x.0 (λ y e. checked (λ n. guard at (has_instance s x.0 x.1)) (λ _. and_then (failing_at at (give p (IsConsistent p) x.1 e (with_store y (with_holdings (lost (Folded x.0) x.1 s.holdings) s)))) (λ t. ends (with_store s.store t)))) o d e named is k)

    has_rises : (g old : Heap) → Under p ds w (seen w f.less f.old_less g old) → Rises (λ n. guard at (has_instance (seen w f.less f.old_less g old) x.0 x.1)) (λ n. guard at (has_instance w x.0 x.1))
    has_rises g old u = rises_always (◌≡◌ {A = Unit {0}}) (guard at (has_instance (seen w f.less f.old_less g old) x.0 x.1)) (guard at (has_instance w x.0 x.1)) (λ v e. (v, refl, ap (guard at) (more (guarded at (has_instance (seen w f.less f.old_less g old) x.0 x.1) v e))))
      where
        more : has_instance (seen w f.less f.old_less g old) x.0 x.1 ≡ true → has_instance w x.0 x.1 ≡ true
        more h =
            let k = and_parts _ _ h in
            let there : Le x.1 (amount w.holdings (Folded x.0)) = le-trans (record { holds = k.1 }) (fewer_less p (good_bodies p l.typed) l.kept f (Folded x.0) (instance_rigid p Any x.0 (tt, (d, named, no_perm p l.typed x.0.predicate d named, types)))) in
            and_from _ _ k.0 there.holds

    -- where the instance is there beneath too
    with_instance : (o : Outcome) → Follows p ds a keeps (λ s. At s × Eventually (λ n. guard at (has_instance s x.0 x.1) ≡ Ok tt)) w →
        and_then (failing_at at (give p (IsPossible p a) x.1 e (with_store (bind d.parameters x.0.arguments) (with_holdings (lost (Folded x.0) x.1 w.holdings) w)))) (λ t. ends (with_store w.store t)) o → Surely (GoesTo p ds a keeps (After (run p (Unfold at i es share)) Reached) w o)
    with_instance o there r = surely_then (beneath p (good_bodies p l.typed) l.kept there w.heap (agree_self p w.heap there.less)) (λ b. let z = b.2.reached in go o (held b.0 b.1 z.1) r)
      where
        self : (n : ℕ) → n ≤ n
        self n = omega arith

        -- where it is held by less
        held : (g old : Heap) → Eventually (λ n. guard at (has_instance (seen w there.less there.old_less g old) x.0 x.1) ≡ Ok tt) → (is_positive x.1 ≡ true) × (at_most x.1 (amount there.less (Folded x.0)) ≡ true)
        held g old ev = let k = and_parts _ _ (guarded at (has_instance (seen w there.less there.old_less g old) x.0 x.1) tt (ev.1 ev.0 (self ev.0))) in (k.0, k.1)

        no_fail : (s : State) → At s × Eventually (λ n. guard at (has_instance s x.0 x.1) ≡ Ok tt) → (place : Place) →
            give p (IsConsistent p) x.1 e (with_store (bind d.parameters x.0.arguments) (with_holdings (lost (Folded x.0) x.1 s.holdings) s)) (FailsAt place) → ⊥
        no_fail s r place k = never s r.0.0 at (to_unfold s r.0 (FailsAt at) (passes tt r.1 (is_over tt ((place, k), refl))))

        go : (o : Outcome) → (is_positive x.1 ≡ true) × (at_most x.1 (amount there.less (Folded x.0)) ≡ true) →
            and_then (failing_at at (give p (IsPossible p a) x.1 e (with_store (bind d.parameters x.0.arguments) (with_holdings (lost (Folded x.0) x.1 w.holdings) w)))) (λ t. ends (with_store w.store t)) o → Surely (GoesTo p ds a keeps (After (run p (Unfold at i es share)) Reached) w o)
        go (FailsAt place) h (goes_on t first rest) = absurd rest
        go (FailsAt place) h (is_over over first) = absurd (never_opens p l at x.0 x.1 (record { holds = h.0 }) d e named is types there (record { holds = h.1 }) no_fail first.0.0 first.0.1)
        go Stops h r = surely tt
        go (Ends u) h (is_over over first) = absurd over
        go (Ends u) h (goes_on t first rest) = surely_map (opened p l at x.0 x.1 (record { holds = h.0 }) d e named is types there (record { holds = h.1 }) no_fail (After (run p (Unfold at i es share)) Reached)
            (λ g old r t k. (seen w there.less there.old_less g old, r.0.0, to_unfold (seen w there.less there.old_less g old) r.0 (Ends (with_store w.store t)) (passes tt r.1 (goes_on t k refl)))) t first)
            (λ k. subst (IsFollowed p ds a keeps (After (run p (Unfold at i es share)) Reached) w) (sym rest) k)

    unfolded_done : (o : Outcome) → checked (λ n. guard at (has_instance w x.0 x.1)) (λ _. and_then (failing_at at (give p (IsPossible p a) x.1 e (with_store (bind d.parameters x.0.arguments) (with_holdings (lost (Folded x.0) x.1 w.holdings) w)))) (λ t. ends (with_store w.store t))) o →
        Surely (GoesTo p ds a keeps (After (run p (Unfold at i es share)) Reached) w o)
    unfolded_done o r = surely_then (passing_same p (good_bodies p l.typed) l.kept f (λ s n. guard at (has_instance s x.0 x.1)) (λ n. guard at (has_instance w x.0 x.1)) has_rises (λ s _. given_in s) (λ s r place k. never s r.0 place (to_unfold s r (FailsAt place) k))
        (λ _. and_then (failing_at at (give p (IsPossible p a) x.1 e (with_store (bind d.parameters x.0.arguments) (with_holdings (lost (Folded x.0) x.1 w.holdings) w)))) (λ t. ends (with_store w.store t))) o r) (λ k. with_instance o (narrowed p (good_bodies p l.typed) l.kept f (λ s. Eventually (λ n. guard at (has_instance s x.0 x.1) ≡ Ok tt)) k.each) k.on)

  pub unfold_goes : (n : ℕ) → StmtGoes p n (Unfold at i es share)
  unfold_goes n ds a keeps Reached w ty f never = to_goes (λ o r. surely_then (fitted o r) (λ k. go o k))
    where
      fitted : (o : Outcome) → checked (λ n. instance_at p n w at i es share) (unfold_it_beside p a w at) o →
          Surely (Same p (good_bodies p l.typed) l.kept ds Reached w f.less f.old_less (λ s n. instance_at p n s at i es share) (λ n. instance_at p n w at i es share) (unfold_it_beside p a w at) o)
      fitted o r = passing_same p (good_bodies p l.typed) l.kept f (λ s n. instance_at p n s at i es share) (λ n. instance_at p n w at i es share)
          (λ g old u. instance_rises p l.fits ds w (seen w f.less f.old_less g old) u at i es share ty.0.0.parameters ty.0.2 ty.1)
          (λ s. unfold_it_beside p nobody s at) (λ s r place k. never s r place k) (unfold_it_beside p a w at) o r

      go : (o : Outcome) → Same p (good_bodies p l.typed) l.kept ds Reached w f.less f.old_less (λ s n. instance_at p n s at i es share) (λ n. instance_at p n w at i es share) (unfold_it_beside p a w at) o → Surely (GoesTo p ds a keeps (After (run p (Unfold at i es share)) Reached) w o)
      go o k =
          let at_w = named_there p k.by.0 w at i es share k.it.0 k.it.1 (k.by.1 k.by.0 (self k.by.0)) in
          let b = bodied p k.it.0 (λ y e. checked (λ n. guard at (has_instance w k.it.0 k.it.1)) (λ _. and_then (failing_at at (give p (IsPossible p a) k.it.1 e (with_store y (with_holdings (lost (Folded k.it.0) k.it.1 w.holdings) w)))) (λ t. ends (with_store w.store t)))) o k.on in
          let same : ty.0.0 ≡ b.predicate = same_predicate ty.0.0 b.predicate (sym ty.0.1 ∙ ap (λ (j : Instance). predicate_named p j.predicate) (sym at_w.is) ∙ b.is_named) in
          let values = all_typed p l.typed ds w es ty.0.0.parameters k.it.0.arguments (store_typed ds w.store f.store) ty.0.2 (k.by.0, λ n le. arguments n k.it (k.by.1 n le)) in
          unfolded_done never k.it b.predicate b.body b.is_named b.body_is (subst (λ (z : Predicate). run.HaveTypes z.parameters k.it.0.arguments) same values) (narrowed p (good_bodies p l.typed) l.kept f (λ s. Eventually (λ n. instance_at p n s at i es share ≡ Ok k.it)) k.each) o b.on
        where
          self : (n : ℕ) → n ≤ n
          self n = omega arith

          same_predicate : (b c : Predicate) → Some b ≡ Some c → b ≡ c
          same_predicate b c e = cc

          arguments : (n : ℕ) (x : Instance × Fraction) → instance_at p n w at i es share ≡ Ok x → fit_all p (deeper p n) w es ≡ Ok x.0.arguments
          arguments n x e =
              let m = named_there p n w at i es share x.0 x.1 e in
              m.fits ∙ ap (λ (j : Instance). let r : Checked (List Value) = Ok j.arguments in r) (sym m.is)
