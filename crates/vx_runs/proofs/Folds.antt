-- A fold goes: the body is taken from more and from less alike, and the instance stands for it in both.
use Rattle.std.proofs.Common.{arith, ◌≡◌, ◌≤◌, ℕ, ◌⊎◌, inl, inr, List, ◌∷◌, ◌++◌, Some, refl, sym, ◌∙◌, ap, subst}
use Rattle.std.specs.Prelude.{Ok, Err}
use Rattle.vx_ast.specs.declared.Place.{Place}
use Rattle.vx_frac.specs.Fractions.{Fraction}
use Rattle.vx_ast.specs.Syntax.{Name, Program, Predicate, predicate_named, Expr, Exprs, Assertion, Fold}
use Rattle.vx_meaning.specs.Values.{Value}
use Rattle.vx_meaning.specs.States as run
use Rattle.vx_meaning.specs.States.{State, Heap, Holdings, Location, Instance, Folded, bind, gained, with_store, with_holdings}
use Rattle.vx_meaning.specs.Consistent.{IsHeld}
use Rattle.vx_meaning.specs.Fits.{Checked, placed, take_by, Eventually}
use Rattle.vx_meaning.specs.Outcomes.{Outcome, Ends, FailsAt, Stops, Outcomes, ends, checked, passes, refused}
use Rattle.vx_meaning.specs.Around.{Around}
use Rattle.vx_meaning.specs.Run as meaning
use Rattle.vx_meaning.specs.Run.{instance_at, fold}
use Rattle.vx_types.specs.Typing.{Scope}
use Rattle.vx_types.specs.Premises.{IsTypedProgram}
use Rattle.vx_amounts.proofs.Amounts.{Positive}
use Rattle.vx_amounts.proofs.Products.{positive_le}
use Rattle.vx_sound.proofs.World.{IsTypedInstance}
use Rattle.vx_sound_preds.specs.Bodies.{GoodBodies}
use Rattle.vx_sound_preds.proofs.Framing.{ok_same}
use Rattle.vx_sound_preds.proofs.Holding.{TypedAll}
use Rattle.vx_sound_preds.proofs.Typed.{good_bodies}
use Rattle.vx_sound_preds.proofs.Types.{found_type}
use Rattle.vx_runs.proofs.Followed.{Any, Sane, SaneKept, FitsRise, TakesRise, Agree, Under, Took, Follows, NeverFails, After, StmtGoes}
use Rattle.vx_runs.proofs.Surely.{Surely, surely, surely_then, surely_map}
use Rattle.vx_runs.proofs.Rising.{RisesTo, Passes, Refuses, one_end}
use Rattle.vx_runs.proofs.Fewer.{at_most_self, at_most_both, sane_fewer}
use Rattle.vx_runs.proofs.Gone.{same_front}
use Rattle.vx_runs.proofs.Shared.{gained_debts}
use Rattle.vx_runs.proofs.Taking.{typed_both}
use Rattle.vx_runs.proofs.Together.{front, swap, more_with, debts_both, debts_more, typed_left, typed_right}
use Rattle.vx_runs.proofs.Agreeing.{agree_self, held_there}
use Rattle.vx_runs.proofs.Stores.{store_typed}
use Rattle.vx_runs.proofs.Beneath.{seen, Beneath, fewer_less, sane_alone, follows_here}
use Rattle.vx_runs.proofs.Takings.{Taken, taking}
use Rattle.vx_runs.proofs.Exchanging.{body_typed, instance_kind}
use Rattle.vx_runs.proofs.Decided.{Decided, decided}
use Rattle.vx_runs.proofs.Branches.{GoesTo, to_goes}
use Rattle.vx_runs.proofs.Instances.{rises_placed, named, instance_rises, bodied, with_its_body, folded_sane, folded_covers}

-- another store, and what is known of it, in both
pub entered_under : (p : Program) (ds : Scope) (w s : State) → Under p ds w s → (es : Scope) (vs : List Value) → run.HaveTypes es vs → Under p es (with_store (bind es vs) w) (with_store (bind es vs) s)
entered_under p ds w s k es vs types = record {
  store = λ x t is. refl;
  typed = λ x t v a b. found_type x t es vs v types a b;
  sane = k.sane;
  fewer = k.fewer;
  agree = k.agree;
  old_sane = k.old_sane;
  old_fewer = k.old_fewer;
  old_agree = k.old_agree;
}

module _ (p : Program) (typed : IsTypedProgram p) (kept_sane : SaneKept p) (rise : FitsRise p) (takes : TakesRise p) where
  good : GoodBodies p
  good = good_bodies p typed

  same_predicate : (a b : Predicate) → Some a ≡ Some b → a ≡ b
  same_predicate a b e = cc

  self : (n : ℕ) → n ≤ n
  self n = omega arith

  module _ (at : Place) (i : Name) (es : Exprs) (share : Expr) (ds : Scope) (a : Around) (kept : Holdings) (Reached : State → Type 0) (w : State) (k : Instance) (q : Fraction) (positive : Positive q) (kind : IsTypedInstance p Any k)
      (f : Follows p ds a kept (λ s. Reached s × Eventually (λ n. instance_at p n s at i es share ≡ Ok (k, q))) w) (never : NeverFails Reached (meaning.run p (Fold at i es share))) (d : Predicate) (e : Assertion) (is : predicate_named p k.predicate ≡ Some d) (body : d.body ≡ Some e) where
    abbrev Known : State → Type 0
    Known s = Reached s × Eventually (λ n. instance_at p n s at i es share ≡ Ok (k, q))

    types : run.HaveTypes d.parameters k.arguments
    types = subst (λ (d : Predicate). run.HaveTypes d.parameters k.arguments) (same_predicate kind.1.0 d (sym kind.1.1 ∙ is)) kind.1.3

    -- what a fold does with its body
    abbrev takes_body : State → ℕ → Checked Holdings
    takes_body s n = placed at (take_by p n (with_store (bind d.parameters k.arguments) s) q e s.holdings)

    abbrev folds : State → Holdings → Outcomes
    folds s h = ends (with_holdings (gained (Folded k) q h) s)

    run_it : (s : State) → Known s → (o : Outcome) → checked (λ n. placed at (take_by p n (with_store (bind d.parameters k.arguments) s) q e s.holdings)) (λ h. ends (with_holdings (gained (Folded k) q h) s)) o → meaning.run p (Fold at i es share) s o
    run_it s r o h = passes (k, q) r.1 (with_its_body p k (λ x e. checked (λ n. placed at (take_by p n (with_store x s) q e s.holdings)) (λ h. ends (with_holdings (gained (Folded k) q h) s))) o d e is body h)

    body_rises : (w s : State) → Under p ds w s → RisesTo (Took p s.holdings w.holdings) (λ n. placed at (take_by p n (with_store (bind d.parameters k.arguments) s) q e s.holdings)) (λ n. placed at (take_by p n (with_store (bind d.parameters k.arguments) w) q e w.holdings))
    body_rises w s u = rises_placed (Took p s.holdings w.holdings) at (λ n. take_by p n (with_store (bind d.parameters k.arguments) s) q e s.holdings) (λ n. take_by p n (with_store (bind d.parameters k.arguments) w) q e w.holdings)
        (takes d.parameters (with_store (bind d.parameters k.arguments) w) (with_store (bind d.parameters k.arguments) s) (entered_under p ds w s u d.parameters k.arguments types) q positive e (body_typed p typed k.predicate d e is body) w.holdings s.holdings u.fewer (let z = u.sane in z.typed) (let z = u.sane in z.debts))

    unplaced : {A : Type 0} (c : Checked A) (v : A) → placed at c ≡ Ok v → c ≡ Ok v
    unplaced (Ok x) v h = h
    unplaced (Err other) v h = absurd (differ h)
      where
        differ : Err at ≡ Ok v → ⊥
        differ h = cc

    abbrev TakenIt : Outcome → Type 0
    TakenIt o = Taken p (good_bodies p typed) kept_sane ds (λ s. Reached s × Eventually (λ n. instance_at p n s at i es share ≡ Ok (k, q))) w f.less f.old_less (λ s n. placed at (take_by p n (with_store (bind d.parameters k.arguments) s) q e s.holdings))
        (λ n. placed at (take_by p n (with_store (bind d.parameters k.arguments) w) q e w.holdings)) (λ h. ends (with_holdings (gained (Folded k) q h) w)) o

    module _ (o : Outcome) (t : TakenIt o) where
      big : State
      big = with_holdings (a.holdings ++ w.holdings) w

      big_under : Under p ds (with_holdings (a.holdings ++ w.holdings) w) w
      big_under = record {
        store = λ x t is. refl;
        typed = store_typed ds w.store f.store;
        sane = sane_alone p good kept_sane f;
        fewer = more_with a.holdings w.holdings f.around;
        agree = agree_self p w.heap w.holdings;
        old_sane = f.old_whole;
        old_fewer = at_most_self w.old_holdings;
        old_agree = agree_self p w.old_heap w.old_holdings;
      }

      of_whole : TypedAll p Any (a.holdings ++ w.holdings)
      of_whole = let z = f.whole in z.typed

      -- with those who wait counted too
      whole_folded : Surely (Sane p w.heap (a.holdings ++ gained (Folded k) q (t.entries ++ w.holdings)))
      whole_folded = surely_map (body_rises (with_holdings (a.holdings ++ w.holdings) w) w big_under) go
        where
          folded_all : (all : Holdings) → Eventually (λ n. placed at (take_by p n (with_store (bind d.parameters k.arguments) (with_holdings (a.holdings ++ w.holdings) w)) q e (a.holdings ++ w.holdings)) ≡ Ok all) → all ≡ t.entries ++ (a.holdings ++ w.holdings) →
              Sane p w.heap (a.holdings ++ gained (Folded k) q (t.entries ++ w.holdings))
          folded_all all (n, x) same =
              let taken = unplaced (take_by p n (with_store (bind d.parameters k.arguments) (with_holdings (a.holdings ++ w.holdings) w)) q e (a.holdings ++ w.holdings)) all (x n (self n)) in
              let kinds = typed_both p t.entries (a.holdings ++ w.holdings) t.typed of_whole in
              let one : Sane p w.heap (gained (Folded k) q (t.entries ++ (a.holdings ++ w.holdings))) =
              folded_sane p typed (with_holdings (a.holdings ++ w.holdings) w) (t.entries ++ (a.holdings ++ w.holdings)) f.whole k q positive kind d e is body n (taken ∙ ap (λ (z : Holdings). let r : Checked Holdings = Ok z in r) same) kinds in
              let entry = (Folded k, q) ∷ t.entries in
              let left_debts = debts_more (t.entries ++ f.less) (t.entries ++ w.holdings) t.debts (front t.entries f.less w.holdings (fewer_less p good kept_sane f)) in
              sane_fewer p good w.heap (a.holdings ++ gained (Folded k) q (t.entries ++ w.holdings)) (gained (Folded k) q (t.entries ++ (a.holdings ++ w.holdings))) one
              (typed_both p a.holdings (gained (Folded k) q (t.entries ++ w.holdings)) (typed_left p a.holdings w.holdings of_whole) (kind, typed_both p t.entries w.holdings t.typed (typed_right p a.holdings w.holdings of_whole)))
              (debts_both a.holdings (gained (Folded k) q (t.entries ++ w.holdings)) f.around (gained_debts p (Folded k) q (t.entries ++ w.holdings) (positive_le positive) left_debts))
              (swap a.holdings ((Folded k, q) ∷ t.entries) w.holdings)

          go : Passes (Took p w.holdings (a.holdings ++ w.holdings)) (λ n. placed at (take_by p n (with_store (bind d.parameters k.arguments) w) q e w.holdings))
              (λ n. placed at (take_by p n (with_store (bind d.parameters k.arguments) (with_holdings (a.holdings ++ w.holdings) w)) q e (a.holdings ++ w.holdings)))
              ⊎ Refuses (λ n. placed at (take_by p n (with_store (bind d.parameters k.arguments) w) q e w.holdings)) → Sane p w.heap (a.holdings ++ gained (Folded k) q (t.entries ++ w.holdings))
          go (inr x) = absurd (differ (one_end (λ n. placed at (take_by p n (with_store (bind d.parameters k.arguments) w) q e w.holdings)) (Err x.0) (Ok (t.entries ++ w.holdings)) x.1 t.by))
            where
              differ : ◌≡◌ {A = Checked Holdings} (Err x.0) (Ok (t.entries ++ w.holdings)) → ⊥
              differ h = cc
          go (inl x) =
              let r = x.related in
              let here : x.less ≡ t.entries ++ w.holdings = ok_same x.less (t.entries ++ w.holdings) (one_end (λ n. placed at (take_by p n (with_store (bind d.parameters k.arguments) w) q e w.holdings)) (Ok x.less) (Ok (t.entries ++ w.holdings)) x.by_less t.by) in
              let same : r.entries ≡ t.entries = same_front r.entries t.entries w.holdings (sym r.few_is ∙ here) in
              folded_all x.more x.by_more (r.many_is ∙ ap (λ (z : Holdings). z ++ (a.holdings ++ w.holdings)) same)

      less_kinds : TypedAll p Any (t.entries ++ f.less)
      less_kinds = typed_both p t.entries f.less t.typed (let z = f.sane in z.typed)

      -- what the run by contracts held it holds still
      less_covers : Surely ((l : Location) → IsHeld p w.heap f.less l → IsHeld p w.heap (gained (Folded k) q (t.entries ++ f.less)) l)
      less_covers = surely_map (t.each w.heap (agree_self p w.heap f.less)) (λ b. go b.0 b.1 b.2 b.3)
        where
          go : (g o : Heap) → Beneath p ds (λ s. Reached s × Eventually (λ n. instance_at p n s at i es share ≡ Ok (k, q))) w f.less f.old_less w.heap g o →
              Eventually (λ n. placed at (take_by p n (with_store (bind d.parameters k.arguments) (seen w f.less f.old_less g o)) q e f.less) ≡ Ok (t.entries ++ f.less)) →
              (l : Location) → IsHeld p w.heap f.less l → IsHeld p w.heap (gained (Folded k) q (t.entries ++ f.less)) l
          go g o b (n, x) l y =
              let v = seen w f.less f.old_less g o in
              let u = b.under in
              let taken = unplaced (take_by p n (with_store (bind d.parameters k.arguments) v) q e f.less) (t.entries ++ f.less) (x n (self n)) in
              let there = held_there p good kept_sane w.heap g f.less f.sane b.agree l y in
              let now = folded_covers p typed v (t.entries ++ f.less) u.sane k q positive kind d e is body n taken l there in
              let sane = folded_sane p typed v (t.entries ++ f.less) u.sane k q positive kind d e is body n taken less_kinds in
              held_there p good kept_sane g w.heap (gained (Folded k) q (t.entries ++ f.less)) sane (λ m z. sym (b.heap m)) l now

      abbrev Folded' : State → Type 0
      Folded' u = Follows p ds a kept (After (meaning.run p (Fold at i es share)) Reached) u × Agree p w.heap (a.holdings ++ kept) u.heap

      followed : Surely (Follows p ds a kept (After (meaning.run p (Fold at i es share)) Reached) (with_holdings (gained (Folded k) q (t.entries ++ w.holdings)) w) × Agree p w.heap (a.holdings ++ kept) w.heap)
      followed = surely_then whole_folded (λ whole. surely_map less_covers (λ covers. (by_facts whole covers, agree_self p w.heap (a.holdings ++ kept))))
        where
          by_facts : Sane p w.heap (a.holdings ++ gained (Folded k) q (t.entries ++ w.holdings)) → ((l : Location) → IsHeld p w.heap f.less l → IsHeld p w.heap (gained (Folded k) q (t.entries ++ f.less)) l) →
              Follows p ds a kept (After (meaning.run p (Fold at i es share)) Reached) (with_holdings (gained (Folded k) q (t.entries ++ w.holdings)) w)
          by_facts whole covers =
              let entry = (Folded k, q) ∷ t.entries in
              let left_debts = debts_more (t.entries ++ f.less) (t.entries ++ w.holdings) t.debts (front t.entries f.less w.holdings (fewer_less p good kept_sane f)) in
              let all_debts = gained_debts p (Folded k) q (t.entries ++ w.holdings) (positive_le positive) left_debts in
              let less_debts = gained_debts p (Folded k) q (t.entries ++ f.less) (positive_le positive) t.debts in
              let few = at_most_both (kept ++ (entry ++ f.less)) (entry ++ (kept ++ f.less)) (entry ++ w.holdings) (swap kept entry f.less) (front entry (kept ++ f.less) w.holdings f.fewer) in
              let sane = sane_fewer p good w.heap (entry ++ f.less) (a.holdings ++ (entry ++ w.holdings)) whole (kind, less_kinds) less_debts
              (at_most_both (entry ++ f.less) (entry ++ w.holdings) (a.holdings ++ (entry ++ w.holdings)) (front entry f.less w.holdings (fewer_less p good kept_sane f)) (more_with a.holdings (entry ++ w.holdings) f.around)) in
              follows_here p good kept_sane f ds (After (meaning.run p (Fold at i es share)) Reached) w.store (entry ++ w.holdings) f.store whole all_debts (entry ++ f.less) few sane covers
              (λ g agree. surely_map (t.each g agree) (λ b. let s = seen w f.less f.old_less b.0 b.1 in let y = b.2 in
              (b.0, b.1, b.2, (s, (let r = y.reached in r.0), run_it s y.reached (Ends (with_holdings (gained (Folded k) q (t.entries ++ f.less)) s)) (passes (t.entries ++ f.less) b.3 refl)))))

    by_outcome : (o : Outcome) → TakenIt o → Surely (GoesTo p ds a kept (After (meaning.run p (Fold at i es share)) Reached) w o)
    by_outcome (Ends u) t = surely_map (followed (Ends u) t) (λ y. subst (λ (z : State). Follows p ds a kept (After (meaning.run p (Fold at i es share)) Reached) z × Agree p w.heap (a.holdings ++ kept) z.heap) (sym t.on) y)
    by_outcome (FailsAt place) t = absurd t.on
    by_outcome Stops t = surely tt

    fold_to : (o : Outcome) → checked (λ n. placed at (take_by p n (with_store (bind d.parameters k.arguments) w) q e w.holdings)) (λ h. ends (with_holdings (gained (Folded k) q h) w)) o → Surely (GoesTo p ds a kept (After (meaning.run p (Fold at i es share)) Reached) w o)
    fold_to o r = surely_then
        (taking p (good_bodies p typed) kept_sane f (λ s n. placed at (take_by p n (with_store (bind d.parameters k.arguments) s) q e s.holdings)) (λ n. placed at (take_by p n (with_store (bind d.parameters k.arguments) w) q e w.holdings))
        (λ g old u. body_rises w (seen w f.less f.old_less g old) u) (λ s h. ends (with_holdings (gained (Folded k) q h) s)) (λ s r place h. never s r.0 place (run_it s r (FailsAt place) h)) (λ h. ends (with_holdings (gained (Folded k) q h) w)) o r) (by_outcome o)

  pub fold_goes : (n : ℕ) (at : Place) (i : Name) (es : Exprs) (share : Expr) → StmtGoes p n (Fold at i es share)
  fold_goes n at i es share ds a kept Reached w ty f never = to_goes (λ o r. surely_then
      (decided p typed kept_sane ds a kept Reached (λ s n. instance_at p n s at i es share) w f (λ s u. instance_rises p rise ds w s u at i es share _ ty.0.2 ty.1) (λ s r y. never s r y.0 (refused y.0 y.1 refl)) (fold p w at) o r) (go o))
    where
      go : (o : Outcome) → Decided p typed kept_sane ds a kept Reached (λ s n. instance_at p n s at i es share) w (fold p w at) o → Surely (GoesTo p ds a kept (After (meaning.run p (Fold at i es share)) Reached) w o)
      go o x =
          let k = x.result.0 in
          let q = x.result.1 in
          let z = named p x.passes.0 w at i es share k q (x.passes.1 x.passes.0 (self x.passes.0)) in
          let kind : IsTypedInstance p Any k = subst (IsTypedInstance p Any) (sym z.is) (instance_kind p typed ds w (store_typed ds w.store f.store) x.passes.0 es i ty.0.0 z.arguments ty.0.1 ty.0.2 z.fits) in
          let b = bodied p k (λ y e. checked (λ n. placed at (take_by p n (with_store y w) q e w.holdings)) (λ h. ends (with_holdings (gained (Folded k) q h) w))) o x.on in
          fold_to at i es share ds a kept Reached w k q z.positive kind x.follows never b.predicate b.body b.is_named b.body_is o b.on
