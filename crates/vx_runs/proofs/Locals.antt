-- Statements that change variables alone, and assertions that only look: they go.
use Rattle.std.proofs.Common.{◌≡◌, ℕ, true, false, ◌⊎◌, inl, inr, [], ◌∷◌, ◌++◌, refl, sym, subst}
use Rattle.vx_ast.specs.declared.Place.{Place}
use Rattle.vx_ast.specs.declared.ValueType.{ValueType}
use Rattle.vx_frac.specs.Fractions.{full}
use Rattle.vx_ast.specs.Syntax.{Name, Program, Expr, Assertion, Declare, Assign, Assert, Assume, Inhale}
use Rattle.vx_meaning.specs.Values.{Value, is_true, type_of}
use Rattle.vx_meaning.specs.States.{State, Store, Heap, Holdings, assign, declare, with_store}
use Rattle.vx_meaning.specs.Fits.{fit_by, take_by}
use Rattle.vx_meaning.specs.Outcomes.{Outcome, Ends, FailsAt, ends, stops, passes, checked}
use Rattle.vx_meaning.specs.Give.{side}
use Rattle.vx_meaning.specs.Around.{Around}
use Rattle.vx_meaning.specs.Run.{run}
use Rattle.vx_types.specs.Typing.{Scope}
use Rattle.vx_amounts.proofs.Amounts.{full-positive}
use Rattle.vx_sound_preds.proofs.Typed.{good_bodies}
use Rattle.vx_runs.proofs.Surely.{Surely, surely, surely_map}
use Rattle.vx_runs.proofs.Followed.{Agree, Follows, Took, StmtGoes, StoreOf, After}
use Rattle.vx_runs.proofs.Agreeing.{agree_self}
use Rattle.vx_runs.proofs.Stores.{store_declared, store_assigned, store_typed}
use Rattle.vx_runs.proofs.Laws.{Laws, fits_typed}
use Rattle.vx_runs.proofs.Beneath.{seen, IsBeneath, fewer_less, beneath, Same, passing_same, Passing, passing, follows_here, side_ends, on_true}

-- where a part of a whole run ends
abbrev pub IsFollowed : (p : Program) (ds : Scope) (a : Around) (keeps : Holdings) (Then : State → Type 0) (w t : State) → Type 0
IsFollowed p ds a keeps Then w t = Follows p ds a keeps Then t × Agree p w.heap (a.holdings ++ keeps) t.heap

module _ (p : Program) (l : Laws p) where
  -- another store
  stored : {ds : Scope} {a : Around} {keeps : Holdings} {Reached : State → Type 0} {w : State} (f : Follows p ds a keeps Reached w) (ds' : Scope) (Then : State → Type 0) (x : Store) → StoreOf ds' x →
      ((g : Heap) → Agree p w.heap f.less g → Surely (IsBeneath p ds Reached w f.less f.old_less (λ g' old. Then record { store = x; heap = g'; holdings = f.less; old_heap = old; old_holdings = f.old_less }) g)) →
      IsFollowed p ds' a keeps Then w (with_store x w)
  stored {a = a} {keeps = keeps} {w = w} f ds' Then x store reach =
      (follows_here p (good_bodies p l.typed) l.kept f ds' Then x w.holdings store f.whole f.debts f.less f.fewer f.sane (λ l z. z) reach, agree_self p w.heap (a.holdings ++ keeps))

  pub declare_goes : (n : ℕ) (at : Place) (x : Name) (t : ValueType) → StmtGoes p n (Declare at x t)
  declare_goes n at x t ds a keeps Reached w ty f never = record {
    fine = λ at r. r.1.1;
    on = λ u r. surely (subst (IsFollowed p (ds ++ record { name = x; of = t } ∷ []) a keeps (After (run p (Declare at x t)) Reached) w) (sym r.1.1) (goes r.0 r.1.0));
  }
    where
      goes : (v : Value) → type_of v ≡ t → IsFollowed p (ds ++ record { name = x; of = t } ∷ []) a keeps (After (run p (Declare at x t)) Reached) w (declare x v w)
      goes v e = stored f (ds ++ record { name = x; of = t } ∷ []) (After (run p (Declare at x t)) Reached) (w.store ++ (x, v) ∷ []) (store_declared ds w.store x t v f.store e)
          (λ g agree. surely_map (beneath p (good_bodies p l.typed) l.kept f g agree) (λ b. (b.0, b.1, b.2, (seen w f.less f.old_less b.0 b.1, b.2.reached, (v, (e, refl))))))

  pub assign_goes : (n : ℕ) (at : Place) (x : Name) (e : Expr) → StmtGoes p n (Assign at x e)
  assign_goes n at x e ds a keeps Reached w ty f never = record { fine = λ place r. passed (FailsAt place) r (λ k. k.on); on = λ u r. surely_map (passed (Ends u) r) (goes u) }
    where
      passed : (o : Outcome) → checked (λ n. fit_by p n w e) (λ v. ends (with_store (assign x v w.store) w)) o →
          Surely (Same p (good_bodies p l.typed) l.kept ds Reached w f.less f.old_less (λ s n. fit_by p n s e) (λ n. fit_by p n w e) (λ v. ends (with_store (assign x v w.store) w)) o)
      passed o r = passing_same p (good_bodies p l.typed) l.kept f (λ s n. fit_by p n s e) (λ n. fit_by p n w e) (λ g old u. let r = l.fits in r.fits ds w (seen w f.less f.old_less g old) u e ty.0 ty.2) (λ s v. ends (with_store (assign x v s.store) s))
          (λ s r at k. never s r at k) (λ v. ends (with_store (assign x v w.store) w)) o r

      goes : (u : State) → Same p (good_bodies p l.typed) l.kept ds Reached w f.less f.old_less (λ s n. fit_by p n s e) (λ n. fit_by p n w e) (λ v. ends (with_store (assign x v w.store) w)) (Ends u) → IsFollowed p ds a keeps (After (run p (Assign at x e)) Reached) w u
      goes u k = subst (IsFollowed p ds a keeps (After (run p (Assign at x e)) Reached) w) (sym k.on)
          (stored f ds (After (run p (Assign at x e)) Reached) (assign x k.it w.store) (store_assigned ds w.store x ty.0 k.it f.store ty.1 (fits_typed p l.typed ds w e ty.0 k.it (store_typed ds w.store f.store) ty.2 k.by))
          (λ g agree. surely_map (k.each g agree) (λ b. (b.0, b.1, b.2, (seen w f.less f.old_less b.0 b.1, b.2.reached, passes k.it b.3 refl)))))

  pub assert_goes : (n : ℕ) (at : Place) (x : Assertion) → StmtGoes p n (Assert at x)
  assert_goes n at x ds a keeps Reached w ty f never = record { fine = λ place r. passed (FailsAt place) r (λ k. k.on); on = λ u r. surely_map (passed (Ends u) r) (goes u) }
    where
      passed : (o : Outcome) → checked (λ n. take_by p n w full x w.holdings) (λ _. ends w) o →
          Surely (Passing p (good_bodies p l.typed) l.kept (Took p f.less w.holdings) ds Reached w f.less f.old_less (λ s n. take_by p n s full x s.holdings) (λ n. take_by p n w full x w.holdings) (λ _. ends w) o)
      passed o r = passing p (good_bodies p l.typed) l.kept (Took p f.less w.holdings) f (λ s n. take_by p n s full x s.holdings) (λ n. take_by p n w full x w.holdings)
          (λ g old u. l.takes ds w (seen w f.less f.old_less g old) u full full-positive x ty w.holdings f.less (fewer_less p (good_bodies p l.typed) l.kept f) f.sane.typed f.sane.debts)
          (λ s _. ends s) (λ s r at k. never s r at k) (λ _. ends w) o r

      goes : (u : State) → Passing p (good_bodies p l.typed) l.kept (Took p f.less w.holdings) ds Reached w f.less f.old_less (λ s n. take_by p n s full x s.holdings) (λ n. take_by p n w full x w.holdings) (λ _. ends w) (Ends u) → IsFollowed p ds a keeps (After (run p (Assert at x)) Reached) w u
      goes u k = subst (IsFollowed p ds a keeps (After (run p (Assert at x)) Reached) w) (sym k.on)
          (stored f ds (After (run p (Assert at x)) Reached) w.store f.store (λ g agree. surely_map (k.each g agree) (λ b. (b.0, b.1, b.2, (seen w f.less f.old_less b.0 b.1, b.2.reached, passes b.3.0 b.3.2 refl)))))

  pub assume_goes : (n : ℕ) (at : Place) (e : Expr) → StmtGoes p n (Assume at e)
  assume_goes n at e ds a keeps Reached w ty f never = record { fine = λ place r. passed (FailsAt place) r (λ k. no_failure place (side_ends k.it (ends w) stops (FailsAt place) k.on)); on = λ u r. surely_map (passed (Ends u) r) (λ k. goes u k (side_ends k.it (ends w) stops (Ends u) k.on)) }
    where
      no_failure : {A B : Type 0} (place : Place) → (A × ⊥) ⊎ (B × ⊥) → ⊥
      no_failure place (inl k) = k.1
      no_failure place (inr k) = k.1

      passed : (o : Outcome) → checked (λ n. fit_by p n w e) (λ v. side v (ends w) stops) o → Surely (Same p (good_bodies p l.typed) l.kept ds Reached w f.less f.old_less (λ s n. fit_by p n s e) (λ n. fit_by p n w e) (λ v. side v (ends w) stops) o)
      passed o r = passing_same p (good_bodies p l.typed) l.kept f (λ s n. fit_by p n s e) (λ n. fit_by p n w e) (λ g old u. let r = l.fits in r.fits ds w (seen w f.less f.old_less g old) u e _ ty) (λ s v. side v (ends s) stops)
          (λ s r at k. never s r at k) (λ v. side v (ends w) stops) o r

      goes : (u : State) (k : Same p (good_bodies p l.typed) l.kept ds Reached w f.less f.old_less (λ s n. fit_by p n s e) (λ n. fit_by p n w e) (λ v. side v (ends w) stops) (Ends u)) → ((is_true k.it ≡ true) × (u ≡ w)) ⊎ ((is_true k.it ≡ false) × ⊥) →
          IsFollowed p ds a keeps (After (run p (Assume at e)) Reached) w u
      goes u k (inr x) = absurd x.1
      goes u k (inl x) = subst (IsFollowed p ds a keeps (After (run p (Assume at e)) Reached) w) (sym x.1)
          (stored f ds (After (run p (Assume at e)) Reached) w.store f.store
          (λ g agree. surely_map (k.each g agree) (λ b. let s = seen w f.less f.old_less b.0 b.1 in (b.0, b.1, b.2, (s, b.2.reached, passes k.it b.3 (on_true k.it (ends s) stops (Ends s) x.0 refl))))))

  pub inhale_goes : (n : ℕ) (at : Place) (x : Assertion) → StmtGoes p n (Inhale at x)
  inhale_goes n at x ds a keeps Reached w ty f never = l.gives ds a keeps Reached w full x full-positive ty f (λ s r at k. never s r at k)
