-- What is given at once goes: to less the same entries are given as to more.
use Rattle.std.proofs.Common.{◌≡◌, ◌⊎◌, inl, inr, ◌++◌, sym, subst}
use Rattle.vx_ast.specs.declared.Place.{Place}
use Rattle.vx_frac.specs.Fractions.{Fraction}
use Rattle.vx_ast.specs.Syntax.{Program, Assertion}
use Rattle.vx_meaning.specs.States.{State, Heap, Holdings, with_holdings}
use Rattle.vx_meaning.specs.Consistent.{IsConsistent}
use Rattle.vx_meaning.specs.Outcomes.{Outcome, Ends, FailsAt}
use Rattle.vx_meaning.specs.Give.{give}
use Rattle.vx_meaning.specs.Around.{Around, IsPossible}
use Rattle.vx_types.specs.Typing.{Scope, IsTyped}
use Rattle.vx_amounts.proofs.Amounts.{Positive}
use Rattle.vx_sound_preds.proofs.Typed.{good_bodies}
use Rattle.vx_runs.proofs.Surely.{Surely, surely_then, surely_map}
use Rattle.vx_runs.proofs.Followed.{Sane, Agree, IsShown, Follows, NeverFails, After, Goes}
use Rattle.vx_runs.proofs.Fewer.{at_most_both, sane_fewer}
use Rattle.vx_runs.proofs.Taking.{typed_both}
use Rattle.vx_runs.proofs.Together.{front, swap, more_with, debts_both}
use Rattle.vx_runs.proofs.Agreeing.{agree_self, agree_fewer, alike_then}
use Rattle.vx_runs.proofs.GivenAtOnce.{GivesMore}
use Rattle.vx_runs.proofs.Stores.{store_typed}
use Rattle.vx_runs.proofs.Laws.{Laws}
use Rattle.vx_runs.proofs.Beneath.{seen, Beneath, fewer_less, beneath, follows}
use Rattle.vx_runs.proofs.Locals.{IsFollowed}

pub ends_is : (s t : State) → ◌≡◌ {A = Outcome} (Ends s) (Ends t) → s ≡ t
ends_is s t e = cc

pub no_failure : (at : Place) (t : State) → ◌≡◌ {A = Outcome} (FailsAt at) (Ends t) → ⊥
no_failure at t e = cc

module _ (p : Program) (l : Laws p) (ds : Scope) (a : Around) (keeps : Holdings) (Reached : State → Type 0) (w : State) (q : Fraction) (x : Assertion) (pos : Positive q) (ty : IsTyped p ds x) (f : Follows p ds a keeps Reached w)
    (never : NeverFails Reached (give p (IsConsistent p) q x)) where
  given_to : (o : Outcome) → IsShown o → give p (IsPossible p a) q x w o → Surely (GivesMore p ds a q x w o)
  given_to o shown r = l.rise ds a w q x pos ty (store_typed ds w.store f.store) f.whole f.debts f.around o shown r

  -- beneath, it ends with the same entries
  gave : (o : Outcome) (k : GivesMore p ds a q x w o) (h g old : Heap) → Agree p w.heap (k.entries ++ f.less) h → Beneath p ds Reached w f.less f.old_less h g old →
      Surely ((o ≡ Ends (with_holdings (k.entries ++ w.holdings) w)) × give p (IsConsistent p) q x (seen w f.less f.old_less g old) (Ends (with_holdings (k.entries ++ f.less) (seen w f.less f.old_less g old))))
  gave o k h g old agree b = surely_map (k.less (seen w f.less f.old_less g old) b.under (alike_then p w.heap h g (k.entries ++ f.less) agree b.heap)) go
    where
      go : ((o ≡ Ends (with_holdings (k.entries ++ w.holdings) w)) × give p (IsConsistent p) q x (seen w f.less f.old_less g old) (Ends (with_holdings (k.entries ++ f.less) (seen w f.less f.old_less g old))))
          ⊎ ((at : Place) × give p (IsConsistent p) q x (seen w f.less f.old_less g old) (FailsAt at)) →
          (o ≡ Ends (with_holdings (k.entries ++ w.holdings) w)) × give p (IsConsistent p) q x (seen w f.less f.old_less g old) (Ends (with_holdings (k.entries ++ f.less) (seen w f.less f.old_less g old)))
      go (inl r) = r
      go (inr (at, r)) = absurd (never (seen w f.less f.old_less g old) b.reached at r)

  followed : (t : State) (k : GivesMore p ds a q x w (Ends t)) → t ≡ with_holdings (k.entries ++ w.holdings) w → IsFollowed p ds a keeps (After (give p (IsConsistent p) q x) Reached) w t
  followed t k same = subst (IsFollowed p ds a keeps (After (give p (IsConsistent p) q x) Reached) w) (sym same) (
    follows p (good_bodies p l.typed) l.kept f ds (After (give p (IsConsistent p) q x) Reached) w.store (k.entries ++ w.holdings) w.heap f.store k.sane (debts_both k.entries w.holdings k.debts f.debts) (k.entries ++ f.less)
        (at_most_both (keeps ++ (k.entries ++ f.less)) (k.entries ++ (keeps ++ f.less)) (k.entries ++ w.holdings) (swap keeps k.entries f.less) (front k.entries (keeps ++ f.less) w.holdings f.fewer)) less_sane
        (λ h agree. surely_then (beneath p (good_bodies p l.typed) l.kept f h (agree_fewer p (good_bodies p l.typed) w.heap h f.less (k.entries ++ f.less) f.sane less_sane (more_with k.entries f.less k.debts) agree))
        (λ b. surely_map (gave (Ends t) k h b.0 b.1 agree b.2) (λ j. (b.0, b.1, (seen w f.less f.old_less b.0 b.1, b.2.reached, j.1), b.2.heap, b.2.old_heap)))),
    agree_self p w.heap (a.holdings ++ keeps),
  )
    where
      less_sane : Sane p w.heap (k.entries ++ f.less)
      less_sane = sane_fewer p (good_bodies p l.typed) w.heap (k.entries ++ f.less) (a.holdings ++ (k.entries ++ w.holdings)) k.sane (typed_both p k.entries f.less k.typed f.sane.typed) (debts_both k.entries f.less k.debts f.sane.debts)
          (at_most_both (k.entries ++ f.less) (k.entries ++ w.holdings) (a.holdings ++ (k.entries ++ w.holdings)) (front k.entries f.less w.holdings (fewer_less p (good_bodies p l.typed) l.kept f)) (more_with a.holdings (k.entries ++ w.holdings) f.around))

  pub once_goes : Goes p ds a keeps (After (give p (IsConsistent p) q x) Reached) w (give p (IsPossible p a) q x w)
  once_goes = record {
    fine = λ at r. given_to (FailsAt at) tt r (λ k. beneath p (good_bodies p l.typed) l.kept f w.heap (agree_self p w.heap f.less) (λ b. gave (FailsAt at) k w.heap b.0 b.1 (agree_self p w.heap (k.entries ++ f.less)) b.2 (λ j. no_failure at _ j.0)));
    on = λ t r. surely_then (given_to (Ends t) tt r) (λ k. surely_then (beneath p (good_bodies p l.typed) l.kept f w.heap (agree_self p w.heap f.less)) (λ b. surely_map (gave (Ends t) k w.heap b.0 b.1 (agree_self p w.heap (k.entries ++ f.less)) b.2) (λ j. followed t k (ends_is t (with_holdings (k.entries ++ w.holdings) w) j.0))));
  }
