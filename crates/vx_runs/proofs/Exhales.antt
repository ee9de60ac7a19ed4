-- An exhale goes: what is taken from more is taken from less, and then what nobody holds may change.
use Rattle.std.proofs.Common.{ℕ, ◌++◌, refl, sym, subst}
use Rattle.vx_ast.specs.declared.Place.{Place}
use Rattle.vx_frac.specs.Fractions.{full}
use Rattle.vx_ast.specs.Syntax.{Program, Assertion, Exhale}
use Rattle.vx_meaning.specs.States.{State, Heap, with_heap, with_holdings}
use Rattle.vx_meaning.specs.Fits.{take_by}
use Rattle.vx_meaning.specs.Outcomes.{Outcome, Ends, FailsAt, ends, passes, checked}
use Rattle.vx_meaning.specs.Around.{nobody}
use Rattle.vx_meaning.specs.Run.{run, after_change_beside}
use Rattle.vx_amounts.proofs.Amounts.{full-positive}
use Rattle.vx_sound_preds.specs.Bodies.{GoodBodies}
use Rattle.vx_sound_preds.proofs.Typed.{good_bodies}
use Rattle.vx_runs.proofs.Surely.{Surely, surely_map}
use Rattle.vx_runs.proofs.Followed.{Agree, Follows, StmtGoes, After}
use Rattle.vx_runs.proofs.Agreeing.{agree_self, agree_fewer, agree_then, agree_from, sane_there}
use Rattle.vx_runs.proofs.Laws.{Laws}
use Rattle.vx_runs.proofs.Beneath.{seen, fewer_less, follows}
use Rattle.vx_runs.proofs.Takings.{Taken, taking, Left, left_over, kept_agrees}
use Rattle.vx_runs.proofs.Locals.{IsFollowed}

module _ (p : Program) (l : Laws p) where
  good : GoodBodies p
  good = good_bodies p l.typed

  pub exhale_goes : (n : ℕ) (at : Place) (x : Assertion) → StmtGoes p n (Exhale at x)
  exhale_goes n at x ds a keeps Reached w ty f never = record { fine = λ place r. passed (FailsAt place) r (λ k. k.on.1.1); on = λ u r. surely_map (passed (Ends u) r) (goes u) }
    where
      passed : (o : Outcome) → checked (λ n. take_by p n w full x w.holdings) (λ h. after_change_beside p a (with_holdings h w) ends) o →
          Surely (Taken p (good_bodies p l.typed) l.kept ds Reached w f.less f.old_less (λ s n. take_by p n s full x s.holdings) (λ n. take_by p n w full x w.holdings) (λ h. after_change_beside p a (with_holdings h w) ends) o)
      passed o r = taking p (good_bodies p l.typed) l.kept f (λ s n. take_by p n s full x s.holdings) (λ n. take_by p n w full x w.holdings)
          (λ g old u. l.takes ds w (seen w f.less f.old_less g old) u full full-positive x ty w.holdings f.less (fewer_less p (good_bodies p l.typed) l.kept f) f.sane.typed f.sane.debts)
          (λ s h. after_change_beside p nobody (with_holdings h s) ends) (λ s r at k. never s r at k) (λ h. after_change_beside p a (with_holdings h w) ends) o r

      goes : (u : State) → Taken p (good_bodies p l.typed) l.kept ds Reached w f.less f.old_less (λ s n. take_by p n s full x s.holdings) (λ n. take_by p n w full x w.holdings) (λ h. after_change_beside p a (with_holdings h w) ends) (Ends u) →
          IsFollowed p ds a keeps (After (run p (Exhale at x)) Reached) w u
      goes u k = subst (IsFollowed p ds a keeps (After (run p (Exhale at x)) Reached) w) (sym k.on.1.1) (followed, kept_agrees p (good_bodies p l.typed) l.kept f w.heap h (k.entries ++ f.less) (k.entries ++ w.holdings) k.debts z.fewer z.whole k.on.1.0)
        where
          h : Heap
          h = k.on.0

          z : Left p (good_bodies p l.typed) l.kept a keeps w f.less (k.entries ++ f.less) (k.entries ++ w.holdings)
          z = left_over p (good_bodies p l.typed) l.kept f k.entries k.typed k.takes k.debts

          there : Agree p w.heap (k.entries ++ f.less) k.on.0
          there = agree_fewer p (good_bodies p l.typed) w.heap k.on.0 (k.entries ++ f.less) (a.holdings ++ (k.entries ++ w.holdings)) z.sane z.whole z.within k.on.1.0

          followed : Follows p ds a keeps (After (run p (Exhale at x)) Reached) (with_heap k.on.0 (with_holdings (k.entries ++ w.holdings) w))
          followed = follows p (good_bodies p l.typed) l.kept f ds (After (run p (Exhale at x)) Reached) w.store (k.entries ++ w.holdings) k.on.0 f.store (sane_there p (good_bodies p l.typed) l.kept w.heap k.on.0 (a.holdings ++ (k.entries ++ w.holdings)) z.whole k.on.1.0)
              z.debts (k.entries ++ f.less) z.fewer (sane_there p (good_bodies p l.typed) l.kept w.heap k.on.0 (k.entries ++ f.less) z.sane there)
              (λ g agree. surely_map (k.each w.heap (agree_self p w.heap f.less)) (λ b. (
                g,
                b.1,
                (seen w f.less f.old_less b.0 b.1, b.2.reached, passes (k.entries ++ f.less) b.3 (g, (agree_from p (good_bodies p l.typed) l.kept w.heap b.0 g (k.entries ++ f.less) z.sane b.2.heap (agree_then p (good_bodies p l.typed) l.kept w.heap k.on.0 g (k.entries ++ f.less) z.sane there agree), refl))),
                (λ m. refl),
                b.2.old_heap,
              )))
