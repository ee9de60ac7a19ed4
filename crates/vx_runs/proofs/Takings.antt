-- What is taken beside a run by contracts: the same entries from both.
use Rattle.std.proofs.Common.{◌≡◌, ℕ, [], ◌∷◌, ◌++◌, sym, ◌∙◌, ap, subst}
use Rattle.std.specs.Prelude.{Ok}
use Rattle.vx_ast.specs.Syntax.{Program}
use Rattle.vx_meaning.specs.States.{State, Heap, Holdings}
use Rattle.vx_meaning.specs.Fits.{Checked, Eventually}
use Rattle.vx_meaning.specs.Outcomes.{Outcome, Outcomes, checked}
use Rattle.vx_meaning.specs.Around.{Around}
use Rattle.vx_types.specs.Typing.{Scope}
use Rattle.vx_sound_preds.specs.Bodies.{GoodBodies}
use Rattle.vx_sound_preds.proofs.Grouped.{NoDebts}
use Rattle.vx_sound_preds.proofs.Holding.{TypedAll}
use Rattle.vx_runs.proofs.Surely.{Surely, surely_then, surely_map}
use Rattle.vx_runs.proofs.Rising.{RisesTo}
use Rattle.vx_runs.proofs.Followed.{Any, Sane, SaneKept, Agree, AtMost, Under, Took, Follows, NeverFails}
use Rattle.vx_runs.proofs.Fewer.{at_most_both, sane_fewer}
use Rattle.vx_runs.proofs.Gone.{same_front}
use Rattle.vx_runs.proofs.Taking.{typed_both}
use Rattle.vx_runs.proofs.Together.{Takes, takes_by, less_by, front, swap, less_with, more_with, debts_both, debts_more, typed_left}
use Rattle.vx_runs.proofs.Agreeing.{agree_self, agree_fewer}
use Rattle.vx_runs.proofs.Beneath.{seen, IsBeneath, fewer_less, Passing, passing}

module _ (p : Program) (good : GoodBodies p) (kept : SaneKept p) where
  pub record Taken (ds : Scope) (Reached : State → Type 0) (w : State) (less old_less : Holdings) (c : State → ℕ → Checked Holdings) (d : ℕ → Checked Holdings) (more : Holdings → Outcomes) (o : Outcome) : Type 0 where
    pub entries : Holdings
    pub typed : TypedAll p Any entries
    pub takes : Takes entries
    pub debts : NoDebts (entries ++ less)
    pub by : Eventually (λ n. d n ≡ Ok (entries ++ w.holdings))
    pub on : more (entries ++ w.holdings) o
    pub each : (h : Heap) → Agree p w.heap less h → Surely (IsBeneath p ds Reached w less old_less (λ g old. Eventually (λ n. c (seen w less old_less g old) n ≡ Ok (entries ++ less))) h)

  pub taking : {ds : Scope} {a : Around} {keeps : Holdings} {Reached : State → Type 0} {w : State} (f : Follows p ds a keeps Reached w) (c : State → ℕ → Checked Holdings) (d : ℕ → Checked Holdings) →
      ((g old : Heap) → Under p ds w (seen w f.less f.old_less g old) → RisesTo (Took p f.less w.holdings) (c (seen w f.less f.old_less g old)) d) → (rest : State → Holdings → Outcomes) → NeverFails Reached (λ s. checked (c s) (rest s)) →
      (more : Holdings → Outcomes) (o : Outcome) → checked d more o → Surely (Taken ds Reached w f.less f.old_less c d more o)
  taking {ds = ds} {Reached = Reached} {w = w} f c d rises rest never more o run = surely_then (passing p good kept (Took p f.less w.holdings) f c d rises rest never more o run) first
    where
      go : (k : Passing p good kept (Took p f.less w.holdings) ds Reached w f.less f.old_less c d more o) (x : Holdings) → Took p f.less w.holdings x k.it → Taken ds Reached w f.less f.old_less c d more o
      go k x t = record {
        entries = t.entries;
        typed = t.typed;
        takes = takes_by t.entries f.less (subst (λ (z : Holdings). AtMost z f.less) t.few_is t.less);
        debts = subst NoDebts t.few_is t.debts;
        by = subst (λ (z : Holdings). Eventually (λ n. d n ≡ Ok z)) t.many_is k.by;
        on = subst (λ (z : Holdings). more z o) t.many_is k.on;
        each = λ h agree. surely_map (k.each h agree) (λ b. let u = b.3.1 in (
          b.0,
          b.1,
          b.2,
          subst (λ (z : Holdings). Eventually (λ n. c (seen w f.less f.old_less b.0 b.1) n ≡ Ok z))
              (u.few_is ∙ ap (λ (z : Holdings). z ++ f.less) (same_front u.entries t.entries w.holdings (sym u.many_is ∙ t.many_is))) b.3.2,
        ));
      }

      first : (k : Passing p good kept (Took p f.less w.holdings) ds Reached w f.less f.old_less c d more o) → Surely (Taken ds Reached w f.less f.old_less c d more o)
      first k = surely_map (k.each w.heap (agree_self p w.heap f.less)) (λ b. go k b.3.0 b.3.1)

  -- What is left
  pub record Left (a : Around) (keeps : Holdings) (w : State) (less left_less left : Holdings) : Type 0 where
    pub debts : NoDebts left
    pub whole : Sane p w.heap (a.holdings ++ left)
    pub fewer : AtMost (keeps ++ left_less) left
    pub sane : Sane p w.heap left_less
    pub within : AtMost left_less (a.holdings ++ left)

  pub left_over : {ds : Scope} {a : Around} {keeps : Holdings} {Reached : State → Type 0} {w : State} (f : Follows p ds a keeps Reached w) (entries : Holdings) → TypedAll p Any entries → Takes entries → NoDebts (entries ++ f.less) →
      Left a keeps w f.less (entries ++ f.less) (entries ++ w.holdings)
  left_over {a = a} {keeps = keeps} {w = w} f entries typed takes debts = record {
    debts = left_debts;
    whole = sane_fewer p good w.heap (a.holdings ++ (entries ++ w.holdings)) (a.holdings ++ w.holdings) f.whole (typed_middle a.holdings w.holdings f.whole.typed) (debts_both a.holdings (entries ++ w.holdings) f.around left_debts)
        (front a.holdings (entries ++ w.holdings) w.holdings (less_by entries w.holdings takes));
    fewer = at_most_both (keeps ++ (entries ++ f.less)) (entries ++ (keeps ++ f.less)) (entries ++ w.holdings) (swap keeps entries f.less) (front entries (keeps ++ f.less) w.holdings f.fewer);
    sane = sane_fewer p good w.heap (entries ++ f.less) f.less f.sane (typed_both p entries f.less typed f.sane.typed) debts (less_by entries f.less takes);
    within = at_most_both (entries ++ f.less) (entries ++ w.holdings) (a.holdings ++ (entries ++ w.holdings)) (front entries f.less w.holdings (fewer_less p good kept f)) (more_with a.holdings (entries ++ w.holdings) f.around);
  }
    where
      left_debts : NoDebts (entries ++ w.holdings)
      left_debts = debts_more (entries ++ f.less) (entries ++ w.holdings) debts (front entries f.less w.holdings (fewer_less p good kept f))

      typed_middle : (xs ys : Holdings) → TypedAll p Any (xs ++ ys) → TypedAll p Any (xs ++ (entries ++ ys))
      typed_middle [] ys t = typed_both p entries ys typed t
      typed_middle (x ∷ xs) ys t = (t.0, typed_middle xs ys t.1)

  -- what is kept is within what is left
  pub kept_sane : {ds : Scope} {a : Around} {keeps : Holdings} {Reached : State → Type 0} {w : State} (f : Follows p ds a keeps Reached w) (h : Heap) (less hs : Holdings) → NoDebts less → AtMost (keeps ++ less) hs → Sane p h (a.holdings ++ hs) →
      Sane p h (a.holdings ++ keeps)
  kept_sane {a = a} {keeps = keeps} f h less hs debts fewer whole =
      sane_fewer p good h (a.holdings ++ keeps) (a.holdings ++ hs) whole (typed_both p a.holdings keeps (typed_left p a.holdings hs whole.typed) f.kept_typed) (debts_both a.holdings keeps f.around f.kept_debts)
      (front a.holdings keeps hs (at_most_both keeps (keeps ++ less) hs (less_with keeps less debts) fewer))

  pub kept_agrees : {ds : Scope} {a : Around} {keeps : Holdings} {Reached : State → Type 0} {w : State} (f : Follows p ds a keeps Reached w) (h g : Heap) (less hs : Holdings) → NoDebts less → AtMost (keeps ++ less) hs → Sane p h (a.holdings ++ hs) →
      Agree p h (a.holdings ++ hs) g → Agree p h (a.holdings ++ keeps) g
  kept_agrees {a = a} {keeps = keeps} f h g less hs debts fewer whole agree =
      agree_fewer p good h g (a.holdings ++ keeps) (a.holdings ++ hs) (kept_sane f h less hs debts fewer whole) whole (front a.holdings keeps hs (at_most_both keeps (keeps ++ less) hs (less_with keeps less debts) fewer)) agree
