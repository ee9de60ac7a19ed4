-- A check of a whole run that the run by contracts makes too: it passes in both, with the same result.
use Rattle.std.proofs.Common.{◌≡◌, ℕ, Bool, true, false, cond, ◌⊎◌, inl, inr, [], ◌∷◌, Option, Some, None, refl, sym, ◌∙◌, ap, subst}
use Rattle.std.specs.Prelude.{Ok, Err}
use Rattle.vx_ast.specs.declared.ValueType.{ValueType}
use Rattle.vx_ast.specs.Syntax.{Name, same_name, Program}
use Rattle.vx_meaning.specs.Values.{Value, type_of}
use Rattle.vx_meaning.specs.States.{State, Store, Heap, Holdings, lookup}
use Rattle.vx_meaning.specs.Fits.{Checked, Eventually}
use Rattle.vx_meaning.specs.Outcomes.{Outcome, Outcomes, checked, passes, refused}
use Rattle.vx_meaning.specs.Around.{Around}
use Rattle.vx_types.specs.Typing.{Scope, type_in}
use Rattle.vx_types.specs.Premises.{IsTypedProgram}
use Rattle.vx_amounts.proofs.Amounts.{le-trans}
use Rattle.vx_sound_preds.proofs.Framing.{ok_same}
use Rattle.vx_sound_preds.proofs.TypedValues.{AreTyped}
use Rattle.vx_sound_preds.proofs.Typed.{good_bodies}
use Rattle.vx_runs.proofs.Followed.{Sane, Agree, AtMost, Under, SaneKept, StoreOf, Shadow, Follows}
use Rattle.vx_runs.proofs.Surely.{Surely, surely, surely_then, surely_map}
use Rattle.vx_runs.proofs.Rising.{Passes, Refuses, Rises, one_end}
use Rattle.vx_runs.proofs.Agreeing.{alike_then, agree_back}
use Rattle.vx_runs.proofs.Together.{more_with}

-- a store of a scope has values of its types
pub scope_typed : (ds : Scope) (xs : Store) → StoreOf ds xs → AreTyped ds xs
scope_typed [] [] k x t v a b = absurd (nothing a)
  where
    nothing : ◌≡◌ {A = Option ValueType} None (Some t) → ⊥
    nothing e = cc
scope_typed [] (e ∷ es) k x t v a b = absurd k
scope_typed (d ∷ ds) [] k x t v a b = absurd k
scope_typed (d ∷ ds) (e ∷ es) k x t v a b = go (same_name x d.name) a (subst (λ (y : Name). cond (same_name x y) (Some e.1) (lookup x es) ≡ Some v) k.0 b) (scope_typed ds es k.2 x t v)
  where
    type_is : (s t : ValueType) → Some s ≡ Some t → s ≡ t
    type_is s t e = cc

    value_is : (v w : Value) → Some v ≡ Some w → v ≡ w
    value_is v w e = cc

    go : (q : Bool) → cond q (Some d.of) (type_in x ds) ≡ Some t → cond q (Some e.1) (lookup x es) ≡ Some v → (type_in x ds ≡ Some t → lookup x es ≡ Some v → type_of v ≡ t) → type_of v ≡ t
    go true a b h = ap type_of (sym (value_is e.1 v b)) ∙ k.1 ∙ type_is d.of t a
    go false a b h = h a b

module _ (p : Program) (typed : IsTypedProgram p) (kept_sane : SaneKept p) (ds : Scope) (a : Around) (kept : Holdings) where
  pub less_at_most : (Reached : State → Type 0) (w : State) (f : Follows p ds a kept Reached w) → AtMost f.less w.holdings
  less_at_most Reached w f r si = le-trans (more_with kept f.less f.kept_debts r si) (f.fewer r si)

  -- a shadow is under what it follows
  pub shadow_under : (Reached : State → Type 0) (w : State) (f : Follows p ds a kept Reached w) (h : Heap) (s : State) → Agree p w.heap f.less h → Shadow p Reached w f.less f.old_less h s → Under p ds w s
  shadow_under Reached w f h s agree k =
      let there : Agree p w.heap f.less s.heap = alike_then p w.heap h s.heap f.less agree k.heap in
      record {
        store = λ x t is. ap (lookup x) k.store;
        typed = subst (AreTyped ds) (sym k.store) (scope_typed ds w.store f.store);
        sane = subst (Sane p s.heap) (sym k.holdings) (kept_sane w.heap s.heap f.less f.sane there).0;
        fewer = subst (λ (z : Holdings). AtMost z w.holdings) (sym k.holdings) (less_at_most Reached w f);
        agree = subst (λ (z : Holdings). Agree p s.heap z w.heap) (sym k.holdings) (agree_back p (good_bodies p typed) kept_sane w.heap s.heap f.less f.sane there);
        old_sane = subst (Sane p s.old_heap) (sym k.old_holdings) (kept_sane w.old_heap s.old_heap f.old_less f.old_sane k.old_heap).0;
        old_fewer = subst (λ (z : Holdings). AtMost z w.old_holdings) (sym k.old_holdings) f.old_fewer;
        old_agree = subst (λ (z : Holdings). Agree p s.old_heap z w.old_heap) (sym k.old_holdings) (agree_back p (good_bodies p typed) kept_sane w.old_heap s.old_heap f.old_less f.old_sane k.old_heap);
      }

  -- of the states that are reached more is known
  pub refined : (Reached Known : State → Type 0) (w : State) (f : Follows p ds a kept Reached w) → ((h : Heap) (s : State) → Agree p w.heap f.less h → Shadow p Reached w f.less f.old_less h s → Surely (Known s)) →
      Follows p ds a kept (λ s. Reached s × Known s) w
  refined Reached Known w f known = record {
    store = f.store;
    whole = f.whole;
    debts = f.debts;
    around = f.around;
    kept_debts = f.kept_debts;
    kept_typed = f.kept_typed;
    less = f.less;
    old_less = f.old_less;
    fewer = f.fewer;
    sane = f.sane;
    old_whole = f.old_whole;
    old_fewer = f.old_fewer;
    old_sane = f.old_sane;
    shadow = λ h agree. surely_then (f.shadow h agree) (λ x. surely_map (known h x.0 agree x.1) (λ y. (
      x.0,
      (let k = x.1 in record {
        reached = (k.reached, y);
        store = k.store;
        holdings = k.holdings;
        heap = k.heap;
        old_holdings = k.old_holdings;
        old_heap = k.old_heap;
      }),
    )));
  }

  pub follows_map : (R Q : State → Type 0) → ((s : State) → R s → Q s) → (w : State) → Follows p ds a kept R w → Follows p ds a kept Q w
  follows_map R Q to w f = record {
    store = f.store;
    whole = f.whole;
    debts = f.debts;
    around = f.around;
    kept_debts = f.kept_debts;
    kept_typed = f.kept_typed;
    less = f.less;
    old_less = f.old_less;
    fewer = f.fewer;
    sane = f.sane;
    old_whole = f.old_whole;
    old_fewer = f.old_fewer;
    old_sane = f.old_sane;
    shadow = λ h agree. surely_map (f.shadow h agree) (λ x. (
      x.0,
      (let k = x.1 in record {
        reached = to x.0 k.reached;
        store = k.store;
        holdings = k.holdings;
        heap = k.heap;
        old_holdings = k.old_holdings;
        old_heap = k.old_heap;
      }),
    ));
  }

  -- what a check of both gives
  pub record Decided {A : Type 0} (Reached : State → Type 0) (check : State → ℕ → Checked A) (w : State) (more : A → Outcomes) (o : Outcome) : Type 0 where
    pub result : A
    pub passes : Eventually (λ n. check w n ≡ Ok result)
    pub on : more result o
    pub follows : Follows p ds a kept (λ s. Reached s × Eventually (λ n. check s n ≡ Ok result)) w

  module _ {A : Type 0} (Reached : State → Type 0) (check : State → ℕ → Checked A) (w : State) (f : Follows p ds a kept Reached w) (rises : (s : State) → Under p ds w s → Rises (check s) (check w))
      (never : (s : State) → Reached s → Refuses (check s) → ⊥) where
    pub decided : (more : A → Outcomes) (o : Outcome) → checked (check w) more o → Surely (Decided Reached check w more o)
    decided more o (passes v c r) = surely record {
      result = v;
      passes = c;
      on = r;
      follows = refined Reached (λ s. Eventually (λ n. check s n ≡ Ok v)) w f (λ h s agree k. surely_map (rises s (shadow_under Reached w f h s agree k)) (same s k.reached));
    }
      where
        same : (s : State) → Reached s → Passes (◌≡◌ {A = A}) (check s) (check w) ⊎ Refuses (check s) → Eventually (λ n. check s n ≡ Ok v)
        same s r (inr x) = absurd (never s r x)
        same s r (inl x) = subst (λ (z : A). Eventually (λ n. check s n ≡ Ok z)) (x.related ∙ ok_same x.more v (one_end (check w) (Ok x.more) (Ok v) x.by_more c)) x.by_less
    decided more o (refused at c e) = surely_then (f.shadow w.heap (λ l y. refl)) (λ x. surely_then (rises x.0 (shadow_under Reached w f w.heap x.0 (λ l y. refl) x.1)) (λ y. absurd (clash x.0 x.1 y)))
      where
        clash : (s : State) → Shadow p Reached w f.less f.old_less w.heap s → Passes (◌≡◌ {A = A}) (check s) (check w) ⊎ Refuses (check s) → ⊥
        clash s k (inr x) = never s k.reached x
        clash s k (inl x) = differ (one_end (check w) (Err at) (Ok x.more) c x.by_more)
          where
            differ : ◌≡◌ {A = Checked A} (Err at) (Ok x.more) → ⊥
            differ e = cc
