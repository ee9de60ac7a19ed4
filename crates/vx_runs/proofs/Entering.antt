-- A method's body is entered beside one of its starts, with what its precondition took.
use Rattle.std.proofs.Common.{◌≡◌, ◌⊎◌, inl, inr, List, [], ◌∷◌, ◌++◌, Option, Some, None, refl, sym, ◌∙◌, ap, subst, true, true≢false}
use Rattle.std.specs.Prelude.{Ok, Err}
use Rattle.vx_ast.specs.declared.Place.{Place}
use Rattle.vx_frac.specs.Fractions.{full}
use Rattle.vx_ast.specs.Syntax.{Name, Program, Method, Kind, IsField, IsPredicate, IsFunction, IsMethod, method_in, method_named, member_named}
use Rattle.vx_meaning.specs.Values.{Value}
use Rattle.vx_meaning.specs.States.{State, Store, Heap, Holdings, HaveTypes, bind, with_store, with_holdings}
use Rattle.vx_meaning.specs.Flatten.{bare}
use Rattle.vx_meaning.specs.Consistent.{IsConsistent}
use Rattle.vx_meaning.specs.Fits.{Checked, placed, take_by, Eventually}
use Rattle.vx_meaning.specs.Outcomes.{Ends, FailsAt}
use Rattle.vx_meaning.specs.Give.{give}
use Rattle.vx_meaning.specs.Fails.{MethodFails, precondition, MethodStarts, precondition_of}
use Rattle.vx_meaning.specs.Around.{Around, waits}
use Rattle.vx_types.specs.Typing.{Scope, IsTyped}
use Rattle.vx_elements.proofs.Scopes.{joined_typed}
use Rattle.vx_sound_preds.proofs.Grouped.{NoDebts}
use Rattle.vx_sound_preds.proofs.Holding.{TypedAll, nothing as none_held}
use Rattle.vx_sound_preds.proofs.Typed.{good_bodies}
use Rattle.vx_runs.specs.Whole.{given_back}
use Rattle.vx_runs.proofs.Surely.{Surely, surely_then, surely_map}
use Rattle.vx_runs.proofs.Followed.{Any, Sane, Agree, AtMost, StoreOf, Regiving, Follows}
use Rattle.vx_runs.proofs.Fewer.{at_most_self, at_most_both, sane_fewer}
use Rattle.vx_runs.proofs.Taking.{typed_both}
use Rattle.vx_runs.proofs.Mirrored.{assoc, err_ok}
use Rattle.vx_runs.proofs.Together.{Takes, front, turn, back_again, back_debts, more_with, debts_both, typed_back}
use Rattle.vx_runs.proofs.Agreeing.{agree_self, agree_from}
use Rattle.vx_runs.proofs.Stores.{store_both, store_bound, store_typed, known_first}
use Rattle.vx_runs.proofs.Laws.{Laws}
use Rattle.vx_runs.proofs.Beneath.{seen, Beneath}
use Rattle.vx_runs.proofs.Takings.{Left, left_over}

-- a method is a member
pub is_member : (p : Program) (x : Name) (m : Method) → method_named p x ≡ Some m → member_named p x ≡ Some (IsMethod m)
is_member p x m e = go (member_named p x) e
  where
    is : (a b : Method) → Some a ≡ Some b → a ≡ b
    is a b e = cc

    go : (o : Option Kind) → method_in o ≡ Some m → o ≡ Some (IsMethod m)
    go (Some (IsMethod a)) e = ap (λ (z : Method). Some (IsMethod z)) (is a m e)
    go (Some (IsField a)) e = cc
    go (Some (IsPredicate a)) e = cc
    go (Some (IsFunction a)) e = cc
    go None e = cc

pub never_fails : (p : Program) (l : Laws p) (x : Name) (m : Method) → method_named p x ≡ Some m → (at : Place) → MethodFails p m at → ⊥
never_fails p l x m e at k = l.never x (IsMethod m) (is_member p x m e) (at, k)

pub unplaced : {A : Type 0} (at : Place) (c : Checked A) (a : A) → placed at c ≡ Ok a → c ≡ Ok a
unplaced at (Ok b) a e = e
unplaced at (Err other) a e = absurd (err_ok at a e)

pub none_more : (xs : Holdings) → xs ++ [] ≡ xs
none_more [] = refl
none_more (x ∷ xs) = ap (λ (z : Holdings). x ∷ z) (none_more xs)

pub nothing_held : (p : Program) (h g : Heap) → Agree p h [] g
nothing_held p h g l z = absurd (true≢false (sym z.1))

module _ (p : Program) (l : Laws p) (x : Name) (m : Method) (named : method_named p x ≡ Some m) (at : Place) (vs ws : List Value) (tv : HaveTypes m.parameters vs) (tw : HaveTypes m.returns ws)
    {ds : Scope} {a : Around} {keeps : Holdings} {Reached : State → Type 0} {w : State} (f : Follows p ds a keeps Reached w) (entries : Holdings) (typed : TypedAll p Any entries) (takes : Takes entries) (debts : NoDebts (entries ++ f.less)) where
  abbrev pub variables : Store
  variables = bind m.parameters vs ++ bind m.returns ws

  abbrev pub entered_with : Holdings → State
  entered_with hs = record { store = bind m.parameters vs ++ bind m.returns ws; heap = w.heap; holdings = hs; old_heap = w.heap; old_holdings = hs }

  left : Left p (good_bodies p l.typed) l.kept a keeps w f.less (entries ++ f.less) (entries ++ w.holdings)
  left = left_over p (good_bodies p l.typed) l.kept f entries typed takes debts

  back_none : NoDebts (given_back entries)
  back_none = back_debts entries takes

  store_of : StoreOf (m.parameters ++ m.returns) (bind m.parameters vs ++ bind m.returns ws)
  store_of = store_both m.parameters m.returns (bind m.parameters vs) (bind m.returns ws) (store_bound m.parameters vs tv) (store_bound m.returns ws tw)

  all_within : AtMost ((a.holdings ++ (entries ++ w.holdings)) ++ given_back entries) (a.holdings ++ w.holdings)
  all_within = subst (λ (z : Holdings). AtMost z (a.holdings ++ w.holdings)) (sym (assoc a.holdings (entries ++ w.holdings) (given_back entries)))
      (front a.holdings ((entries ++ w.holdings) ++ given_back entries) w.holdings (at_most_both ((entries ++ w.holdings) ++ given_back entries) (given_back entries ++ (entries ++ w.holdings)) w.holdings (turn (entries ++ w.holdings) (given_back entries)) (back_again entries w.holdings)))

  all_sane : Sane p w.heap ((a.holdings ++ (entries ++ w.holdings)) ++ given_back entries)
  all_sane = sane_fewer p (good_bodies p l.typed) w.heap ((a.holdings ++ (entries ++ w.holdings)) ++ given_back entries) (a.holdings ++ w.holdings) f.whole
      (typed_both p (a.holdings ++ (entries ++ w.holdings)) (given_back entries) left.whole.typed (typed_back p entries typed)) (debts_both (a.holdings ++ (entries ++ w.holdings)) (given_back entries) left.whole.debts back_none) all_within

  pub back_sane : Sane p w.heap (given_back entries)
  back_sane = sane_fewer p (good_bodies p l.typed) w.heap (given_back entries) ((a.holdings ++ (entries ++ w.holdings)) ++ given_back entries) all_sane (typed_back p entries typed) back_none
      (more_with (a.holdings ++ (entries ++ w.holdings)) (given_back entries) left.whole.debts)

  abbrev pub start_at : Heap → State
  start_at h = record { store = bind m.parameters vs ++ bind m.returns ws; heap = h; holdings = given_back entries ++ []; old_heap = h; old_holdings = given_back entries ++ [] }

  -- of what the run by contracts took
  regiving : (g o h : Heap) → Beneath p ds Reached w f.less f.old_less w.heap g o → Agree p w.heap (given_back entries) h → Regiving p m.parameters (with_store (bind m.parameters vs) (seen w f.less f.old_less g o)) (bare (bind m.parameters vs ++ bind m.returns ws) h) entries
  regiving g o h b agree = record {
    store = λ x t e. known_first m.parameters (bind m.parameters vs) (bind m.returns ws) x t (store_bound m.parameters vs tv) e;
    typed = λ x t v e k. store_typed m.parameters (bind m.parameters vs) (store_bound m.parameters vs tv) x t v e (sym (known_first m.parameters (bind m.parameters vs) (bind m.returns ws) x t (store_bound m.parameters vs tv) e) ∙ k);
    sane = b.under.sane;
    fewer = λ r si. debts r si;
    debts = nothing_sane.debts;
    held = tt;
    agree = subst (λ (z : Holdings). Agree p g z h) (sym (none_more (given_back entries))) (agree_from p (good_bodies p l.typed) l.kept w.heap g h (given_back entries) back_sane b.heap agree);
    old_sane = nothing_sane;
    old_fewer = λ r si. b.under.old_sane.debts r si;
    old_agree = nothing_held p h o;
  }
    where
      nothing_sane : Sane p h []
      nothing_sane = none_held p (good_bodies p l.typed) Any true h

  starts : (g o h : Heap) → Beneath p ds Reached w f.less f.old_less w.heap g o → Eventually (λ n. placed at (take_by p n (with_store (bind m.parameters vs) (seen w f.less f.old_less g o)) full (precondition_of m) f.less) ≡ Ok (entries ++ f.less)) →
      Agree p w.heap (given_back entries) h → Surely (MethodStarts p m (start_at h))
  starts g o h b taken agree = surely_map (l.given m.parameters (with_store (bind m.parameters vs) (seen w f.less f.old_less g o)) (bare (bind m.parameters vs ++ bind m.returns ws) h) (precondition_of m) entries pre_typed
      (taken.0, λ n le. unplaced at (take_by p n (with_store (bind m.parameters vs) (seen w f.less f.old_less g o)) full (precondition_of m) f.less) (entries ++ f.less) (taken.1 n le)) debts (regiving g o h b agree)) go
    where
      pre_typed : IsTyped p m.parameters (precondition_of m)
      pre_typed = let t = l.typed.methods x m named in joined_typed p m.parameters m.place m.requires t.requires

      go : give p (IsConsistent p) full (precondition_of m) (bare (bind m.parameters vs ++ bind m.returns ws) h) (Ends (with_holdings (given_back entries ++ []) (bare (bind m.parameters vs ++ bind m.returns ws) h)))
          ⊎ ((place : Place) × give p (IsConsistent p) full (precondition_of m) (bare (bind m.parameters vs ++ bind m.returns ws) h) (FailsAt place)) → MethodStarts p m (start_at h)
      go (inl k) = (vs, ws, tv, tw, (h, with_holdings (given_back entries ++ []) (bare (bind m.parameters vs ++ bind m.returns ws) h), k, refl))
      go (inr (place, k)) = absurd (never_fails p l x m named place (precondition vs ws tv tw (h, k)))

  pub entered_follows : ((h : Heap) → Agree p w.heap f.less h → Surely ((g : Heap) × (o : Heap) × Beneath p ds Reached w f.less f.old_less h g o × Eventually (λ n. placed at (take_by p n (with_store (bind m.parameters vs) (seen w f.less f.old_less g o)) full (precondition_of m) f.less) ≡ Ok (entries ++ f.less)))) →
      Follows p (m.parameters ++ m.returns) (waits w (entries ++ w.holdings) a) [] (MethodStarts p m) (entered_with (given_back entries))
  entered_follows each = record {
    store = store_of;
    whole = all_sane;
    debts = back_none;
    around = debts_both a.holdings (entries ++ w.holdings) f.around left.debts;
    kept_debts = λ r si. let s = none_held p (good_bodies p l.typed) Any true w.heap in s.debts r si;
    kept_typed = tt;
    less = given_back entries;
    old_less = given_back entries;
    fewer = at_most_self (given_back entries);
    sane = back_sane;
    old_whole = back_sane;
    old_fewer = at_most_self (given_back entries);
    old_sane = back_sane;
    shadow = λ h agree. surely_then (each w.heap (agree_self p w.heap f.less)) (λ b. surely_map (starts b.0 b.1 h b.2 b.3 agree) (λ s. (
      start_at h,
      record { reached = s; store = refl; holdings = none_more (given_back entries); heap = λ z. refl; old_holdings = none_more (given_back entries); old_heap = agree },
    )));
  }
