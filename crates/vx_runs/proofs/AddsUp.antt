-- What is added to less is added to more: the same entries.
use Rattle.std.proofs.Common.{◌≡◌, ℕ, true, false, [], ◌∷◌, ◌++◌, Some, refl, sym, ◌∙◌, ap, subst}
use Rattle.std.specs.Prelude.{Ok}
use Rattle.vx_ast.specs.declared.ValueType.{ValueType}
use Rattle.vx_frac.specs.Fractions.{Fraction, product}
use Rattle.vx_ast.specs.Syntax.{Name, Program, Expr, Assertion, Pure, Points, Both, Implied, Chosen, place_of}
use Rattle.vx_ast.specs.Syntax as syntax
use Rattle.vx_meaning.specs.Values.{Value, BoolValue, IntValue, RefValue, PermValue}
use Rattle.vx_meaning.specs.States.{State, Heap, Holdings, lookup, with_holdings}
use Rattle.vx_meaning.specs.Fits.{Checked, choose, deeper, fit, field_part, instance_part, add, add_part, Eventually}
use Rattle.vx_types.specs.Typing.{Scope, IsTyped, type_in}
use Rattle.vx_types.specs.Premises.{IsTypedProgram}
use Rattle.vx_amounts.proofs.Amounts.{Positive, le-trans}
use Rattle.vx_sound_preds.proofs.Fitting.{undo}
use Rattle.vx_sound_preds.proofs.Framing.{ok_same, failed}
use Rattle.vx_sound_preds.proofs.Grouped.{NoDebts}
use Rattle.vx_sound_preds.proofs.Holding.{TypedAll, all_single}
use Rattle.vx_sound_preds.proofs.Typed.{good_bodies}
use Rattle.vx_sound_preds.proofs.TypedValues.{AreTyped}
use Rattle.vx_runs.proofs.Followed.{Any, Sane, Agree, AtMost, Under}
use Rattle.vx_runs.proofs.Fewer.{sane_fewer, held_fewer}
use Rattle.vx_runs.proofs.Surely.{Surely, surely, surely_then, surely_map}
use Rattle.vx_runs.proofs.Rising.{after_ok}
use Rattle.vx_runs.proofs.Taking.{AllSigned, more_of, append_assoc, add_adding}
use Rattle.vx_runs.proofs.FitsUp.{FitsUp}
use Rattle.vx_runs.proofs.TakesUp.{front_fewer, field_up, instance_up}

pub typed_suffix : (p : Program) (xs ys : Holdings) → TypedAll p Any (xs ++ ys) → TypedAll p Any ys
typed_suffix p [] ys k = k
typed_suffix p (x ∷ xs) ys k = typed_suffix p xs ys k.1

pub signed_debts : (es h : Holdings) → AllSigned es → NoDebts h → NoDebts (es ++ h)
signed_debts es h k d r si = le-trans (d r si) (more_of es h k r si)

-- what is added to s, up to u, is held in a state that can be, and w has its values
pub record AddUnder (p : Program) (ds : Scope) (w s : State) (more : Holdings) : Type 0 where
  pub store : (x : Name) (t : ValueType) → type_in x ds ≡ Some t → lookup x s.store ≡ lookup x w.store
  pub typed : AreTyped ds s.store
  pub kinds : TypedAll p Any s.holdings
  pub debts : NoDebts s.holdings
  pub fewer : AtMost s.holdings w.holdings
  pub end_sane : Sane p s.heap more
  pub end_agree : Agree p s.heap more w.heap
  pub old_sane : Sane p s.old_heap s.old_holdings
  pub old_fewer : AtMost s.old_holdings w.old_holdings
  pub old_agree : Agree p s.old_heap s.old_holdings w.old_heap

pub record AddedUp (p : Program) (w : State) (q : Fraction) (a : Assertion) (s u : State) : Type 0 where
  pub entries : Holdings
  pub is : u ≡ with_holdings (entries ++ s.holdings) s
  pub there : Eventually (λ k. add p (deeper p k) q a w ≡ Ok (with_holdings (entries ++ w.holdings) w))

module _ (p : Program) (typed : IsTypedProgram p) (m : ℕ) (up : FitsUp p m) (ds : Scope) (q : Fraction) (scale : Positive q) where
  less_agrees : (h g : Heap) (few many : Holdings) → Sane p h few → Sane p h many → AtMost few many → Agree p h many g → Agree p h few g
  less_agrees h g few many a b le k l y = k l (held_fewer p (good_bodies p typed) h few many (all_single p Any few a.typed) (all_single p Any many b.typed) a.debts b.debts le l y)

  add_under : (w s : State) (es : Holdings) → AllSigned es → AddUnder p ds w s (es ++ s.holdings) → Under p ds w s
  add_under w s es signed k =
      let sane = sane_fewer p (good_bodies p typed) s.heap s.holdings (es ++ s.holdings) k.end_sane k.kinds k.debts (more_of es s.holdings signed) in
      record {
        store = k.store;
        typed = k.typed;
        sane = sane;
        fewer = k.fewer;
        agree = less_agrees s.heap w.heap s.holdings (es ++ s.holdings) sane k.end_sane (more_of es s.holdings signed) k.end_agree;
        old_sane = k.old_sane;
        old_fewer = k.old_fewer;
        old_agree = k.old_agree;
      }

  -- of what is added up to u
  abbrev AddsUp : Assertion → Type 0
  AddsUp a = (w s : State) (es : Holdings) → AllSigned es → AddUnder p ds w s (es ++ s.holdings) → add p (deeper p m) q a s ≡ Ok (with_holdings (es ++ s.holdings) s) → Surely (AddedUp p w q a s (with_holdings (es ++ s.holdings) s))

  both_up : (a b : Assertion) → AddsUp a → AddsUp b → (w s : State) (es : Holdings) → AllSigned es → AddUnder p ds w s (es ++ s.holdings) → (first second : Holdings) → AllSigned first → AllSigned second →
      add p (deeper p m) q a s ≡ Ok (with_holdings (first ++ s.holdings) s) → add p (deeper p m) q b (with_holdings (first ++ s.holdings) s) ≡ Ok (with_holdings (es ++ s.holdings) s) → es ++ s.holdings ≡ second ++ (first ++ s.holdings) →
      Surely (AddedUp p w q (Both a b) s (with_holdings (es ++ s.holdings) s))
  both_up a b ha hb w s es signed k first second fs ss ea eb is = surely_then (ha w s first fs under_first ea) on
    where
      mid : Holdings
      mid = first ++ s.holdings

      whole : Sane p s.heap (second ++ (first ++ s.holdings))
      whole = subst (Sane p s.heap) is k.end_sane

      mid_debts : NoDebts (first ++ s.holdings)
      mid_debts = signed_debts first s.holdings fs k.debts

      mid_kinds : TypedAll p Any (first ++ s.holdings)
      mid_kinds = typed_suffix p second (first ++ s.holdings) whole.typed

      mid_sane : Sane p s.heap (first ++ s.holdings)
      mid_sane = sane_fewer p (good_bodies p typed) s.heap (first ++ s.holdings) (second ++ (first ++ s.holdings)) whole mid_kinds mid_debts (more_of second (first ++ s.holdings) ss)

      whole_agrees : Agree p s.heap (second ++ (first ++ s.holdings)) w.heap
      whole_agrees = subst (λ (z : Holdings). Agree p s.heap z w.heap) is k.end_agree

      under_first : AddUnder p ds w s (first ++ s.holdings)
      under_first = record {
        store = k.store;
        typed = k.typed;
        kinds = k.kinds;
        debts = k.debts;
        fewer = k.fewer;
        end_sane = mid_sane;
        end_agree = less_agrees s.heap w.heap (first ++ s.holdings) (second ++ (first ++ s.holdings)) mid_sane whole (more_of second (first ++ s.holdings) ss) whole_agrees;
        old_sane = k.old_sane;
        old_fewer = k.old_fewer;
        old_agree = k.old_agree;
      }

      on : AddedUp p w q a s (with_holdings (first ++ s.holdings) s) → Surely (AddedUp p w q (Both a b) s (with_holdings (es ++ s.holdings) s))
      on x =
          let same : first ++ s.holdings ≡ x.entries ++ s.holdings = ap (λ (t : State). t.holdings) x.is in
          surely_map (hb (with_holdings (x.entries ++ w.holdings) w) (with_holdings (first ++ s.holdings) s) second ss (record {
            store = k.store;
            typed = k.typed;
            kinds = mid_kinds;
            debts = mid_debts;
            fewer = subst (λ (z : Holdings). AtMost z (x.entries ++ w.holdings)) (sym same) (front_fewer x.entries s.holdings w.holdings k.fewer);
            end_sane = whole;
            end_agree = whole_agrees;
            old_sane = k.old_sane;
            old_fewer = k.old_fewer;
            old_agree = k.old_agree;
          }) (eb ∙ ap (λ (z : Holdings). let t : Checked State = Ok (with_holdings z s) in t) is)) (λ y.
          let ends : es ++ s.holdings ≡ y.entries ++ (x.entries ++ s.holdings) = is ∙ ap (λ (t : State). t.holdings) y.is ∙ ap (λ (z : Holdings). y.entries ++ z) same in
          record {
            entries = y.entries ++ x.entries;
            is = ap (λ (z : Holdings). with_holdings z s) (ends ∙ sym (append_assoc y.entries x.entries s.holdings));
            there = subst (λ (z : Holdings). Eventually (λ k. add p (deeper p k) q (Both a b) w ≡ Ok (with_holdings z w))) (sym (append_assoc y.entries x.entries w.holdings))
                (after_ok (λ k. add p (deeper p k) q a w) (λ k t. add p (deeper p k) q b t) (with_holdings (x.entries ++ w.holdings) w) (Ok (with_holdings (y.entries ++ (x.entries ++ w.holdings)) w)) x.there y.there);
          })

  nothing_up : (a : Assertion) (w s u : State) → s ≡ u → Eventually (λ k. add p (deeper p k) q a w ≡ Ok w) → AddedUp p w q a s u
  nothing_up a w s u e h = record { entries = []; is = sym e; there = h }

  side_up : (c : Expr) (a b : Assertion) (w s : State) (es : Holdings) (v : Value) → Eventually (λ k. fit p (deeper p k) w c ≡ Ok v) → AddsUp a → AddsUp b → AllSigned es → AddUnder p ds w s (es ++ s.holdings) → choose (place_of c) v (add p (deeper p m) q a s) (add p (deeper p m) q b s) ≡ Ok (with_holdings (es ++ s.holdings) s) →
      Surely (AddedUp p w q (Chosen c a b) s (with_holdings (es ++ s.holdings) s))
  side_up c a b w s es (BoolValue true) fine ha hb sg k e = surely_map (ha w s es sg k e) (λ x.
      record { entries = x.entries; is = x.is; there = after_ok (λ k. fit p (deeper p k) w c) (λ k v. choose (place_of c) v (add p (deeper p k) q a w) (add p (deeper p k) q b w)) (BoolValue true) (Ok (with_holdings (x.entries ++ w.holdings) w)) fine x.there })
  side_up c a b w s es (BoolValue false) fine ha hb sg k e = surely_map (hb w s es sg k e) (λ x.
      record { entries = x.entries; is = x.is; there = after_ok (λ k. fit p (deeper p k) w c) (λ k v. choose (place_of c) v (add p (deeper p k) q a w) (add p (deeper p k) q b w)) (BoolValue false) (Ok (with_holdings (x.entries ++ w.holdings) w)) fine x.there })
  side_up c a b w s es (IntValue z) fine ha hb sg k e = absurd (failed _ _ e)
  side_up c a b w s es (RefValue z) fine ha hb sg k e = absurd (failed _ _ e)
  side_up c a b w s es (PermValue z) fine ha hb sg k e = absurd (failed _ _ e)

  implied_up : (c : Expr) (a : Assertion) (w s : State) (es : Holdings) (v : Value) → Eventually (λ k. fit p (deeper p k) w c ≡ Ok v) → AddsUp a → AllSigned es → AddUnder p ds w s (es ++ s.holdings) → choose (place_of c) v (add p (deeper p m) q a s) (Ok s) ≡ Ok (with_holdings (es ++ s.holdings) s) →
      Surely (AddedUp p w q (Implied c a) s (with_holdings (es ++ s.holdings) s))
  implied_up c a w s es (BoolValue true) fine ha sg k e = surely_map (ha w s es sg k e) (λ x.
      record { entries = x.entries; is = x.is; there = after_ok (λ k. fit p (deeper p k) w c) (λ k v. choose (place_of c) v (add p (deeper p k) q a w) (Ok w)) (BoolValue true) (Ok (with_holdings (x.entries ++ w.holdings) w)) fine x.there })
  implied_up c a w s es (BoolValue false) fine ha sg k e =
      surely (nothing_up (Implied c a) w s (with_holdings (es ++ s.holdings) s) (ok_same s (with_holdings (es ++ s.holdings) s) e) (after_ok (λ k. fit p (deeper p k) w c) (λ k v. choose (place_of c) v (add p (deeper p k) q a w) (Ok w)) (BoolValue false) (Ok w) fine (0, λ k le. refl)))
  implied_up c a w s es (IntValue z) fine ha sg k e = absurd (failed _ _ e)
  implied_up c a w s es (RefValue z) fine ha sg k e = absurd (failed _ _ e)
  implied_up c a w s es (PermValue z) fine ha sg k e = absurd (failed _ _ e)

  pub adds_up : (a : Assertion) → IsTyped p ds a → AddsUp a
  adds_up (Pure e) t w s es sg k eq =
      let x = undo (fit p (deeper p m) s e) (λ _. Ok s) (with_holdings (es ++ s.holdings) s) eq in
      surely_map (up.fits ds w s (add_under w s es sg k) e _ t x.it x.is) (λ c. nothing_up (Pure e) w s (with_holdings (es ++ s.holdings) s) (ok_same s (with_holdings (es ++ s.holdings) s) x.then) (after_ok (λ k. fit p (deeper p k) w e) (λ k _. Ok w) x.it (Ok w) c (0, λ k le. refl)))
  adds_up (Points at e f share) t w s es sg k eq =
      let x = undo (field_part p (deeper p m) s at e f share) (add_part p (deeper p m) q s) (with_holdings (es ++ s.holdings) s) eq in
      surely_map (field_up p typed m up ds w s (add_under w s es sg k) at e f share _ _ t.0 t.2 x.it x.is) (λ c. record {
        entries = (x.it.0, product q x.it.1) ∷ [];
        is = sym (ok_same (with_holdings ((x.it.0, product q x.it.1) ∷ s.holdings) s) (with_holdings (es ++ s.holdings) s) x.then);
        there = after_ok (λ k. field_part p (deeper p k) w at e f share) (λ k. add_part p (deeper p k) q w) x.it (Ok (with_holdings ((x.it.0, product q x.it.1) ∷ w.holdings) w)) c (0, λ k le. refl);
      })
  adds_up (syntax.Instance at i xs share) t w s es sg k eq =
      let x = undo (instance_part p (deeper p m) s at i xs share) (add_part p (deeper p m) q s) (with_holdings (es ++ s.holdings) s) eq in
      surely_map (instance_up p typed m up ds w s (add_under w s es sg k) at i xs share t.0.0 _ t.0.2 t.1 x.it x.is) (λ c. record {
        entries = (x.it.0, product q x.it.1) ∷ [];
        is = sym (ok_same (with_holdings ((x.it.0, product q x.it.1) ∷ s.holdings) s) (with_holdings (es ++ s.holdings) s) x.then);
        there = after_ok (λ k. instance_part p (deeper p k) w at i xs share) (λ k. add_part p (deeper p k) q w) x.it (Ok (with_holdings ((x.it.0, product q x.it.1) ∷ w.holdings) w)) c (0, λ k le. refl);
      })
  adds_up (Both a b) t w s es sg k eq =
      let x = undo (add p (deeper p m) q a s) (λ t. add p (deeper p m) q b t) (with_holdings (es ++ s.holdings) s) eq in
      let f = add_adding p (deeper p m) q scale a s x.it x.is in
      let g = add_adding p (deeper p m) q scale b x.it (with_holdings (es ++ s.holdings) s) x.then in
      both_up a b (λ w s es sg k e. adds_up a t.0 w s es sg k e) (λ w s es sg k e. adds_up b t.1 w s es sg k e) w s es sg k f.entries g.entries f.signed g.signed
      (x.is ∙ ap (λ (t : State). let z : Checked State = Ok t in z) f.is) (subst (λ (t : State). add p (deeper p m) q b t ≡ Ok (with_holdings (es ++ s.holdings) s)) f.is x.then)
      (ap (λ (t : State). t.holdings) g.is ∙ ap (λ (t : State). g.entries ++ t.holdings) f.is)
  adds_up (Implied c a) t w s es sg k eq =
      let x = undo (fit p (deeper p m) s c) (λ v. choose (place_of c) v (add p (deeper p m) q a s) (Ok s)) (with_holdings (es ++ s.holdings) s) eq in
      surely_then (up.fits ds w s (add_under w s es sg k) c _ t.0 x.it x.is) (λ f. implied_up c a w s es x.it f (λ w s es sg k e. adds_up a t.1 w s es sg k e) sg k x.then)
  adds_up (Chosen c a b) t w s es sg k eq =
      let x = undo (fit p (deeper p m) s c) (λ v. choose (place_of c) v (add p (deeper p m) q a s) (add p (deeper p m) q b s)) (with_holdings (es ++ s.holdings) s) eq in
      surely_then (up.fits ds w s (add_under w s es sg k) c _ t.0 x.it x.is) (λ f. side_up c a b w s es x.it f (λ w s es sg k e. adds_up a t.1 w s es sg k e) (λ w s es sg k e. adds_up b t.2 w s es sg k e) sg k x.then)
