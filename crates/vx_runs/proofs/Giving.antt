-- Giving with values that are chosen late goes: what a whole run is given, the run by contracts is given too, and had its values from its start.
use Rattle.std.proofs.Common.{arith, ◌≡◌, ◌≤◌, ℕ, Bool, true, false, ◌⊎◌, inl, inr, List, [], ◌∷◌, ◌++◌, refl, sym, ◌∙◌, ap, subst}
use Rattle.std.specs.Prelude.{Ok}
use Rattle.vx_ast.specs.declared.Place.{Place}
use Rattle.vx_ast.specs.declared.ValueType.{ValueType}
use Rattle.vx_frac.specs.Fractions.{Fraction, none, product, at_most}
use Rattle.vx_ast.specs.Syntax.{Name, Declaration, Program, Expr, Exprs, Assertion, Pure, Points, Both, Implied, Chosen}
use Rattle.vx_ast.specs.Syntax as syntax
use Rattle.vx_meaning.specs.Values.{Value, is_true}
use Rattle.vx_meaning.specs.States.{State, Heap, Holdings, Resource, At, Folded, amount, gained, with_heap, with_holdings}
use Rattle.vx_meaning.specs.Consistent.{IsConsistent}
use Rattle.vx_meaning.specs.Fits.{Checked, ◌>>=◌, or_fail, guard, location_of, amount_of, deeper, fit, fit_by, fit_all, field_part, instance_part, Eventually}
use Rattle.vx_meaning.specs.Outcomes.{Outcome, Ends, FailsAt, Stops, Outcomes, ends, stops, checked, passes, refused, goes_on, is_over, IsOver}
use Rattle.vx_meaning.specs.Give.{give, when, side}
use Rattle.vx_meaning.specs.Around.{Around, IsPossible, ChangesBeside}
use Rattle.vx_types.specs.Typing.{Scope, HasType, HaveTypes, IsTyped}
use Rattle.vx_types.specs.Premises.{IsTypedProgram}
use Rattle.vx_amounts.proofs.Amounts.{Le, Positive}
use Rattle.vx_amounts.proofs.Products.{product_sign, positive_le}
use Rattle.vx_sound.proofs.World.{IsTypedResource}
use Rattle.vx_sound_preds.proofs.Framing.{ok_same, field_parts, instance_parts}
use Rattle.vx_sound_preds.proofs.Grouped.{NoDebts}
use Rattle.vx_sound_preds.proofs.Holding.{TypedAll, consistent, of_possible}
use Rattle.vx_sound_preds.proofs.Typed.{good_bodies}
use Rattle.vx_sound_preds.proofs.TypedValues.{AreTyped}
use Rattle.vx_runs.specs.Whole as whole
use Rattle.vx_runs.specs.Whole.{give_whole}
use Rattle.vx_runs.proofs.Followed.{Any, Sane, Agree, AtMost, Under, SaneKept, FitsRise, Shadow, Follows, NeverFails, After, GivesGo}
use Rattle.vx_runs.proofs.Fewer.{at_most_both, sane_fewer}
use Rattle.vx_runs.proofs.Surely.{Surely, surely, surely_then, surely_map}
use Rattle.vx_runs.proofs.Rising.{Rises, rises_then, rises_always}
use Rattle.vx_runs.proofs.Shared.{gained_debts}
use Rattle.vx_runs.proofs.Taking.{typed_both}
use Rattle.vx_runs.proofs.TakesUp.{front_fewer}
use Rattle.vx_runs.proofs.AddsUp.{typed_suffix}
use Rattle.vx_runs.proofs.Up.{typed_first}
use Rattle.vx_runs.proofs.Decided.{scope_typed, less_at_most, follows_map, Decided, decided}
use Rattle.vx_runs.proofs.Agreeing.{agree_fewer, alike_then, agree_then}
use Rattle.vx_runs.proofs.Together.{debts_both, less_with, more_with, swap}
use Rattle.vx_runs.proofs.Exchanging.{instance_kind}

pub on_true : (v : Value) (x y : Outcomes) (o : Outcome) → is_true v ≡ true → x o → side v x y o
on_true v x y o e h = subst (λ (b : Bool). when b x y o) (sym e) h

pub on_false : (v : Value) (x y : Outcomes) (o : Outcome) → is_true v ≡ false → y o → side v x y o
on_false v x y o e h = subst (λ (b : Bool). when b x y o) (sym e) h

pub by_side : {R : Type 0} (v : Value) (x y : Outcomes) (o : Outcome) → side v x y o → (is_true v ≡ true → x o → R) → (is_true v ≡ false → y o → R) → R
by_side {R = R} v x y o h f g = go (is_true v) refl h
  where
    go : (b : Bool) → is_true v ≡ b → when b x y o → R
    go true e h = f e h
    go false e h = g e h

-- what is known of a part
pub sign_of : (p : Program) (r : Resource) (b : Fraction) (part : Resource × Fraction) → ◌≡◌ {A = Checked (Resource × Fraction)} (Ok (r, b)) (Ok part) → IsTypedResource p Any r → at_most none b ≡ true → IsTypedResource p Any part.0 × Le none part.1
sign_of p r b part is kind sign =
    let same : (let z : Resource × Fraction = (r, b) in z) ≡ part = ok_same {A = Resource × Fraction} (r, b) part is in
    subst (λ (z : Resource × Fraction). IsTypedResource p Any z.0 × Le none z.1) same (kind, record { holds = sign })

-- The parts of permissions rise with their expressions.
module _ (p : Program) (rise : FitsRise p) (ds : Scope) (w s : State) (under : Under p ds w s) where
  pub field_rises : (at : Place) (e : Expr) (f : Name) (share : Expr) (t u : ValueType) → HasType p ds e t → HasType p ds share u → Rises (λ n. field_part p (deeper p n) s at e f share) (λ n. field_part p (deeper p n) w at e f share)
  field_rises at e f share t u te ts =
      let last = λ (r v : Value). or_fail at (location_of f r) >>= λ l. or_fail at (amount_of v) >>= λ q. guard at (at_most none q) >>= λ _. let part : Resource × Fraction = (At l, q) in Ok part in
      rises_then (◌≡◌ {A = Value}) (◌≡◌ {A = Resource × Fraction}) (λ n. fit p (deeper p n) s e) (λ n. fit p (deeper p n) w e) (λ n r. fit p (deeper p n) s share >>= λ v. last r v) (λ n r. fit p (deeper p n) w share >>= λ v. last r v) (rise.fits ds w s under e t te)
      (λ r r' same. rises_then (◌≡◌ {A = Value}) (◌≡◌ {A = Resource × Fraction}) (λ n. fit p (deeper p n) s share) (λ n. fit p (deeper p n) w share) (λ n v. last r v) (λ n v. last r' v) (rise.fits ds w s under share u ts)
      (λ v v' alike. rises_always (◌≡◌ {A = Resource × Fraction}) (last r v) (last r' v') (λ x is. (x, refl, ap (λ r. last r v') (sym same) ∙ ap (last r) (sym alike) ∙ is))))

  pub instance_rises : (at : Place) (i : Name) (es : Exprs) (share : Expr) (fs : List Declaration) (u : ValueType) → HaveTypes p ds es fs → HasType p ds share u → Rises (λ n. instance_part p (deeper p n) s at i es share) (λ n. instance_part p (deeper p n) w at i es share)
  instance_rises at i es share fs u te ts =
      let last = λ (vs : List Value) (v : Value). or_fail at (amount_of v) >>= λ q. guard at (at_most none q) >>= λ _. let part : Resource × Fraction = (Folded record { predicate = i; arguments = vs }, q) in Ok part in
      rises_then (◌≡◌ {A = List Value}) (◌≡◌ {A = Resource × Fraction}) (λ n. fit_all p (deeper p n) s es) (λ n. fit_all p (deeper p n) w es) (λ n vs. fit p (deeper p n) s share >>= λ v. last vs v) (λ n vs. fit p (deeper p n) w share >>= λ v. last vs v) (rise.all_fit ds w s under es fs te)
      (λ r r' same. rises_then (◌≡◌ {A = Value}) (◌≡◌ {A = Resource × Fraction}) (λ n. fit p (deeper p n) s share) (λ n. fit p (deeper p n) w share) (λ n v. last r v) (λ n v. last r' v) (rise.fits ds w s under share u ts)
      (λ v v' alike. rises_always (◌≡◌ {A = Resource × Fraction}) (last r v) (last r' v') (λ x is. (x, refl, ap (λ r. last r v') (sym same) ∙ ap (last r) (sym alike) ∙ is))))

module _ (p : Program) (typed : IsTypedProgram p) (kept_sane : SaneKept p) (rise : FitsRise p) (ds : Scope) (a : Around) (kept : Holdings) (q : Fraction) (scale : Positive q) where
  -- what is shown of one outcome
  abbrev GoesTo : (State → Type 0) → State → Outcome → Type 0
  GoesTo R w (Ends t) = Follows p ds a kept R t × Agree p w.heap (a.holdings ++ kept) t.heap
  GoesTo R w (FailsAt at) = ⊥
  GoesTo R w Stops = Unit {0}

  goes_map : (R Q : State → Type 0) → ((s : State) → R s → Q s) → (w : State) (o : Outcome) → GoesTo R w o → GoesTo Q w o
  goes_map R Q to w (Ends t) (f, g) = (follows_map p typed kept_sane ds a kept R Q to t f, g)
  goes_map R Q to w (FailsAt at) k = k
  goes_map R Q to w Stops k = k

  abbrev Giving : Assertion → State → Outcomes
  Giving x s = give p (IsConsistent p) q x s

  abbrev GivesTo : Assertion → Type 1
  GivesTo x = (R : State → Type 0) (w : State) → Follows p ds a kept R w → NeverFails R (give p (IsConsistent p) q x) → (o : Outcome) → give_whole p a q x w o → Surely (GoesTo (After (give p (IsConsistent p) q x) R) w o)

  ended : (R : State → Type 0) (w : State) → Follows p ds a kept R w → (o : Outcome) → ends w o → GoesTo R w o
  ended R w f (Ends t) e = subst (λ (u : State). Follows p ds a kept R u × Agree p w.heap (a.holdings ++ kept) u.heap) (sym e) (f, λ l y. refl)
  ended R w f (FailsAt at) e = e
  ended R w f Stops e = absurd e

  stopped : (R : State → Type 0) (w : State) (o : Outcome) → stops o → GoesTo R w o
  stopped R w (Ends t) e = absurd e
  stopped R w (FailsAt at) e = e
  stopped R w Stops e = tt

  -- what stays of others and of the frame
  stays_sane : (R : State → Type 0) (w : State) → Follows p ds a kept R w → Sane p w.heap (a.holdings ++ kept)
  stays_sane R w f =
      let low : AtMost kept w.holdings = at_most_both kept (kept ++ f.less) w.holdings (less_with kept f.less (λ r si. f.sane.debts r si)) f.fewer in
      sane_fewer p (good_bodies p typed) w.heap (a.holdings ++ kept) (a.holdings ++ w.holdings) f.whole (typed_both p a.holdings kept (typed_first p a.holdings w.holdings f.whole.typed) f.kept_typed) (debts_both a.holdings kept f.around f.kept_debts)
      (front_fewer a.holdings kept w.holdings low)

  -- a part, at which values may change where nobody holds anything
  module _ (x : Assertion) (check : State → ℕ → Checked (Resource × Fraction)) (rises : (w s : State) → Under p ds w s → Rises (check s) (check w))
      (kind : (w : State) → AreTyped ds w.store → (n : ℕ) (part : Resource × Fraction) → check w n ≡ Ok part → IsTypedResource p Any part.0 × Le none part.1)
      (rule : (s : State) (o : Outcome) → checked (check s) (λ part z. (let t : State = with_holdings (gained part.0 (product q part.1) s.holdings) s in (IsConsistent p t × ends t z) ⊎ ((IsConsistent p t → ⊥) × stops z))) o → give p (IsConsistent p) q x s o) where
    changed : (R : State → Type 0) (w : State) → Follows p ds a kept R w → (part : Resource × Fraction) → IsTypedResource p Any part.0 → Le none part.1 → Eventually (λ n. check w n ≡ Ok part) →
        (f : Follows p ds a kept (λ s. R s × Eventually (λ n. check s n ≡ Ok part)) w) → (g : Heap) → ChangesBeside p a w g → IsPossible p a (with_holdings (gained part.0 (product q part.1) w.holdings) (with_heap g w)) →
        Follows p ds a kept (After (give p (IsConsistent p) q x) R) (with_holdings (gained part.0 (product q part.1) w.holdings) (with_heap g w)) × Agree p w.heap (a.holdings ++ kept) g
    changed R w whole part kind' sign passes' f g changes can = (
      record {
        store = f.store;
        whole = now;
        debts = entry_debts;
        around = f.around;
        kept_debts = f.kept_debts;
        kept_typed = f.kept_typed;
        less = entry ∷ f.less;
        old_less = f.old_less;
        fewer = fewer;
        sane = less_sane;
        old_whole = f.old_whole;
        old_fewer = f.old_fewer;
        old_sane = f.old_sane;
        shadow = shadow;
      },
      stays,
    )
      where
        entry : Resource × Fraction
        entry = (part.0, product q part.1)

        worth : Le none (product q part.1)
        worth = product_sign {a = q} {b = part.1} (positive_le scale) sign

        entry_debts : NoDebts (gained part.0 (product q part.1) w.holdings)
        entry_debts = gained_debts p part.0 (product q part.1) w.holdings worth f.debts

        of_around : TypedAll p Any a.holdings
        of_around = typed_first p a.holdings w.holdings f.whole.typed

        of_whole : TypedAll p Any w.holdings
        of_whole = typed_suffix p a.holdings w.holdings f.whole.typed

        now : Sane p g (a.holdings ++ gained part.0 (product q part.1) w.holdings)
        now = of_possible p (good_bodies p typed) Any true (with_holdings (a.holdings ++ gained part.0 (product q part.1) w.holdings) (with_heap g w)) can
            (typed_both p a.holdings (gained part.0 (product q part.1) w.holdings) of_around (kind', of_whole)) (debts_both a.holdings (gained part.0 (product q part.1) w.holdings) f.around entry_debts)

        less_low : AtMost f.less w.holdings
        less_low = less_at_most p typed kept_sane ds a kept (λ s. R s × Eventually (λ n. check s n ≡ Ok part)) w f

        entry_low : AtMost (entry ∷ f.less) (a.holdings ++ gained part.0 (product q part.1) w.holdings)
        entry_low = at_most_both (entry ∷ f.less) (entry ∷ w.holdings) (a.holdings ++ (entry ∷ w.holdings)) (front_fewer (entry ∷ []) f.less w.holdings less_low) (more_with a.holdings (entry ∷ w.holdings) f.around)

        less_sane : Sane p g (entry ∷ f.less)
        less_sane = sane_fewer p (good_bodies p typed) g (entry ∷ f.less) (a.holdings ++ (entry ∷ w.holdings)) now (kind', f.sane.typed) (gained_debts p part.0 (product q part.1) f.less worth (λ r si. f.sane.debts r si)) entry_low

        old_low : AtMost f.less (a.holdings ++ w.holdings)
        old_low = at_most_both f.less w.holdings (a.holdings ++ w.holdings) less_low (more_with a.holdings w.holdings f.around)

        less_agrees : Agree p w.heap f.less g
        less_agrees = agree_fewer p (good_bodies p typed) w.heap g f.less (a.holdings ++ w.holdings) f.sane f.whole old_low changes

        stays : Agree p w.heap (a.holdings ++ kept) g
        stays = agree_fewer p (good_bodies p typed) w.heap g (a.holdings ++ kept) (a.holdings ++ w.holdings) (stays_sane (λ s. R s × Eventually (λ n. check s n ≡ Ok part)) w f) f.whole
            (front_fewer a.holdings kept w.holdings (at_most_both kept (kept ++ f.less) w.holdings (less_with kept f.less (λ r si. f.sane.debts r si)) f.fewer)) changes

        fewer : AtMost (kept ++ (entry ∷ f.less)) (gained part.0 (product q part.1) w.holdings)
        fewer = at_most_both (kept ++ (entry ∷ f.less)) (entry ∷ (kept ++ f.less)) (entry ∷ w.holdings) (swap kept (entry ∷ []) f.less) (front_fewer (entry ∷ []) (kept ++ f.less) w.holdings f.fewer)

        -- a state of the run by contracts that has this heap
        shadow : (h : Heap) → Agree p g (entry ∷ f.less) h → Surely ((s : State) × Shadow p (After (give p (IsConsistent p) q x) R) (with_holdings (gained part.0 (product q part.1) w.holdings) (with_heap g w)) (entry ∷ f.less) f.old_less h s)
        shadow h agree =
            let small : AtMost f.less (entry ∷ f.less) = more_with (entry ∷ []) f.less (gained_debts p part.0 (product q part.1) [] worth (λ r si. none_none)) in
            let there : Sane p g f.less = (kept_sane w.heap g f.less f.sane less_agrees).0 in
            let after : Agree p g f.less h = agree_fewer p (good_bodies p typed) g h f.less (entry ∷ f.less) there less_sane small agree in
            surely_map (f.shadow h (agree_then p (good_bodies p typed) kept_sane w.heap g h f.less f.sane less_agrees after)) (λ y. give_to y.0 y.1)
          where
            none_none : Le none none
            none_none = record { holds = refl }

            give_to : (s : State) → Shadow p (λ s. R s × Eventually (λ n. check s n ≡ Ok part)) w f.less f.old_less h s →
                (t : State) × Shadow p (After (give p (IsConsistent p) q x) R) (with_holdings (gained part.0 (product q part.1) w.holdings) (with_heap g w)) (entry ∷ f.less) f.old_less h t
            give_to s k =
                let t : State = with_holdings (gained part.0 (product q part.1) s.holdings) s in
                let sane : Sane p s.heap (entry ∷ f.less) = (kept_sane g s.heap (entry ∷ f.less) less_sane (alike_then p g h s.heap (entry ∷ f.less) agree k.heap)).0 in
                let sane' : Sane p s.heap (entry ∷ s.holdings) = subst (λ (z : Holdings). Sane p s.heap (entry ∷ z)) (sym k.holdings) sane in
                let given = rule s (Ends t) (passes part k.reached.1 (inl (consistent p (good_bodies p typed) Any true t refl sane', refl))) in (
                  t,
                  record {
                    reached = (s, k.reached.0, given);
                    store = k.store;
                    holdings = ap (λ (z : Holdings). entry ∷ z) k.holdings;
                    heap = k.heap;
                    old_holdings = k.old_holdings;
                    old_heap = k.old_heap;
                  },
                )

    pub part_goes : (R : State → Type 0) (w : State) → Follows p ds a kept R w → NeverFails R (give p (IsConsistent p) q x) → (o : Outcome) → checked (check w) (whole.give_part p a q w) o → Surely (GoesTo (After (give p (IsConsistent p) q x) R) w o)
    part_goes R w f never o run = surely_map (decided p typed kept_sane ds a kept R check w f (λ s k. rises w s k) (λ s r y. never s r y.0 (rule s (FailsAt y.0) (refused y.0 y.1 refl))) (whole.give_part p a q w) o run) go
      where
        go : Decided p typed kept_sane ds a kept R check w (whole.give_part p a q w) o → GoesTo (After (give p (IsConsistent p) q x) R) w o
        go d = on d.on
          where
            known : IsTypedResource p Any d.result.0 × Le none d.result.1
            known = kind w (scope_typed ds w.store f.store) d.passes.0 d.result (d.passes.1 d.passes.0 (self d.passes.0))
              where
                self : (n : ℕ) → n ≤ n
                self n = omega arith

            at_end : (t u : State) → u ≡ t → Follows p ds a kept (After (give p (IsConsistent p) q x) R) t × Agree p w.heap (a.holdings ++ kept) t.heap → Follows p ds a kept (After (give p (IsConsistent p) q x) R) u × Agree p w.heap (a.holdings ++ kept) u.heap
            at_end t u e k = subst (λ (z : State). Follows p ds a kept (After (give p (IsConsistent p) q x) R) z × Agree p w.heap (a.holdings ++ kept) z.heap) (sym e) k

            by_outcome : (o : Outcome) (g : Heap) → ChangesBeside p a w g → IsPossible p a (with_holdings (gained d.result.0 (product q d.result.1) w.holdings) (with_heap g w)) → ends (with_holdings (gained d.result.0 (product q d.result.1) w.holdings) (with_heap g w)) o →
                GoesTo (After (give p (IsConsistent p) q x) R) w o
            by_outcome (Ends t) g changes can e = at_end (with_holdings (gained d.result.0 (product q d.result.1) w.holdings) (with_heap g w)) t e (changed R w f d.result known.0 known.1 d.passes d.follows g changes can)
            by_outcome (FailsAt at) g changes can e = e
            by_outcome Stops g changes can e = absurd e

            on : whole.give_part p a q w d.result o → GoesTo (After (give p (IsConsistent p) q x) R) w o
            on (g, (changes, inl (can, e))) = by_outcome o g changes can e
            on (g, (changes, inr (no_can, e))) = stopped (After (give p (IsConsistent p) q x) R) w o e

  -- one after the other
  after_both : (x y : Assertion) → GivesTo y → (R : State → Type 0) (w : State) → Follows p ds a kept R w → NeverFails R (give p (IsConsistent p) q (Both x y)) → (t : State) (o : Outcome) → give_whole p a q y t o → GoesTo (After (give p (IsConsistent p) q x) R) w (Ends t) → Surely (GoesTo (After (give p (IsConsistent p) q (Both x y)) R) w o)
  after_both x y second R w f never t o run (k, agree) = surely_map (second (After (give p (IsConsistent p) q x) R) t k (λ s r at fail. never r.0 r.1 at (goes_on s r.2 fail)) o run) (on o)
    where
      on : (o : Outcome) → GoesTo (After (give p (IsConsistent p) q y) (After (give p (IsConsistent p) q x) R)) t o → GoesTo (After (give p (IsConsistent p) q (Both x y)) R) w o
      on (Ends u) (g, further) = (
        follows_map p typed kept_sane ds a kept (After (give p (IsConsistent p) q y) (After (give p (IsConsistent p) q x) R)) (After (give p (IsConsistent p) q (Both x y)) R) (λ s r. (r.1.0, r.1.1, goes_on r.0 r.1.2 r.2)) u g,
        agree_then p (good_bodies p typed) kept_sane w.heap t.heap u.heap (a.holdings ++ kept) (stays_sane R w f) agree further,
      )
      on (FailsAt at) e = e
      on Stops e = tt

  over_both : (x y : Assertion) (R : State → Type 0) (w : State) (o : Outcome) → IsOver o → GoesTo (After (give p (IsConsistent p) q x) R) w o → GoesTo (After (give p (IsConsistent p) q (Both x y)) R) w o
  over_both x y R w (Ends t) over k = absurd over
  over_both x y R w (FailsAt at) over k = k
  over_both x y R w Stops over k = tt

  gives_to : (x : Assertion) → IsTyped p ds x → GivesTo x
  gives_to (Pure e) ty R w f never o run = surely_map (decided p typed kept_sane ds a kept R (λ s n. fit_by p n s e) w f (λ s k. rise.fits ds w s k e _ ty) (λ s r y. never s r y.0 (refused y.0 y.1 refl)) (λ v. side v (ends w) stops) o run)
      (λ d. by_side d.result (ends w) stops o d.on
      (λ truth h. goes_map (λ s. R s × Eventually (λ n. fit_by p n s e ≡ Ok d.result)) (After (give p (IsConsistent p) q (Pure e)) R) (λ s r. (s, r.0, passes d.result r.1 (on_true d.result (ends s) stops (Ends s) truth refl))) w o (ended (λ s. R s × Eventually (λ n. fit_by p n s e ≡ Ok d.result)) w d.follows o h))
      (λ falsity h. stopped (After (give p (IsConsistent p) q (Pure e)) R) w o h))
  gives_to (Points at e g share) ty R w f never o run =
      part_goes (Points at e g share) (λ s n. field_part p (deeper p n) s at e g share) (λ w s k. field_rises p rise ds w s k at e g share _ _ ty.0 ty.2)
      (λ w k n part is. let y = field_parts p (deeper p n) w at e g share part is in sign_of p (At y.location) y.amount part y.is tt y.sign) (λ s o k. k) R w f never o run
  gives_to (syntax.Instance at i es share) ty R w f never o run =
      part_goes (syntax.Instance at i es share) (λ s n. instance_part p (deeper p n) s at i es share) (λ w s k. instance_rises p rise ds w s k at i es share _ _ ty.0.2 ty.1)
      (λ w k n part is. let y = instance_parts p (deeper p n) w at i es share part is in sign_of p (Folded record { predicate = i; arguments = y.arguments }) y.amount part y.is (instance_kind p typed ds w k n es i ty.0.0 y.arguments ty.0.1 ty.0.2 y.arguments_are) y.sign) (λ s o k. k) R w f never o run
  gives_to (Both x y) ty R w f never o (goes_on t first rest) =
      surely_then (gives_to x ty.0 R w f (λ s r at fail. never s r at (is_over tt fail)) (Ends t) first) (after_both x y (λ R w f never o run. gives_to y ty.1 R w f never o run) R w f never t o rest)
  gives_to (Both x y) ty R w f never o (is_over over first) = surely_map (gives_to x ty.0 R w f (λ s r at fail. never s r at (is_over tt fail)) o first) (over_both x y R w o over)
  gives_to (Implied c x) ty R w f never o run = surely_then (decided p typed kept_sane ds a kept R (λ s n. fit_by p n s c) w f (λ s k. rise.fits ds w s k c _ ty.0) (λ s r y. never s r y.0 (refused y.0 y.1 refl)) (λ v. side v (give_whole p a q x w) (ends w)) o run)
      (λ d. by_side d.result (give_whole p a q x w) (ends w) o d.on
      (λ truth h. surely_map (gives_to x ty.1 (λ s. R s × Eventually (λ n. fit_by p n s c ≡ Ok d.result)) w d.follows (λ s r at fail. never s r.0 at (passes d.result r.1 (on_true d.result (give p (IsConsistent p) q x s) (ends s) (FailsAt at) truth fail))) o h)
      (goes_map (After (give p (IsConsistent p) q x) (λ s. R s × Eventually (λ n. fit_by p n s c ≡ Ok d.result))) (After (give p (IsConsistent p) q (Implied c x)) R) (λ t r. (r.0, r.1.0, passes d.result r.1.1 (on_true d.result (give p (IsConsistent p) q x r.0) (ends r.0) (Ends t) truth r.2))) w o))
      (λ falsity h. surely (goes_map (λ s. R s × Eventually (λ n. fit_by p n s c ≡ Ok d.result)) (After (give p (IsConsistent p) q (Implied c x)) R) (λ s r. (s, r.0, passes d.result r.1 (on_false d.result (give p (IsConsistent p) q x s) (ends s) (Ends s) falsity refl))) w o
      (ended (λ s. R s × Eventually (λ n. fit_by p n s c ≡ Ok d.result)) w d.follows o h))))
  gives_to (Chosen c x y) ty R w f never o run = surely_then (decided p typed kept_sane ds a kept R (λ s n. fit_by p n s c) w f (λ s k. rise.fits ds w s k c _ ty.0) (λ s r y. never s r y.0 (refused y.0 y.1 refl)) (λ v. side v (give_whole p a q x w) (give_whole p a q y w)) o run)
      (λ d. by_side d.result (give_whole p a q x w) (give_whole p a q y w) o d.on
      (λ truth h. surely_map (gives_to x ty.1 (λ s. R s × Eventually (λ n. fit_by p n s c ≡ Ok d.result)) w d.follows (λ s r at fail. never s r.0 at (passes d.result r.1 (on_true d.result (give p (IsConsistent p) q x s) (give p (IsConsistent p) q y s) (FailsAt at) truth fail))) o h)
      (goes_map (After (give p (IsConsistent p) q x) (λ s. R s × Eventually (λ n. fit_by p n s c ≡ Ok d.result))) (After (give p (IsConsistent p) q (Chosen c x y)) R) (λ t r. (r.0, r.1.0, passes d.result r.1.1 (on_true d.result (give p (IsConsistent p) q x r.0) (give p (IsConsistent p) q y r.0) (Ends t) truth r.2))) w o))
      (λ falsity h. surely_map (gives_to y ty.2 (λ s. R s × Eventually (λ n. fit_by p n s c ≡ Ok d.result)) w d.follows (λ s r at fail. never s r.0 at (passes d.result r.1 (on_false d.result (give p (IsConsistent p) q x s) (give p (IsConsistent p) q y s) (FailsAt at) falsity fail))) o h)
      (goes_map (After (give p (IsConsistent p) q y) (λ s. R s × Eventually (λ n. fit_by p n s c ≡ Ok d.result))) (After (give p (IsConsistent p) q (Chosen c x y)) R) (λ t r. (r.0, r.1.0, passes d.result r.1.1 (on_false d.result (give p (IsConsistent p) q x r.0) (give p (IsConsistent p) q y r.0) (Ends t) falsity r.2))) w o)))

pub gives_go : (p : Program) → IsTypedProgram p → SaneKept p → FitsRise p → GivesGo p
gives_go p typed kept_sane rise ds a kept R w q x scale ty f never = record {
  fine = λ at run. gives_to p typed kept_sane rise ds a kept q scale x ty R w f never (FailsAt at) run (λ k. k);
  on = λ t run. gives_to p typed kept_sane rise ds a kept q scale x ty R w f never (Ends t) run;
}
