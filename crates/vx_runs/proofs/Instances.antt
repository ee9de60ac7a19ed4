-- Statements on instances: which instance is named, what its body is, and what folding and unfolding do to what is held.
use Rattle.std.proofs.Common.{arith, ◌≡◌, ◌+◌, ℕ, true, ◌⊎◌, inl, inr, List, [], Option, Some, None, refl, sym, ◌∙◌, ap, subst}
use Rattle.std.specs.Prelude.{Ok, option_and_then, unwrap_or}
use Rattle.vx_ast.specs.declared.Place.{Place}
use Rattle.vx_ast.specs.declared.ValueType.TheVariants.{Perm}
use Rattle.vx_frac.specs.Fractions.{Fraction, is_positive}
use Rattle.vx_ast.specs.Syntax.{Name, Declaration, Program, Predicate, predicate_named, Expr, Exprs, Assertion}
use Rattle.vx_meaning.specs.Values.{Value}
use Rattle.vx_meaning.specs.States.{State, Store, Holdings, Location, Instance, At, Folded, amount, bind, gained, with_store, with_holdings}
use Rattle.vx_meaning.specs.Flatten.{bare, body_entries, flat}
use Rattle.vx_meaning.specs.Consistent.{IsHeld, total}
use Rattle.vx_meaning.specs.Fits.{Checked, ◌>>=◌, or_fail, guard, placed, amount_of, deeper, fit_by, fit_all, take}
use Rattle.vx_meaning.specs.Outcomes.{Outcome, Outcomes}
use Rattle.vx_meaning.specs.Run.{instance_at, with_body}
use Rattle.vx_types.specs.Typing.{Scope, HasType, HaveTypes}
use Rattle.vx_types.specs.Premises.{IsTypedProgram}
use Rattle.vx_amounts.proofs.Amounts.{Positive, Same, same-refl, same-trans, le-trans, le-is, positive-le, sum_same}
use Rattle.vx_amounts.proofs.Amounts.{product_same}
use Rattle.vx_sound.proofs.World.{IsTypedInstance}
use Rattle.vx_sound_preds.specs.Bodies.{GoodBodies, Rigid}
use Rattle.vx_sound_preds.proofs.Fitting.{undo, guarded}
use Rattle.vx_sound_preds.proofs.Framing.{ok_same, entries_seen}
use Rattle.vx_sound_preds.proofs.Flats.{flat_more, flat_later}
use Rattle.vx_sound_preds.proofs.Totals.{weigh, weigh_more, weight, weight_of_body, total_weighs, same_is}
use Rattle.vx_sound_preds.proofs.Adding.{Fine}
use Rattle.vx_sound_preds.proofs.Taking as taking
use Rattle.vx_sound_preds.proofs.Taking.{weigh_taken}
use Rattle.vx_sound_preds.proofs.Folds.{opens_again, fold_keeps}
use Rattle.vx_sound_preds.proofs.Exchanging.{no_negatives, entered_fine, all_open, held_grows}
use Rattle.vx_sound_preds.proofs.Holding.{TypedAll, instance_rigid, stock, consistent, of_possible}
use Rattle.vx_sound_preds.proofs.Typed.{good_bodies}
use Rattle.vx_runs.proofs.Followed.{Any, Sane, FitsRise, Under}
use Rattle.vx_runs.proofs.Rising.{Rises, RisesTo, Passes, Refuses, rises_then, rises_always}
use Rattle.vx_runs.proofs.Surely.{surely_map}

-- the place alone is another one
pub rises_placed : {A B : Type 0} (Rel : A → B → Type 0) (at : Place) (c : ℕ → Checked A) (d : ℕ → Checked B) → RisesTo Rel c d → RisesTo Rel (λ n. placed at (c n)) (λ n. placed at (d n))
rises_placed Rel at c d h = surely_map h go
  where
    go : Passes Rel c d ⊎ Refuses c → Passes Rel (λ n. placed at (c n)) (λ n. placed at (d n)) ⊎ Refuses (λ n. placed at (c n))
    go (inl x) = inl record {
      less = x.less;
      more = x.more;
      related = x.related;
      by_less = (x.by_less.0, λ n le. ap (placed at) (x.by_less.1 n le));
      by_more = (x.by_more.0, λ n le. ap (placed at) (x.by_more.1 n le));
    }
    go (inr x) = inr (at, (x.1.0, λ n le. ap (placed at) (x.1.1 n le)))

-- the instance of a statement
pub record Named (p : Program) (n : ℕ) (s : State) (i : Name) (es : Exprs) (k : Instance) (q : Fraction) : Type 0 where
  pub arguments : List Value
  pub fits : fit_all p (deeper p n) s es ≡ Ok arguments
  pub is : k ≡ record { predicate = i; arguments = arguments }
  pub positive : Positive q

module _ (p : Program) where
  pub named : (n : ℕ) (s : State) (at : Place) (i : Name) (es : Exprs) (share : Expr) (k : Instance) (q : Fraction) → instance_at p n s at i es share ≡ Ok (k, q) → Named p n s i es k q
  named n s at i es share k q e =
      let inst = λ (vs : List Value). let k : Instance = record { predicate = i; arguments = vs } in k in
      let result = λ (r : Fraction) (vs : List Value). let x : Instance × Fraction = (inst vs, r) in x in
      let last = λ (r : Fraction). guard at (is_positive r) >>= λ _. fit_all p (deeper p n) s es >>= λ vs. Ok (result r vs) in
      let goal : Instance × Fraction = (k, q) in
      let x = undo (fit_by p n s share) (λ v. or_fail at (amount_of v) >>= last) goal e in
      let y = undo (or_fail at (amount_of x.it)) last goal x.then in
      let z = undo (guard at (is_positive y.it)) (λ _. fit_all p (deeper p n) s es >>= λ vs. Ok (result y.it vs)) goal y.then in
      let r = undo (fit_all p (deeper p n) s es) (λ vs. Ok (result y.it vs)) goal z.then in
      let same : result y.it r.it ≡ goal = ok_same (result y.it r.it) goal r.then in
      record {
        arguments = r.it;
        fits = r.is;
        is = ap (λ (x : Instance × Fraction). x.0) (sym same);
        positive = subst Positive (ap (λ (x : Instance × Fraction). x.1) same) (record { holds = guarded at (is_positive y.it) z.it z.is });
      }

  pub instance_rises : (rise : FitsRise p) (ds : Scope) (w s : State) → Under p ds w s → (at : Place) (i : Name) (es : Exprs) (share : Expr) (fs : List Declaration) → HaveTypes p ds es fs → HasType p ds share Perm → Rises (λ n. instance_at p n s at i es share) (λ n. instance_at p n w at i es share)
  instance_rises rise ds w s u at i es share fs te ts =
      let result = λ (q : Fraction) (vs : List Value). let x : Instance × Fraction = (record { predicate = i; arguments = vs }, q) in x in
      let last = λ (s : State) (n : ℕ) (q : Fraction). guard at (is_positive q) >>= λ _. fit_all p (deeper p n) s es >>= λ vs. Ok (result q vs) in
      rises_then (◌≡◌ {A = Value}) (◌≡◌ {A = Instance × Fraction}) (λ n. fit_by p n s share) (λ n. fit_by p n w share) (λ n v. or_fail at (amount_of v) >>= last s n) (λ n v. or_fail at (amount_of v) >>= last w n) (rise.fits ds w s u share Perm ts)
      (λ v v' same. rises_then (◌≡◌ {A = Fraction}) (◌≡◌ {A = Instance × Fraction}) (λ n. or_fail at (amount_of v)) (λ n. or_fail at (amount_of v')) (last s) (last w) (rises_always (◌≡◌ {A = Fraction}) (or_fail at (amount_of v)) (or_fail at (amount_of v')) (λ q is. (q, refl, ap (λ v. or_fail at (amount_of v)) (sym same) ∙ is)))
      (λ q q' same'. rises_then (λ (x y : Unit {0}). Unit {0}) (◌≡◌ {A = Instance × Fraction}) (λ n. guard at (is_positive q)) (λ n. guard at (is_positive q')) (λ n _. fit_all p (deeper p n) s es >>= λ vs. Ok (result q vs)) (λ n _. fit_all p (deeper p n) w es >>= λ vs. Ok (result q' vs))
      (rises_always (λ (x y : Unit {0}). Unit {0}) (guard at (is_positive q)) (guard at (is_positive q')) (λ x is. (x, tt, ap (λ q. guard at (is_positive q)) (sym same') ∙ is)))
      (λ _ _ _. rises_then (◌≡◌ {A = List Value}) (◌≡◌ {A = Instance × Fraction}) (λ n. fit_all p (deeper p n) s es) (λ n. fit_all p (deeper p n) w es) (λ n vs. Ok (result q vs)) (λ n vs. Ok (result q' vs)) (rise.all_fit ds w s u es fs te)
      (λ vs vs' alike. rises_always (◌≡◌ {A = Instance × Fraction}) (Ok (result q vs)) (Ok (result q' vs')) (λ x is. (x, refl, ap (λ q. let r : Checked (Instance × Fraction) = Ok (result q vs') in r) (sym same') ∙ ap (λ vs. let r : Checked (Instance × Fraction) = Ok (result q vs) in r) (sym alike) ∙ is))))))

  -- a predicate's body
  pub record Bodied (k : Instance) (rest : Store → Assertion → Outcomes) (o : Outcome) : Type 0 where
    pub predicate : Predicate
    pub is_named : predicate_named p k.predicate ≡ Some predicate
    pub body : Assertion
    pub body_is : predicate.body ≡ Some body
    pub on : rest (bind predicate.parameters k.arguments) body o

  module _ (k : Instance) (rest : Store → Assertion → Outcomes) (o : Outcome) where
    abbrev body_in : Predicate → Option Assertion → Outcomes
    body_in d None o = ⊥
    body_in d (Some e) o = rest (bind d.parameters k.arguments) e o

    abbrev body_of : Option Predicate → Outcomes
    body_of None o = ⊥
    body_of (Some d) o = body_in d d.body o

    pub bodied : with_body p k rest o → Bodied k rest o
    bodied h = by_predicate (predicate_named p k.predicate) refl h
      where
        by_body : (d : Predicate) → predicate_named p k.predicate ≡ Some d → (b : Option Assertion) → d.body ≡ b → body_in d b o → Bodied k rest o
        by_body d is None e h = absurd h
        by_body d is (Some a) e h = record { predicate = d; is_named = is; body = a; body_is = e; on = h }

        by_predicate : (d : Option Predicate) → predicate_named p k.predicate ≡ d → body_of d o → Bodied k rest o
        by_predicate None is h = absurd h
        by_predicate (Some d) is h = by_body d is d.body refl h

    pub with_its_body : (d : Predicate) (e : Assertion) → predicate_named p k.predicate ≡ Some d → d.body ≡ Some e → rest (bind d.parameters k.arguments) e o → with_body p k rest o
    with_its_body d e is body h = subst (λ (x : Option Predicate). body_of x o) (sym is) (subst (λ (x : Option Assertion). body_in d x o) (sym body) h)

module _ (p : Program) (typed : IsTypedProgram p) where
  abbrev good : GoodBodies p
  good = good_bodies p typed

  -- What is folded: the state is one that can be, and what was held is held.
  module _ (v : State) (rest : Holdings) (sane : Sane p v.heap v.holdings) (k : Instance) (q : Fraction) (positive : Positive q) (kind : IsTypedInstance p Any k) (d : Predicate) (e : Assertion) (is : predicate_named p k.predicate ≡ Some d) (body : d.body ≡ Some e)
      (m : ℕ) (taken : take p (deeper p m) (with_store (bind d.parameters k.arguments) v) q e v.holdings ≡ Ok rest) where
    abbrev inside : State
    inside = with_store (bind d.parameters k.arguments) v

    folded_weighs : (l : Location) (j : ℕ) (x es : Holdings) → flat p j v.heap k ≡ Some x → option_and_then (λ d. body_entries p v.heap k.arguments d) (predicate_named p k.predicate) ≡ Some es →
        Same (weigh (weight p v.heap l j) (gained (Folded k) q (taking.taken q es v.holdings))) (weigh (weight p v.heap l j) v.holdings)
    folded_weighs l j x es f b =
        let w = weight p v.heap l j in
        let more = flat_more p j v.heap k x f in
        let same : Same (w (Folded k)) (weigh w es) = same-trans (same_is (ap (λ (o : Option Holdings). amount (unwrap_or o []) (At l)) (f ∙ sym more))) (weight_of_body p v.heap l j k x more es b) in
        same-trans (same_is (weigh_more w (Folded k, q) (taking.taken q es v.holdings))) (same-trans (sum_same (product_same (same-refl q) same) (same-refl (weigh w (taking.taken q es v.holdings)))) (weigh_taken w q es v.holdings))

    pub folded_sane : TypedAll p Any rest → Sane p v.heap (gained (Folded k) q rest)
    folded_sane kinds =
        let st = stock p good Any true v.heap v.holdings sane in
        let y = fold_keeps p good v k q d e m rest is body (instance_rigid p Any k kind) positive st (consistent p good Any true v refl sane) taken in
        of_possible p good Any true (with_holdings (gained (Folded k) q rest) v) y.consistent (kind, kinds) (let z = y.stock in z.debts)

    pub folded_covers : (l : Location) → IsHeld p v.heap v.holdings l → IsHeld p v.heap (gained (Folded k) q rest) l
    folded_covers l (n, z) =
        let st = stock p good Any true v.heap v.holdings sane in
        let rigid = instance_rigid p Any k kind in
        let plain = good.plain k.predicate d e is body in
        let fine : Fine p (with_store (bind d.parameters k.arguments) v) = entered_fine p d.parameters k.arguments v rigid (st.debts, st.single) st.grounded in
        let t = taking.take_takes p q positive (deeper p m) (all_open p good m) (with_store (bind d.parameters k.arguments) v) fine e v.holdings rest plain st taken in
        let seen = entries_seen p Rigid (with_store (bind d.parameters k.arguments) v) (bare (bind d.parameters k.arguments) v.heap) (record { store = refl; heap = refl }) e plain in
        let o = opens_again p v.heap k d e is body t.entries_of (seen ∙ t.entries_are) t.can in
        let j = o.fuel + n in
        let y : j ≡ n + o.fuel = omega arith in
        let at : flat p j v.heap k ≡ Some o.inner = ap (λ (m : ℕ). flat p m v.heap k) y ∙ flat_later p n o.fuel v.heap k o.inner o.flat_is in
        let nn = no_negatives p v.heap l good in
        let more : Positive (total p j v.heap v.holdings l) = held_grows p v.heap l nn v.holdings st.single st.debts o.fuel n (record { holds = z }) in
        let w = weight p v.heap l j in
        let same = folded_weighs l j o.inner t.entries_of at o.body_is in
        let now : Positive (total p j v.heap (gained (Folded k) q rest) l) =
        positive-le more (le-trans (total_weighs p v.heap l j v.holdings).there (le-trans same.back (le-trans (le-is (ap (λ (y : Holdings). weigh w (gained (Folded k) q y)) (sym t.rest_is))) (total_weighs p v.heap l j (gained (Folded k) q rest)).back))) in
        (j, now.holds)
