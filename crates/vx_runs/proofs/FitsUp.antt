-- What fits with less fits with more, with the same value, where what is opened and applied does.
use Rattle.std.proofs.Common.{◌≡◌, ℕ, Bool, true, false, cond, ◌&&◌, List, ◌∷◌, Option, Some, None, refl, sym, ◌∙◌, ap, ap₂}
use Rattle.std.specs.Prelude.{Ok}
use Rattle.std.proofs.lemmas.Bool.{and_parts}
use Rattle.vx_ast.specs.declared.Place.{Place}
use Rattle.vx_ast.specs.declared.ValueType.{ValueType}
use Rattle.vx_frac.specs.Fractions.{Fraction, is_positive}
use Rattle.vx_ast.specs.Syntax.{Name, Declaration, Program, Function, function_named, Connective, Operator, Multiply, Number, Operate, Expr, Exprs}
use Rattle.vx_meaning.specs.Values.{Value, IntValue, BoolValue, RefValue, PermValue, negated, operated, divided, needs_right, without_right}
use Rattle.vx_meaning.specs.States as run
use Rattle.vx_meaning.specs.States.{State, Location, Instance, At, Folded, amount, value_at, at_old}
use Rattle.vx_meaning.specs.Fits.{Checked, ◌>>=◌, or_fail, guard, choose, connected, location_of, amount_of, readable, has_instance, Deeper, deeper, fit, fit_all, Eventually}
use Rattle.vx_types.specs.Typing.{Scope, HasType, number, truth, nulls, part, variable, nots, operates, scales, divides, connects, chooses, reads, olds, applies, unfoldings, HaveTypes, no_more, more}
use Rattle.vx_types.specs.Premises.{IsTypedProgram}
use Rattle.vx_amounts.proofs.Amounts.{Le, Positive, le-trans, positive-le}
use Rattle.vx_sound.proofs.Chunks.{held_directly}
use Rattle.vx_sound.proofs.Stripped.{all_fit_worth}
use Rattle.vx_sound_preds.proofs.Fitting.{undo, not_failed, guarded}
use Rattle.vx_sound_preds.proofs.Framing.{failed}
use Rattle.vx_sound_preds.proofs.Holding.{instance_rigid}
use Rattle.vx_sound_preds.proofs.TypedValues.{have_types, applications_typed}
use Rattle.vx_runs.proofs.Followed.{Any, Under}
use Rattle.vx_runs.proofs.Surely.{Surely, surely, surely_then, surely_map}
use Rattle.vx_runs.proofs.Rising.{after_ok}
use Rattle.vx_runs.proofs.Exchanging.{held_typed}
use Rattle.vx_runs.proofs.Framed.{Becomes}

-- in the old part
pub under_old : (p : Program) (ds : Scope) (w s : State) → Under p ds w s → Under p ds (at_old w) (at_old s)
under_old p ds w s k = record {
  store = k.store;
  typed = k.typed;
  sane = k.old_sane;
  fewer = k.old_fewer;
  agree = k.old_agree;
  old_sane = k.old_sane;
  old_fewer = k.old_fewer;
  old_agree = k.old_agree;
}

-- an instance that less has, more has too
pub has_more : (p : Program) (ds : Scope) (w s : State) (i : Instance) (q : Fraction) → Under p ds w s → has_instance s i q ≡ true → has_instance w i q ≡ true
has_more p ds w s i q k has =
    let parts = and_parts _ _ has in
    let positive : Positive q = record { holds = parts.0 } in
    let below : Le q (amount s.holdings (Folded i)) = record { holds = parts.1 } in
    let rigid = instance_rigid p Any i (held_typed p s.holdings i k.sane.typed (positive-le positive below)) in
    let more : Le q (amount w.holdings (Folded i)) = le-trans below (k.fewer (Folded i) rigid) in
    ap₂ (λ (a b : Bool). a && b) parts.0 more.holds

pub record OpenedBeside (p : Program) (ds : Scope) (w : State) (i : Instance) (q : Fraction) (u : State) : Type 0 where
  pub more : State
  pub by_more : Becomes (λ k. let d : Deeper = deeper p k in d.opened i q w) more
  pub under : Under p ds more u

-- what is opened, and what is applied, with less
abbrev pub OpensUp : Program → ℕ → Type 0
OpensUp p m = (ds : Scope) (w s : State) → Under p ds w s → (i : Instance) (q : Fraction) (u : State) → has_instance s i q ≡ true → (let d : Deeper = deeper p m in d.opened i q s ≡ Some u) → Surely (OpenedBeside p ds w i q u)

abbrev pub AppliesUp : Program → ℕ → Type 0
AppliesUp p m = (ds : Scope) (w s : State) → Under p ds w s → (f : Name) (g : Function) → function_named p f ≡ Some g → (vs : List Value) → run.HaveTypes g.parameters vs → (v : Value) → (let d : Deeper = deeper p m in d.applied f vs s ≡ Some v) →
    Surely (Becomes (λ k. let d : Deeper = deeper p k in d.applied f vs w) v)

pub record FitsUp (p : Program) (m : ℕ) : Type 0 where
  pub fits : (ds : Scope) (w s : State) → Under p ds w s → (e : Expr) (t : ValueType) → HasType p ds e t → (v : Value) → fit p (deeper p m) s e ≡ Ok v → Surely (Eventually (λ k. fit p (deeper p k) w e ≡ Ok v))
  pub all_fit : (ds : Scope) (w s : State) → Under p ds w s → (es : Exprs) (fs : List Declaration) → HaveTypes p ds es fs → (vs : List Value) → fit_all p (deeper p m) s es ≡ Ok vs → Surely (Eventually (λ k. fit_all p (deeper p k) w es ≡ Ok vs))

module _ (p : Program) (typed : IsTypedProgram p) (m : ℕ) (opens_up : OpensUp p m) (applies_up : AppliesUp p m) where
  abbrev Up : State → State → Expr → Type 0
  Up s w e = (v : Value) → fit p (deeper p m) s e ≡ Ok v → Surely (Eventually (λ k. fit p (deeper p k) w e ≡ Ok v))

  always : {A : Type 0} (x y : Checked A) → x ≡ y → Eventually (λ k. x ≡ y)
  always x y e = (0, λ k le. e)

  from_option : {A : Type 0} (at : Place) (o : ℕ → Option A) (a : A) → Becomes o a → Eventually (λ k. or_fail at (o k) ≡ Ok a)
  from_option at o a h = (h.0, λ k le. ap (or_fail at) (h.1 k le))

  operate_up : (s w : State) (at : Place) (op : Operator) (a b : Expr) → Up s w a → Up s w b → Up s w (Operate at op a b)
  operate_up s w at op a b ha hb v h =
      let x = undo (fit p (deeper p m) s a) (λ v. fit p (deeper p m) s b >>= λ w. or_fail at (operated op v w)) v h in
      let y = undo (fit p (deeper p m) s b) (λ w. or_fail at (operated op x.it w)) v x.then in
      surely_then (ha x.it x.is) (λ c. surely_map (hb y.it y.is) (λ d.
      after_ok (λ k. fit p (deeper p k) w a) (λ k v. fit p (deeper p k) w b >>= λ u. or_fail at (operated op v u)) x.it (Ok v) c
      (after_ok (λ k. fit p (deeper p k) w b) (λ k u. or_fail at (operated op x.it u)) y.it (Ok v) d (always _ (Ok v) y.then))))

  right_up : (s w : State) (at : Place) (c : Connective) (b : Expr) → Up s w b → (a v : Value) → connected at c a (fit p (deeper p m) s b) ≡ Ok v → Surely (Eventually (λ k. connected at c a (fit p (deeper p k) w b) ≡ Ok v))
  right_up s w at c b h (BoolValue a) v e = go (needs_right c a) e
    where
      go : (x : Bool) → cond x (fit p (deeper p m) s b) (Ok (BoolValue (without_right c))) ≡ Ok v → Surely (Eventually (λ k. cond x (fit p (deeper p k) w b) (Ok (BoolValue (without_right c))) ≡ Ok v))
      go true e = h v e
      go false e = surely (always _ (Ok v) e)
  right_up s w at c b h (IntValue z) v e = absurd (failed _ _ e)
  right_up s w at c b h (RefValue z) v e = absurd (failed _ _ e)
  right_up s w at c b h (PermValue z) v e = absurd (failed _ _ e)

  side_up : (s w : State) (at : Place) (a b : Expr) → Up s w a → Up s w b → (c v : Value) → choose at c (fit p (deeper p m) s a) (fit p (deeper p m) s b) ≡ Ok v → Surely (Eventually (λ k. choose at c (fit p (deeper p k) w a) (fit p (deeper p k) w b) ≡ Ok v))
  side_up s w at a b ha hb (BoolValue true) v e = ha v e
  side_up s w at a b ha hb (BoolValue false) v e = hb v e
  side_up s w at a b ha hb (IntValue z) v e = absurd (failed _ _ e)
  side_up s w at a b ha hb (RefValue z) v e = absurd (failed _ _ e)
  side_up s w at a b ha hb (PermValue z) v e = absurd (failed _ _ e)

  read_up : (ds : Scope) (s w : State) (at : Place) (f : Name) (r v : Value) → Under p ds w s → (or_fail at (location_of f r) >>= λ l. or_fail at (readable p s l)) ≡ Ok v → (or_fail at (location_of f r) >>= λ l. or_fail at (readable p w l)) ≡ Ok v
  read_up ds s w at f (RefValue r) v k e = go (is_positive (amount s.holdings (At record { receiver = r; field = f }))) refl e
    where
      go : (b : Bool) → is_positive (amount s.holdings (At record { receiver = r; field = f })) ≡ b → or_fail at (cond b (Some (value_at p s.heap record { receiver = r; field = f })) None) ≡ Ok v → or_fail at (readable p w record { receiver = r; field = f }) ≡ Ok v
      go true sign e =
          let l : Location = record { receiver = r; field = f } in
          let more : Positive (amount w.holdings (At l)) = positive-le (record { holds = sign }) (k.fewer (At l) tt) in
          ap (λ (b : Bool). or_fail at (cond b (Some (value_at p w.heap l)) None)) more.holds
          ∙ ap (λ (u : Value). let z : Checked Value = Ok u in z) (k.agree l (held_directly p s.heap s.holdings l (record { holds = sign }))) ∙ e
      go false sign e = absurd (failed _ _ e)
  read_up ds s w at f (IntValue z) v k e = absurd (failed _ _ e)
  read_up ds s w at f (BoolValue z) v k e = absurd (failed _ _ e)
  read_up ds s w at f (PermValue z) v k e = absurd (failed _ _ e)

  mutual
    fit_up : (ds : Scope) (w s : State) → Under p ds w s → {e : Expr} {t : ValueType} → HasType p ds e t → Up s w e
    fit_up ds w s k (number at z) v h = surely (always _ (Ok v) h)
    fit_up ds w s k (truth) v h = surely (always _ (Ok v) h)
    fit_up ds w s k (nulls at) v h = surely (always _ (Ok v) h)
    fit_up ds w s k (part at z d l) v h = surely (always _ (Ok v) h)
    fit_up ds w s k (variable at y {t = t} is) v h = surely (always _ (Ok v) (ap (or_fail at) (sym (k.store y t is)) ∙ h))
    fit_up ds w s k (nots {at = at} {e = a} ty) v h =
        let y = undo (fit p (deeper p m) s a) (λ v. or_fail at (negated v)) v h in
        surely_map (fit_up ds w s k ty y.it y.is) (λ c. after_ok (λ k. fit p (deeper p k) w a) (λ k v. or_fail at (negated v)) y.it (Ok v) c (always _ (Ok v) y.then))
    fit_up ds w s k (operates {at = at} {op = op} {a = a} {b = b} z ka kb) v h = operate_up s w at op a b (fit_up ds w s k ka) (fit_up ds w s k kb) v h
    fit_up ds w s k (scales {at = at} place z {b = b} kb) v h = operate_up s w at Multiply (Number place z) b (λ v h. surely (always _ (Ok v) h)) (fit_up ds w s k kb) v h
    fit_up ds w s k (divides {at = at} {op = op} {a = a} {b = b} ka kb) v h =
        let x = undo (fit p (deeper p m) s a) (λ v. fit p (deeper p m) s b >>= λ w. or_fail at (divided op v w)) v h in
        let y = undo (fit p (deeper p m) s b) (λ w. or_fail at (divided op x.it w)) v x.then in
        surely_then (fit_up ds w s k ka x.it x.is) (λ c. surely_map (fit_up ds w s k kb y.it y.is) (λ d.
        after_ok (λ k. fit p (deeper p k) w a) (λ k v. fit p (deeper p k) w b >>= λ u. or_fail at (divided op v u)) x.it (Ok v) c
        (after_ok (λ k. fit p (deeper p k) w b) (λ k u. or_fail at (divided op x.it u)) y.it (Ok v) d (always _ (Ok v) y.then))))
    fit_up ds w s k (connects {at = at} {c = c} {a = a} {b = b} ka kb) v h =
        let y = undo (fit p (deeper p m) s a) (λ v. connected at c v (fit p (deeper p m) s b)) v h in
        surely_then (fit_up ds w s k ka y.it y.is) (λ d. surely_map (right_up s w at c b (fit_up ds w s k kb) y.it v y.then) (λ r.
        after_ok (λ k. fit p (deeper p k) w a) (λ k v. connected at c v (fit p (deeper p k) w b)) y.it (Ok v) d r))
    fit_up ds w s k (chooses {at = at} {c = c} {a = a} {b = b} kc ka kb) v h =
        let y = undo (fit p (deeper p m) s c) (λ v. choose at v (fit p (deeper p m) s a) (fit p (deeper p m) s b)) v h in
        surely_then (fit_up ds w s k kc y.it y.is) (λ d. surely_map (side_up s w at a b (fit_up ds w s k ka) (fit_up ds w s k kb) y.it v y.then) (λ r.
        after_ok (λ k. fit p (deeper p k) w c) (λ k v. choose at v (fit p (deeper p k) w a) (fit p (deeper p k) w b)) y.it (Ok v) d r))
    fit_up ds w s k (reads {at = at} {e = a} g is ty) v h =
        let y = undo (fit p (deeper p m) s a) (λ r. or_fail at (location_of g r) >>= λ l. or_fail at (readable p s l)) v h in
        surely_map (fit_up ds w s k ty y.it y.is) (λ c. after_ok (λ k. fit p (deeper p k) w a) (λ k r. or_fail at (location_of g r) >>= λ l. or_fail at (readable p w l)) y.it (Ok v) c (always _ (Ok v) (read_up ds s w at g y.it v k y.then)))
    fit_up ds w s k (olds ty) v h = fit_up ds (at_old w) (at_old s) (under_old p ds w s k) ty v h
    fit_up ds w s k (applies {at = at} g {es = es} d is tys) v h =
        let y = undo (fit_all p (deeper p m) s es) (λ vs. let d : Deeper = deeper p m in or_fail at (d.applied g vs s)) v h in
        let types = have_types p typed.functions m (applications_typed p typed.functions m) s k.typed tys y.it (all_fit_worth p m s es y.it y.is) in
        surely_then (all_up ds w s k tys y.it y.is) (λ c. surely_map (applies_up ds w s k g d is y.it types v (not_failed at _ v y.then)) (λ r.
        after_ok (λ k. fit_all p (deeper p k) w es) (λ k vs. let d : Deeper = deeper p k in or_fail at (d.applied g vs w)) y.it (Ok v) c (from_option at (λ k. let d : Deeper = deeper p k in d.applied g y.it w) v r)))
    fit_up ds w s k (unfoldings {at = at} i {es = es} {share = share} {e = a} d is tys tq ty) v h =
        let inst = λ (vs : List Value). let k : Instance = record { predicate = i; arguments = vs } in k in
        let last = λ (t : State). fit p (deeper p m) t a in
        let opening = λ (q : Fraction) (vs : List Value). let d : Deeper = deeper p m in guard at (has_instance s (inst vs) q) >>= λ _. or_fail at (d.opened (inst vs) q s) >>= last in
        let arguments = λ (q : Fraction). guard at (is_positive q) >>= λ _. fit_all p (deeper p m) s es >>= opening q in
        let y = undo (fit p (deeper p m) s share) (λ v. or_fail at (amount_of v) >>= arguments) v h in
        let z = undo (or_fail at (amount_of y.it)) arguments v y.then in
        let c = undo (guard at (is_positive z.it)) (λ _. fit_all p (deeper p m) s es >>= opening z.it) v z.then in
        let r = undo (fit_all p (deeper p m) s es) (opening z.it) v c.then in
        let b = undo (guard at (has_instance s (inst r.it) z.it)) (λ _. let d : Deeper = deeper p m in or_fail at (d.opened (inst r.it) z.it s) >>= last) v r.then in
        let u = undo (let d : Deeper = deeper p m in or_fail at (d.opened (inst r.it) z.it s)) last v b.then in
        let has = guarded at _ b.it b.is in
        let last' = λ (k : ℕ) (t : State). fit p (deeper p k) t a in
        let opening' = λ (k : ℕ) (q : Fraction) (vs : List Value). let d : Deeper = deeper p k in guard at (has_instance w (inst vs) q) >>= λ _. or_fail at (d.opened (inst vs) q w) >>= last' k in
        let arguments' = λ (k : ℕ) (q : Fraction). guard at (is_positive q) >>= λ _. fit_all p (deeper p k) w es >>= opening' k q in
        surely_then (fit_up ds w s k tq y.it y.is) (λ f1. surely_then (all_up ds w s k tys r.it r.is) (λ f2.
        surely_then (opens_up ds w s k (inst r.it) z.it u.it has (not_failed at _ u.it u.is)) (λ o. surely_map (fit_up ds o.more u.it o.under ty v u.then) (λ f3.
        after_ok (λ k. fit p (deeper p k) w share) (λ k v. or_fail at (amount_of v) >>= arguments' k) y.it (Ok v) f1
        (after_ok (λ k. or_fail at (amount_of y.it)) arguments' z.it (Ok v) (always _ (Ok z.it) z.is)
        (after_ok (λ k. guard at (is_positive z.it)) (λ k _. fit_all p (deeper p k) w es >>= opening' k z.it) c.it (Ok v) (always _ (Ok c.it) c.is)
        (after_ok (λ k. fit_all p (deeper p k) w es) (λ k. opening' k z.it) r.it (Ok v) f2
        (after_ok (λ k. guard at (has_instance w (inst r.it) z.it)) (λ k _. let d : Deeper = deeper p k in or_fail at (d.opened (inst r.it) z.it w) >>= last' k) tt (Ok v) (always _ (Ok tt) (ap (guard at) (has_more p ds w s (inst r.it) z.it k has)))
        (after_ok (λ k. let d : Deeper = deeper p k in or_fail at (d.opened (inst r.it) z.it w)) last' o.more (Ok v) (from_option at (λ k. let d : Deeper = deeper p k in d.opened (inst r.it) z.it w) o.more o.by_more) f3)))))))))

    all_up : (ds : Scope) (w s : State) → Under p ds w s → {es : Exprs} {fs : List Declaration} → HaveTypes p ds es fs → (vs : List Value) → fit_all p (deeper p m) s es ≡ Ok vs → Surely (Eventually (λ k. fit_all p (deeper p k) w es ≡ Ok vs))
    all_up ds w s k no_more vs h = surely (always _ (Ok vs) h)
    all_up ds w s k (more {e = a} {es = es} ty tys) vs h =
        let y = undo (fit p (deeper p m) s a) (λ v. fit_all p (deeper p m) s es >>= λ vs. Ok (v ∷ vs)) vs h in
        let z = undo (fit_all p (deeper p m) s es) (λ vs. Ok (y.it ∷ vs)) vs y.then in
        surely_then (fit_up ds w s k ty y.it y.is) (λ c. surely_map (all_up ds w s k tys z.it z.is) (λ d.
        after_ok (λ k. fit p (deeper p k) w a) (λ k v. fit_all p (deeper p k) w es >>= λ vs. Ok (v ∷ vs)) y.it (Ok vs) c
        (after_ok (λ k. fit_all p (deeper p k) w es) (λ k vs. Ok (y.it ∷ vs)) z.it (Ok vs) d (always _ (Ok vs) z.then))))

  pub fits_up : FitsUp p m
  fits_up = record { fits = λ ds w s k e t ty v h. fit_up ds w s k ty v h; all_fit = λ ds w s k es fs ty vs h. all_up ds w s k ty vs h }
