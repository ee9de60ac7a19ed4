-- The value of what fits is the same in every heap that agrees where something is held, also where functions are applied: their bodies fit with what
-- their preconditions take.
use Rattle.std.proofs.Common.{arith, ◌≡◌, ◌≤◌, ◌+◌, ℕ, zero, suc, pos, Bool, true, false, cond, ◌⊎◌, inl, inr, List, [], ◌∷◌, Option, Some, None, refl, sym, ◌∙◌, ap, subst}
use Rattle.std.specs.Prelude.{Ok, option_and_then}
use Rattle.std.proofs.lemmas.Option.{same_Some}
use Rattle.vx_ast.specs.declared.Place.{Place}
use Rattle.vx_ast.specs.declared.ValueType.{ValueType}
use Rattle.vx_frac.specs.Fractions.{Fraction, full, is_positive}
use Rattle.vx_ast.specs.Syntax.{Name, Declaration, Program, Function, IsFunction, joined, member_named, function_named, Connective, Operator, Multiply, Number, Operate, Expr, Exprs}
use Rattle.vx_meaning.specs.Values.{Value, IntValue, BoolValue, RefValue, PermValue, negated, operated, divided, needs_right, without_right}
use Rattle.vx_meaning.specs.States as run
use Rattle.vx_meaning.specs.States.{State, Instance, At, amount, lookup, bind, value_at, with_store, with_holdings}
use Rattle.vx_meaning.specs.Evaluate as plain
use Rattle.vx_meaning.specs.Evaluate.{applications, value, values, read}
use Rattle.vx_meaning.specs.Fits.{Checked, ◌>>=◌, or_fail, guard, choose, connected, location_of, amount_of, readable, has_instance, Deeper, deeper, fit, fit_all, take, Eventually}
use Rattle.vx_meaning.specs.Fails.{FunctionFails, body}
use Rattle.vx_types.specs.Typing.{Scope, HasType, number, truth, nulls, part, variable, nots, operates, scales, divides, connects, chooses, reads, olds, applies, unfoldings, HaveTypes, no_more, more}
use Rattle.vx_types.specs.Now.{IsOfNow, AreOfNow}
use Rattle.vx_types.specs.Premises.{IsTypedProgram}
use Rattle.vx_sound.proofs.Chunks.{held_directly}
use Rattle.vx_sound.proofs.Fuel.{one_value, all_one_value, applications_later}
use Rattle.vx_sound.proofs.Stripped.{fit_worth, all_fit_worth}
use Rattle.vx_sound_preds.proofs.Fitting.{undo, not_failed, guarded}
use Rattle.vx_sound_preds.proofs.Framing.{ok_same, failed}
use Rattle.vx_sound_preds.proofs.Flats.{came}
use Rattle.vx_sound_preds.proofs.Asked.{held_value}
use Rattle.vx_sound_preds.proofs.Holding.{all_single}
use Rattle.vx_sound_preds.proofs.Typed.{good_bodies}
use Rattle.vx_sound_preds.proofs.Types.{found_type}
use Rattle.vx_sound_preds.proofs.TypedValues.{AreTyped, have_types, applications_typed}
use Rattle.vx_sound_funcs.proofs.Grows.{applied_by}
use Rattle.vx_runs.specs.Law.{NoneFails}
use Rattle.vx_runs.proofs.Followed.{Any, Sane, Agree}
use Rattle.vx_runs.proofs.Fewer.{held_fewer}
use Rattle.vx_runs.proofs.Surely.{Surely, surely, surely_then, surely_map}
use Rattle.vx_runs.proofs.Rising.{Refuses, eventually_both}
use Rattle.vx_runs.proofs.Settling.{fit_settles}
use Rattle.vx_runs.proofs.Exchanging.{Exchanged, exchange_sane}
use Rattle.vx_runs.proofs.Now.{value_now}
use Rattle.vx_runs.proofs.Starting.{function_member, Started, starts}

-- from some fuel on it has this value
abbrev pub Becomes : {A : Type 0} → (ℕ → Option A) → A → Type 0
Becomes o a = Eventually (λ k. o k ≡ Some a)

pub becomes_always : {A : Type 0} (o : Option A) (a : A) → o ≡ Some a → Becomes (λ k. o) a
becomes_always o a e = (0, λ k le. e)

pub becomes_then : {A B : Type 0} (o : ℕ → Option A) (f : ℕ → A → Option B) (a : A) (b : B) → Becomes o a → Becomes (λ k. f k a) b → Becomes (λ k. option_and_then (f k) (o k)) b
becomes_then o f a b h k = let z = eventually_both (λ n. o n ≡ Some a) (λ n. f n a ≡ Some b) h k in (z.0, λ n le. let y = z.1 n le in ap (option_and_then (f n)) y.0 ∙ y.1)

self : (n : ℕ) → n ≤ n
self n = omega arith

applied_one : (p : Program) (f : Name) (vs : List Value) (s : State) (v w : Value) (n m : ℕ) → applications p n f vs s ≡ Some v → applications p m f vs s ≡ Some w → v ≡ w
applied_one p f vs s v w n m h k =
    let z : m + n ≡ n + m = omega arith in
    same_Some v w (sym (applications_later p m n f vs s v h) ∙ ap (λ (j : ℕ). applications p j f vs s) z ∙ applications_later p n m f vs s w k)

-- what may be applied has its value
applied_worth : (p : Program) (m : ℕ) (f : Name) (vs : List Value) (s : State) (v : Value) → (let d : Deeper = deeper p m in d.applied f vs s ≡ Some v) → applications p m f vs s ≡ Some v
applied_worth p zero f vs s v e = absurd (nothing e)
  where
    nothing : ◌≡◌ {A = Option Value} None (Some v) → ⊥
    nothing e = cc
applied_worth p (suc m) f vs s v e =
    let k = applied_by p m f vs s v e in
    ap (option_and_then (λ g. value p (applications p m) (with_store (bind g.parameters vs) s) g.body)) k.named ∙ k.taken.body

module _ (p : Program) (typed : IsTypedProgram p) where
  abbrev Worth : State → Expr → Value → Type 0
  Worth w e v = Becomes (λ k. value p (applications p k) w e) v

  abbrev AllWorth : State → Exprs → List Value → Type 0
  AllWorth w es vs = Becomes (λ k. values p (applications p k) w es) vs

  -- applications have the same values, by n
  abbrev pub AppliesFramed : ℕ → Type 0
  AppliesFramed n = (f : Name) (g : Function) → function_named p f ≡ Some g → (vs : List Value) → run.HaveTypes g.parameters vs → (s w : State) → Sane p s.heap s.holdings → Agree p s.heap s.holdings w.heap →
      (m : ℕ) (v : Value) → (let d : Deeper = deeper p m in d.applied f vs s ≡ Some v) → applications p n f vs s ≡ Some v → Surely (Becomes (λ k. applications p k f vs w) v)

  opened_sane : (m : ℕ) (i : Instance) (q : Fraction) (s u : State) → Sane p s.heap s.holdings → has_instance s i q ≡ true → (let d : Deeper = deeper p m in d.opened i q s ≡ Some u) → Exchanged p s u
  opened_sane zero i q s u sane has e = absurd (nothing e)
    where
      nothing : ◌≡◌ {A = Option State} None (Some u) → ⊥
      nothing e = cc
  opened_sane (suc m) i q s u sane has e = exchange_sane p typed m i q s u sane has e

  module _ (n : ℕ) (below : AppliesFramed n) (m : ℕ) where
    -- the state, and one over another heap
    record Beside (ds : Scope) (s w : State) : Type 0 where
      store : w.store ≡ s.store
      of_scope : AreTyped ds s.store
      sane : Sane p s.heap s.holdings
      agree : Agree p s.heap s.holdings w.heap

    -- what fits in s has its value in w
    abbrev Carries : State → State → Expr → Type 0
    Carries s w e = (v o : Value) → fit p (deeper p m) s e ≡ Ok v → value p (applications p n) s e ≡ Some o → Surely (Worth w e v)

    same_value : (s : State) (e : Expr) (v o : Value) → fit p (deeper p m) s e ≡ Ok v → value p (applications p n) s e ≡ Some o → o ≡ v
    same_value s e v o h k = one_value p s e o v (n, k) (m, fit_worth p m s e v h)

    read_there : (ds : Scope) (s w : State) (at : Place) (f : Name) (r v : Value) → Beside ds s w → (or_fail at (location_of f r) >>= λ l. or_fail at (readable p s l)) ≡ Ok v → read p w f r ≡ Some v
    read_there ds s w at f (RefValue r) v k e = go (is_positive (amount s.holdings (At record { receiver = r; field = f }))) refl (not_failed at _ v e)
      where
        go : (b : Bool) → is_positive (amount s.holdings (At record { receiver = r; field = f })) ≡ b → cond b (Some (value_at p s.heap record { receiver = r; field = f })) None ≡ Some v → Some (value_at p w.heap record { receiver = r; field = f }) ≡ Some v
        go true sign e = ap Some (k.agree record { receiver = r; field = f } (held_directly p s.heap s.holdings record { receiver = r; field = f } (record { holds = sign }))) ∙ e
        go false sign e = cc
    read_there ds s w at f (IntValue z) v k e = cc
    read_there ds s w at f (BoolValue z) v k e = cc
    read_there ds s w at f (PermValue z) v k e = cc

    operate_there : (s w : State) (at : Place) (op : Operator) (a b : Expr) → Carries s w a → Carries s w b → Carries s w (Operate at op a b)
    operate_there s w at op a b ha hb v o h k =
        let x = undo (fit p (deeper p m) s a) (λ v. fit p (deeper p m) s b >>= λ w. or_fail at (operated op v w)) v h in
        let y = undo (fit p (deeper p m) s b) (λ w. or_fail at (operated op x.it w)) v x.then in
        let i = came (value p (applications p n) s a) (λ v. option_and_then (λ w. operated op v w) (value p (applications p n) s b)) o k in
        let j = came (value p (applications p n) s b) (λ w. operated op i.it w) o i.then in
        surely_then (ha x.it i.it x.is i.is) (λ c. surely_map (hb y.it j.it y.is j.is) (λ d.
        becomes_then (λ k. value p (applications p k) w a) (λ k v. option_and_then (λ u. operated op v u) (value p (applications p k) w b)) x.it v c
        (becomes_then (λ k. value p (applications p k) w b) (λ k u. operated op x.it u) y.it v d (becomes_always (operated op x.it y.it) v (not_failed at (operated op x.it y.it) v y.then)))))

    right_there : (s w : State) (at : Place) (c : Connective) (b : Expr) → Carries s w b → (a v o : Value) → connected at c a (fit p (deeper p m) s b) ≡ Ok v → plain.connected c a (value p (applications p n) s b) ≡ Some o →
        Surely (Becomes (λ k. plain.connected c a (value p (applications p k) w b)) v)
    right_there s w at c b h (BoolValue a) v o e f = go (needs_right c a) e f
      where
        go : (x : Bool) → cond x (fit p (deeper p m) s b) (Ok (BoolValue (without_right c))) ≡ Ok v → cond x (value p (applications p n) s b) (Some (BoolValue (without_right c))) ≡ Some o →
            Surely (Becomes (λ k. cond x (value p (applications p k) w b) (Some (BoolValue (without_right c)))) v)
        go true e f = h v o e f
        go false e f = surely (becomes_always (Some (BoolValue (without_right c))) v (ap Some (ok_same (BoolValue (without_right c)) v e)))
    right_there s w at c b h (IntValue z) v o e f = absurd (failed _ _ e)
    right_there s w at c b h (RefValue z) v o e f = absurd (failed _ _ e)
    right_there s w at c b h (PermValue z) v o e f = absurd (failed _ _ e)

    side_there : (s w : State) (at : Place) (a b : Expr) → Carries s w a → Carries s w b → (c v o : Value) → choose at c (fit p (deeper p m) s a) (fit p (deeper p m) s b) ≡ Ok v → plain.choose c (value p (applications p n) s a) (value p (applications p n) s b) ≡ Some o →
        Surely (Becomes (λ k. plain.choose c (value p (applications p k) w a) (value p (applications p k) w b)) v)
    side_there s w at a b ha hb (BoolValue true) v o e f = ha v o e f
    side_there s w at a b ha hb (BoolValue false) v o e f = hb v o e f
    side_there s w at a b ha hb (IntValue z) v o e f = absurd (failed _ _ e)
    side_there s w at a b ha hb (RefValue z) v o e f = absurd (failed _ _ e)
    side_there s w at a b ha hb (PermValue z) v o e f = absurd (failed _ _ e)

    -- an application has one value
    applied_value : (f : Name) (vs : List Value) (s : State) (v o : Value) → (let d : Deeper = deeper p m in d.applied f vs s ≡ Some v) → applications p n f vs s ≡ Some o → o ≡ v
    applied_value f vs s v o h k = applied_one p f vs s o v n m k (applied_worth p m f vs s v h)

    constant_there : (s w : State) (e : Expr) (c v : Value) → ◌≡◌ {A = Checked Value} (Ok c) (Ok v) → ((k : ℕ) → value p (applications p k) w e ≡ Some c) → Surely (Worth w e v)
    constant_there s w e c v h k = surely (0, λ j le. k j ∙ ap Some (ok_same c v h))

    mutual
      framed : (ds : Scope) (s w : State) → Beside ds s w → {e : Expr} {t : ValueType} → HasType p ds e t → IsOfNow e → Carries s w e
      framed ds s w k {e = e} (number at z) x v o h f = constant_there s w e (IntValue (pos z)) v h (λ k. refl)
      framed ds s w k {e = e} (truth) x v o h f = constant_there s w e _ v h (λ k. refl)
      framed ds s w k {e = e} (nulls at) x v o h f = constant_there s w e _ v h (λ k. refl)
      framed ds s w k {e = e} (part at z d l) x v o h f = constant_there s w e _ v h (λ k. refl)
      framed ds s w k (variable at y is) x v o h f = surely (becomes_always (lookup y w.store) v (ap (lookup y) k.store ∙ not_failed at (lookup y s.store) v h))
      framed ds s w k (nots {at = at} {e = a} ty) x v o h f =
          let y = undo (fit p (deeper p m) s a) (λ v. or_fail at (negated v)) v h in
          let i = came (value p (applications p n) s a) negated o f in
          surely_map (framed ds s w k ty x y.it i.it y.is i.is) (λ c. becomes_then (λ k. value p (applications p k) w a) (λ k. negated) y.it v c (becomes_always (negated y.it) v (not_failed at (negated y.it) v y.then)))
      framed ds s w k (operates {at = at} {op = op} {a = a} {b = b} z ka kb) x v o h f = operate_there s w at op a b (framed ds s w k ka x.0) (framed ds s w k kb x.1) v o h f
      framed ds s w k (scales {at = at} place z {b = b} kb) x v o h f = operate_there s w at Multiply (Number place z) b (λ v o h f. constant_there s w (Number place z) (IntValue (pos z)) v h (λ k. refl)) (framed ds s w k kb x.1) v o h f
      framed ds s w k (divides {at = at} {op = op} {a = a} {b = b} ka kb) x v o h f =
          let y = undo (fit p (deeper p m) s a) (λ v. fit p (deeper p m) s b >>= λ w. or_fail at (divided op v w)) v h in
          let z = undo (fit p (deeper p m) s b) (λ w. or_fail at (divided op y.it w)) v y.then in
          let i = came (value p (applications p n) s a) (λ v. option_and_then (λ w. divided op v w) (value p (applications p n) s b)) o f in
          let j = came (value p (applications p n) s b) (λ w. divided op i.it w) o i.then in
          surely_then (framed ds s w k ka x.0 y.it i.it y.is i.is) (λ c. surely_map (framed ds s w k kb x.1 z.it j.it z.is j.is) (λ d.
          becomes_then (λ k. value p (applications p k) w a) (λ k v. option_and_then (λ u. divided op v u) (value p (applications p k) w b)) y.it v c
          (becomes_then (λ k. value p (applications p k) w b) (λ k u. divided op y.it u) z.it v d (becomes_always (divided op y.it z.it) v (not_failed at (divided op y.it z.it) v z.then)))))
      framed ds s w k (connects {at = at} {c = c} {a = a} {b = b} ka kb) x v o h f =
          let y = undo (fit p (deeper p m) s a) (λ v. connected at c v (fit p (deeper p m) s b)) v h in
          let i = came (value p (applications p n) s a) (λ v. plain.connected c v (value p (applications p n) s b)) o f in
          let there = subst (λ (u : Value). plain.connected c u (value p (applications p n) s b) ≡ Some o) (same_value s a y.it i.it y.is i.is) i.then in
          surely_then (framed ds s w k ka x.0 y.it i.it y.is i.is) (λ d. surely_map (right_there s w at c b (framed ds s w k kb x.1) y.it v o y.then there) (λ r.
          becomes_then (λ k. value p (applications p k) w a) (λ k v. plain.connected c v (value p (applications p k) w b)) y.it v d r))
      framed ds s w k (chooses {at = at} {c = c} {a = a} {b = b} kc ka kb) x v o h f =
          let y = undo (fit p (deeper p m) s c) (λ v. choose at v (fit p (deeper p m) s a) (fit p (deeper p m) s b)) v h in
          let i = came (value p (applications p n) s c) (λ v. plain.choose v (value p (applications p n) s a) (value p (applications p n) s b)) o f in
          let there = subst (λ (u : Value). plain.choose u (value p (applications p n) s a) (value p (applications p n) s b) ≡ Some o) (same_value s c y.it i.it y.is i.is) i.then in
          surely_then (framed ds s w k kc x.0 y.it i.it y.is i.is) (λ d. surely_map (side_there s w at a b (framed ds s w k ka x.1) (framed ds s w k kb x.2) y.it v o y.then there) (λ r.
          becomes_then (λ k. value p (applications p k) w c) (λ k v. plain.choose v (value p (applications p k) w a) (value p (applications p k) w b)) y.it v d r))
      framed ds s w k (reads {at = at} {e = a} g is ty) x v o h f =
          let y = undo (fit p (deeper p m) s a) (λ r. or_fail at (location_of g r) >>= λ l. or_fail at (readable p s l)) v h in
          let i = came (value p (applications p n) s a) (read p s g) o f in
          surely_map (framed ds s w k ty x y.it i.it y.is i.is) (λ c. becomes_then (λ k. value p (applications p k) w a) (λ k. read p w g) y.it v c (becomes_always (read p w g y.it) v (read_there ds s w at g y.it v k y.then)))
      framed ds s w k (olds ty) x v o h f = absurd x
      framed ds s w k (applies {at = at} g {es = es} d is tys) x v o h f =
          let y = undo (fit_all p (deeper p m) s es) (λ vs. let d : Deeper = deeper p m in or_fail at (d.applied g vs s)) v h in
          let i = came (values p (applications p n) s es) (λ vs. applications p n g vs s) o f in
          let same : i.it ≡ y.it = all_one_value p s es i.it y.it n m i.is (all_fit_worth p m s es y.it y.is) in
          let there = subst (λ (vs : List Value). applications p n g vs s ≡ Some o) same i.then in
          let types = have_types p typed.functions m (applications_typed p typed.functions m) s k.of_scope tys y.it (all_fit_worth p m s es y.it y.is) in
          let one : o ≡ v = applied_value g y.it s v o (not_failed at _ v y.then) there in
          surely_then (all_framed ds s w k tys x y.it i.it y.is i.is) (λ c. surely_map (below g d is y.it types s w k.sane k.agree m v (not_failed at _ v y.then) (there ∙ ap Some one)) (λ r.
          becomes_then (λ k. values p (applications p k) w es) (λ k vs. applications p k g vs w) y.it v c r))
      framed ds s w k (unfoldings {at = at} i {es = es} {share = share} {e = a} d is tys tq ty) x v o h f =
          let inst = λ (vs : List Value). let k : Instance = record { predicate = i; arguments = vs } in k in
          let last = λ (t : State). fit p (deeper p m) t a in
          let opening = λ (q : Fraction) (vs : List Value). let d : Deeper = deeper p m in guard at (has_instance s (inst vs) q) >>= λ _. or_fail at (d.opened (inst vs) q s) >>= last in
          let arguments = λ (q : Fraction). guard at (is_positive q) >>= λ _. fit_all p (deeper p m) s es >>= opening q in
          let y = undo (fit p (deeper p m) s share) (λ v. or_fail at (amount_of v) >>= arguments) v h in
          let z = undo (or_fail at (amount_of y.it)) arguments v y.then in
          let c = undo (guard at (is_positive z.it)) (λ _. fit_all p (deeper p m) s es >>= opening z.it) v z.then in
          let r = undo (fit_all p (deeper p m) s es) (opening z.it) v c.then in
          let b = undo (guard at (has_instance s (inst r.it) z.it)) (λ _. let d : Deeper = deeper p m in or_fail at (d.opened (inst r.it) z.it s) >>= last) v r.then in
          let u = undo (let d : Deeper = deeper p m in or_fail at (d.opened (inst r.it) z.it s)) last v b.then in
          let after = opened_sane m (inst r.it) z.it s u.it k.sane (guarded at _ b.it b.is) (not_failed at _ u.it u.is) in
          framed ds (with_holdings after.holdings s) w (record { store = k.store; of_scope = k.of_scope; sane = after.sane; agree = λ l y. k.agree l (after.held l y) }) ty x.2 v o
          (subst (λ (t : State). fit p (deeper p m) t a ≡ Ok v) after.is u.then) (held_value p n after.holdings s a ∙ f)

      all_framed : (ds : Scope) (s w : State) → Beside ds s w → {es : Exprs} {fs : List Declaration} → HaveTypes p ds es fs → AreOfNow es → (vs os : List Value) → fit_all p (deeper p m) s es ≡ Ok vs → values p (applications p n) s es ≡ Some os → Surely (AllWorth w es vs)
      all_framed ds s w k no_more x vs os h f = surely (0, λ j le. ap Some (ok_same [] vs h))
      all_framed ds s w k (more {e = a} {es = es} ty tys) x vs os h f =
          let y = undo (fit p (deeper p m) s a) (λ v. fit_all p (deeper p m) s es >>= λ vs. Ok (v ∷ vs)) vs h in
          let z = undo (fit_all p (deeper p m) s es) (λ vs. Ok (y.it ∷ vs)) vs y.then in
          let i = came (value p (applications p n) s a) (λ v. option_and_then (λ vs. Some (v ∷ vs)) (values p (applications p n) s es)) os f in
          let j = came (values p (applications p n) s es) (λ vs. Some (i.it ∷ vs)) os i.then in
          surely_then (framed ds s w k ty x.0 y.it i.it y.is i.is) (λ c. surely_map (all_framed ds s w k tys x.1 z.it j.it z.is j.is) (λ d.
          becomes_then (λ k. value p (applications p k) w a) (λ k v. option_and_then (λ vs. Some (v ∷ vs)) (values p (applications p k) w es)) y.it vs c
          (becomes_then (λ k. values p (applications p k) w es) (λ k vs. Some (y.it ∷ vs)) z.it vs d (becomes_always (Some (y.it ∷ z.it)) vs (ap Some (ok_same (y.it ∷ z.it) vs z.then))))))

  same_function : (d g : Function) → Some d ≡ Some g → d ≡ g
  same_function d g e = cc

  module _ (none_fails : NoneFails p) where
    body_fine : (f : Name) (g : Function) → function_named p f ≡ Some g → FunctionFails p f g → ⊥
    body_fine f g named = none_fails f (IsFunction g) (function_member (member_named p f) g named)

    bodies_now : (f : Name) (g : Function) → function_named p f ≡ Some g → IsOfNow g.body
    bodies_now f g named = let k = typed.functions_now f g named in k.body

    -- from the value of the body
    by_body : (n : ℕ) (f : Name) (g : Function) (vs : List Value) (w : State) (v : Value) → function_named p f ≡ Some g → Becomes (λ k. value p (applications p k) (with_store (bind g.parameters vs) w) g.body) v → Becomes (λ k. applications p k f vs w) v
    by_body n f g vs w v named (from, h) = (suc from, go)
      where
        go : (k : ℕ) → suc from ≤ k → applications p k f vs w ≡ Some v
        go zero le = absurd (no_less from le)
          where
            no_less : (n : ℕ) → suc n ≤ zero → ⊥
            no_less n le = omega arith
        go (suc k) le = ap (option_and_then (λ g. value p (applications p k) (with_store (bind g.parameters vs) w) g.body)) named ∙ h k (less from k le)
          where
            less : (n m : ℕ) → suc n ≤ suc m → n ≤ m
            less n m le = omega arith

    module _ (n : ℕ) (below : AppliesFramed n) (f : Name) (g : Function) (named : function_named p f ≡ Some g) (vs : List Value) (types : run.HaveTypes g.parameters vs) (s w : State) (sane : Sane p s.heap s.holdings) (agree : Agree p s.heap s.holdings w.heap)
        (v : Value) (worth : value p (applications p n) (with_store (bind g.parameters vs) s) g.body ≡ Some v) where
      from_start : Started p g vs s → Surely (Becomes (λ k. applications p k f vs w) v)
      from_start k = surely_then (fit_settles p start g.body) settled
        where
          start : State
          start = record { store = bind g.parameters vs; heap = s.heap; holdings = k.held; old_heap = s.heap; old_holdings = k.held }

          there : value p (applications p n) start g.body ≡ Some v
          there = sym (value_now p bodies_now n (with_store (bind g.parameters vs) s) start (record { store = refl; heap = refl }) g.body (bodies_now f g named)) ∙ worth

          settled : ((z : Value) × Eventually (λ m. fit p (deeper p m) start g.body ≡ Ok z)) ⊎ Refuses (λ m. fit p (deeper p m) start g.body) → Surely (Becomes (λ k. applications p k f vs w) v)
          settled (inr (at, x)) = absurd (body_fine f g named (body start at k.starts x))
          settled (inl (z, (m, x))) =
              let fits = x m (self m) in
              let one : v ≡ z = same_value n below m start g.body z v fits there in
              let agrees : Agree p s.heap k.held w.heap = λ l y. agree l (held_fewer p (good_bodies p typed) s.heap k.held s.holdings (all_single p Any k.held k.sane.typed) (all_single p Any s.holdings sane.typed) k.sane.debts sane.debts k.fewer l y) in
              surely_map (framed n below m g.parameters start (with_store (bind g.parameters vs) w) (record { store = refl; of_scope = λ x t v a b. found_type x t g.parameters vs v types a b; sane = k.sane; agree = agrees })
              (let y = typed.functions f g named in y.body) (bodies_now f g named) z v fits there)
              (λ c. by_body n f g vs w v named (subst (λ (y : Value). Becomes (λ k. value p (applications p k) (with_store (bind g.parameters vs) w) g.body) y) (sym one) c))

    pub applies_framed : (n : ℕ) → AppliesFramed n
    applies_framed zero f g named vs types s w sane agree m v e h = absurd (nothing h)
      where
        nothing : ◌≡◌ {A = Option Value} None (Some v) → ⊥
        nothing e = cc
    applies_framed (suc n) f g named vs types s w sane agree zero v e h = absurd (nothing e)
      where
        nothing : ◌≡◌ {A = Option Value} None (Some v) → ⊥
        nothing e = cc
    applies_framed (suc n) f g named vs types s w sane agree (suc m) v e h = by_taken (applies_framed n)
      where
        worth : value p (applications p n) (with_store (bind g.parameters vs) s) g.body ≡ Some v
        worth = sym (ap (option_and_then (λ g. value p (applications p n) (with_store (bind g.parameters vs) s) g.body)) named) ∙ h

        by_taken : AppliesFramed n → Surely (Becomes (λ k. applications p k f vs w) v)
        by_taken below =
            let k = applied_by p m f vs s v e in
            let same : k.g ≡ g = same_function k.g g (sym k.named ∙ named) in
            let taken = subst (λ (d : Function). take p (deeper p m) (with_store (bind d.parameters vs) s) full (joined d.place d.requires) s.holdings ≡ Ok k.taken.rest) same k.taken.takes in
            surely_then (starts p typed none_fails f g named vs types s sane m k.taken.rest taken) (λ y. from_start n below f g named vs types s w sane agree v worth y)
