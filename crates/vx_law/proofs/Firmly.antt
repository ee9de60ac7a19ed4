-- What fits, fits firmly, where each application that is evaluated with it keeps its promise and is allowed where it is taken.
use Rattle.std.proofs.Common.{◌≡◌, ℕ, zero, suc, ◌+◌, ◌≤◌, Bool, true, false, cond, List, ◌∷◌, ◌++◌, Some, refl, sym, ◌∙◌, ap, subst, arith}
use Rattle.std.specs.Prelude.{Ok}
use Rattle.std.proofs.lemmas.Option.{same_Some}
use Rattle.vx_ast.specs.declared.Place.{Place}
use Rattle.vx_ast.specs.declared.ValueType.{ValueType}
use Rattle.vx_ast.specs.Syntax.{Name, Declaration, Program, Function, function_named, Connective, Multiply, Expr, Number, Connect, Choose, Unfolding, Exprs}
use Rattle.vx_meaning.specs.Values.{Value, IntValue, BoolValue, RefValue, PermValue, type_of, negated, operated, divided, needs_right, without_right}
use Rattle.vx_meaning.specs.States as run
use Rattle.vx_meaning.specs.States.{State, Heap, Store, Instance, lookup, with_holdings}
use Rattle.vx_meaning.specs.Evaluate.{applications, values, value_by}
use Rattle.vx_meaning.specs.Consistent.{IsConsistent}
use Rattle.vx_meaning.specs.Fits.{Checked, ◌>>=◌, or_fail, Deeper, choose, connected, location_of, readable, fit, fit_all, deeper, Fits, Eventually}
use Rattle.vx_meaning.specs.Fails.{Application, Evaluates, applied_to, of_right, chosen, evaluated, evaluated_in}
use Rattle.vx_types.specs.Typing.{Scope, type_in, HasType, number, truth, nulls, part, variable, nots, operates, scales, divides, connects, chooses, reads, olds, applies, unfoldings, HaveTypes, no_more, more}
use Rattle.vx_types.specs.Premises.{IsTypedProgram}
use Rattle.vx_types.specs.Closure.{InClosure}
use Rattle.vx_types.specs.Now.{IsOfNow, AreOfNow}
use Rattle.vx_sound_preds.specs.Covered.{IsStocked}
use Rattle.vx_sound_preds.proofs.Fitting.{undo, not_failed}
use Rattle.vx_sound_preds.proofs.Holding.{HoldsInstances, consistent}
use Rattle.vx_sound_preds.proofs.Speaking.{good}
use Rattle.vx_sound_funcs.specs.Firm.{firmly, FitsFirmly}
use Rattle.vx_sound_funcs.proofs.Agree.{holds_possible}
use Rattle.vx_sound_funcs.proofs.Alike.{firm_exchange}
use Rattle.vx_sound_funcs.proofs.Fits.{next, fit_more, fit_all_more}
use Rattle.vx_sound.proofs.Fuel.{value_more, applications_later}
use Rattle.vx_sound_funcs.proofs.Steps.{nothing_some}
use Rattle.vx_live.proofs.Speaks.{Speaks, AllSpeak}
use Rattle.vx_law.specs.Walks.{KeepsAt}
use Rattle.vx_law.specs.Allowed.{IsAllowedWhereTaken}
use Rattle.vx_sound_preds.proofs.TypedValues.{have_types, applications_typed}
use Rattle.vx_sound_funcs.proofs.Stocked.{stocked}
use Rattle.vx_sound_funcs.proofs.Grows.{TakenBy, applied_by, deeper_more, firm_upto, takes_from}
use Rattle.vx_law.proofs.Deeper.{IsHeldOver, opened_over, Unfolds, unfolds_by, by_unfolds, fits_value, fit_values}
use Rattle.vx_law.proofs.Evaluated.{In, contained, in_left, in_right, of_needed, of_first, of_second, of_applied, evaluated_more, evaluated_held}
use Rattle.vx_law.proofs.Opened.{opened_held}

-- the variables of a scope have values of their types
abbrev pub AreTyped : Scope → Store → Type 0
AreTyped ds xs = (x : Name) (t : ValueType) (v : Value) → type_in x ds ≡ Some t → lookup x xs ≡ Some v → type_of v ≡ t

-- More fuel

module _ (p : Program) where
  abbrev AllFirmly : State → Exprs → List Value → Type 0
  AllFirmly s es vs = (n : ℕ) × (fit_all p (firmly p n) s es ≡ Ok vs)

  up : (m n : ℕ) → m ≤ n → (s : State) (e : Expr) (v : Value) → fit p (firmly p m) s e ≡ Ok v → fit p (firmly p n) s e ≡ Ok v
  up m n le = fit_more p (firmly p m) (firmly p n) (firm_upto p m n le)

  all_up : (m n : ℕ) → m ≤ n → (s : State) (es : Exprs) (vs : List Value) → fit_all p (firmly p m) s es ≡ Ok vs → fit_all p (firmly p n) s es ≡ Ok vs
  all_up m n le = fit_all_more p (firmly p m) (firmly p n) (firm_upto p m n le)

  both_firm : (s : State) (a b : Expr) (f : Value → Value → Checked Value) (v x y : Value) → FitsFirmly p s a x → FitsFirmly p s b y → f x y ≡ Ok v →
      (n : ℕ) × ((fit p (firmly p n) s a >>= λ v. fit p (firmly p n) s b >>= λ w. f v w) ≡ Ok v)
  both_firm s a b f v x y (m, h) (n, k) e = (
    m + n,
    next (λ v. fit p (firmly p (m + n)) s b >>= λ w. f v w) x (up m (m + n) (omega arith) s a x h) ∙ next (λ w. f x w) y (up n (m + n) (omega arith) s b y k) ∙ e,
  )

  connected_firm : (n : ℕ) (s : State) (at : Place) (c : Connective) (a b : Expr) (x v : Value) → FitsFirmly p s a x → ((y : Bool) → x ≡ BoolValue y → needs_right c y ≡ true → fit p (deeper p n) s b ≡ Ok v → FitsFirmly p s b v) →
      connected at c x (fit p (deeper p n) s b) ≡ Ok v → FitsFirmly p s (Connect at c a b) v
  connected_firm n s at c a b (BoolValue y) v (m, h) right e = go (needs_right c y) refl e
    where
      go : (r : Bool) → needs_right c y ≡ r → cond r (fit p (deeper p n) s b) (Ok (BoolValue (without_right c))) ≡ Ok v → FitsFirmly p s (Connect at c a b) v
      go true is e =
          let k = right y refl is e in
          let j = m + k.0 in (
            j,
            next (λ v. connected at c v (fit p (firmly p j) s b)) (BoolValue y) (up m j (omega arith) s a (BoolValue y) h)
                ∙ ap (λ r. cond r (fit p (firmly p j) s b) (Ok (BoolValue (without_right c)))) is ∙ up k.0 j (omega arith) s b v k.1,
          )
      go false is e = (
        m,
        next (λ v. connected at c v (fit p (firmly p m) s b)) (BoolValue y) h ∙ ap (λ r. cond r (fit p (firmly p m) s b) (Ok (BoolValue (without_right c)))) is ∙ e,
      )
  connected_firm n s at c a b (IntValue z) v h right e = cc
  connected_firm n s at c a b (RefValue z) v h right e = cc
  connected_firm n s at c a b (PermValue z) v h right e = cc

  chosen_firm : (n : ℕ) (s : State) (at : Place) (c a b : Expr) (x v : Value) → FitsFirmly p s c x → (x ≡ BoolValue true → fit p (deeper p n) s a ≡ Ok v → FitsFirmly p s a v) → (x ≡ BoolValue false → fit p (deeper p n) s b ≡ Ok v → FitsFirmly p s b v) →
      choose at x (fit p (deeper p n) s a) (fit p (deeper p n) s b) ≡ Ok v → FitsFirmly p s (Choose at c a b) v
  chosen_firm n s at c a b (BoolValue true) v (m, h) first second e =
      let k = first refl e in
      let j = m + k.0 in
      (j, next (λ v. choose at v (fit p (firmly p j) s a) (fit p (firmly p j) s b)) (BoolValue true) (up m j (omega arith) s c (BoolValue true) h) ∙ up k.0 j (omega arith) s a v k.1)
  chosen_firm n s at c a b (BoolValue false) v (m, h) first second e =
      let k = second refl e in
      let j = m + k.0 in
      (j, next (λ v. choose at v (fit p (firmly p j) s a) (fit p (firmly p j) s b)) (BoolValue false) (up m j (omega arith) s c (BoolValue false) h) ∙ up k.0 j (omega arith) s b v k.1)
  chosen_firm n s at c a b (IntValue z) v h first second e = cc
  chosen_firm n s at c a b (RefValue z) v h first second e = cc
  chosen_firm n s at c a b (PermValue z) v h first second e = cc

  -- a value that is known by n is known by n and more
  value_upto : (n k : ℕ) (s : State) (e : Expr) (v : Value) → value_by p n s e ≡ Some v → value_by p (n + k) s e ≡ Some v
  value_upto n k s e v h =
      let z : k + n ≡ n + k = omega arith in
      subst (λ m. value_by p m s e ≡ Some v) z (value_more p (applications p n) (applications p (k + n)) (applications_later p k n) s e v h)

  needed_too : (n k : ℕ) (s : State) (at : Place) (c : Connective) (a b : Expr) (y : Bool) (app : Application) → value_by p n s a ≡ Some (BoolValue y) → needs_right c y ≡ true → In (evaluated p k s b) app → In (evaluated p (n + k) s (Connect at c a b)) app
  needed_too n k s at c a b y app e need h =
      let j = n + k in
      in_right (evaluated p j s a) (of_right c (value_by p j s a) (evaluated p j s b)) app (of_needed c (value_by p j s a) y (evaluated p j s b) app (value_upto n k s a (BoolValue y) e) need (evaluated_more p n k s b app h))

  first_too : (n k : ℕ) (s : State) (at : Place) (c a b : Expr) (app : Application) → value_by p n s c ≡ Some (BoolValue true) → In (evaluated p k s a) app → In (evaluated p (n + k) s (Choose at c a b)) app
  first_too n k s at c a b app e h =
      let j = n + k in
      in_right (evaluated p j s c) (chosen (value_by p j s c) (evaluated p j s a) (evaluated p j s b)) app (of_first (value_by p j s c) (evaluated p j s a) (evaluated p j s b) app (value_upto n k s c (BoolValue true) e) (evaluated_more p n k s a app h))

  second_too : (n k : ℕ) (s : State) (at : Place) (c a b : Expr) (app : Application) → value_by p n s c ≡ Some (BoolValue false) → In (evaluated p k s b) app → In (evaluated p (n + k) s (Choose at c a b)) app
  second_too n k s at c a b app e h =
      let j = n + k in
      in_right (evaluated p j s c) (chosen (value_by p j s c) (evaluated p j s a) (evaluated p j s b)) app (of_second (value_by p j s c) (evaluated p j s a) (evaluated p j s b) app (value_upto n k s c (BoolValue false) e) (evaluated_more p n k s b app h))

module _ (p : Program) (x : Name) (typed : IsTypedProgram p) where
  abbrev Held : Name → Type 0
  Held = InClosure p x

  -- an application keeps its promise, in this heap, and is allowed where its precondition is taken
  abbrev pub Kept : Heap → Application → Type 0
  Kept h a = (g : Function) → function_named p a.0 ≡ Some g → KeepsAt p a.0 g a.1 h × IsAllowedWhereTaken p x a.0 g

  abbrev EachKept : State → Expr → Type 0
  EachKept s e = (n : ℕ) (a : Application) → In (evaluated p n s e) a → Kept s.heap a

  abbrev AllKept : State → Exprs → Type 0
  AllKept s es = (n : ℕ) (a : Application) → In (evaluated_in p n s es) a → Kept s.heap a

  -- an application that is allowed, and keeps its promise
  applied_firm : (n : ℕ) (f : Name) (g : Function) → InClosure p x f → function_named p f ≡ Some g → (vs : List Value) → run.HaveTypes g.parameters vs → (s : State) → HoldsInstances p (InClosure p x) true s.heap s.holdings →
      (v : Value) → (deeper p n).applied f vs s ≡ Some v → KeepsAt p f g vs s.heap × IsAllowedWhereTaken p x f g → (k : ℕ) × ((firmly p k).applied f vs s ≡ Some v)
  applied_firm zero f g leads named vs types s st v e keeps = nothing_some v e
  applied_firm (suc m) f g leads named vs types s st v e keeps =
      let k = applied_by p m f vs s v e in
      let t : TakenBy p m g vs s v = subst (λ (g : Function). TakenBy p m g vs s v) (same_Some k.g g (sym k.named ∙ named)) k.taken in
      let at = keeps.1 vs types s (consistent p (good p x typed) Held true s refl st) (stocked p x true s.heap s.holdings st) t.rest (takes_from p m g vs s v t) in
      let allowed = at.1 keeps.0 in
      let one = deeper_more p allowed.applied.0 (suc m) in
      let same = same_Some allowed.value v (sym (allowed.applied.1 (allowed.applied.0 + suc m) (omega arith)) ∙ one.applied f vs s v e) in
      (suc allowed.fuel, allowed.firm ∙ ap Some same)

  in_first : (xs ys zs : List Application) (a : Application) → In xs a → In ((xs ++ ys) ++ zs) a
  in_first xs ys zs a h = in_left (xs ++ ys) zs a (in_left xs ys a h)

  in_second : (xs ys zs : List Application) (a : Application) → In ys a → In ((xs ++ ys) ++ zs) a
  in_second xs ys zs a h = in_left (xs ++ ys) zs a (in_right xs ys a h)

  inside_too : (m : ℕ) (s : State) (at : Place) (i : Name) (es : Exprs) (share e : Expr) (hs : run.Holdings) (a : Application) → In (evaluated p m (with_holdings hs s) e) a → In (evaluated p m s (Unfolding at i es share e)) a
  inside_too m s at i es share e hs a h = in_right (evaluated p m s share ++ evaluated_in p m s es) (evaluated p m s e) a (subst (λ (xs : List Application). In xs a) (evaluated_held p m hs s e) h)

  over_fits : (n : ℕ) (s u : State) (e : Expr) (v : Value) → IsHeldOver s u → fit p (deeper p n) u e ≡ Ok v → fit p (deeper p n) (with_holdings u.holdings s) e ≡ Ok v
  over_fits n s u e v over h = ap (λ (t : State). fit p (deeper p n) t e) (sym over) ∙ h

  -- an `unfolding` whose parts fit firmly
  unfolds_firm : (n : ℕ) (s : State) (at : Place) (i : Name) (es : Exprs) (share e : Expr) (v : Value) (k : Unfolds p (deeper p n) s i es share e v) → IsHeldOver s k.state → FitsFirmly p s share k.amount → AllFirmly p s es k.arguments →
      FitsFirmly p (with_holdings k.state.holdings s) e v → FitsFirmly p s (Unfolding at i es share e) v
  unfolds_firm n s at i es share e v k over k1 k2 k3 = (
    j,
    by_unfolds p (firmly p j) s at i es share e v record {
      amount = k.amount;
      share_is = up p k1.0 j (omega arith) s share k.amount k1.1;
      part = k.part;
      part_is = k.part_is;
      above = k.above;
      arguments = k.arguments;
      arguments_are = all_up p k2.0 j (omega arith) s es k.arguments k2.1;
      has = k.has;
      state = k.state;
      opened = (let more = firm_upto p n j (omega arith) in more.opened inst k.part s k.state (firm_exchange p (good p x typed) n inst k.part s ∙ k.opened));
      inside = ap (λ (t : State). fit p (firmly p j) t e) over ∙ up p k3.0 j (omega arith) (with_holdings k.state.holdings s) e v k3.1;
    },
  )
    where
      inst : Instance
      inst = record { predicate = i; arguments = k.arguments }

      j : ℕ
      j = (k1.0 + k2.0) + (k3.0 + n)

  module _ (n : ℕ) where
    abbrev d : Deeper
    d = deeper p n

    mutual
      firm : (scope : Scope) (s : State) → AreTyped scope s.store → HoldsInstances p (InClosure p x) true s.heap s.holdings → {e : Expr} {t : ValueType} → HasType p scope e t → IsOfNow e → Speaks (InClosure p x) e → EachKept s e → (v : Value) → fit p (deeper p n) s e ≡ Ok v → FitsFirmly p s e v
      firm scope s ty st (number at z) now sp keep v e = (0, e)
      firm scope s ty st (truth) now sp keep v e = (0, e)
      firm scope s ty st (nulls at) now sp keep v e = (0, e)
      firm scope s ty st (part at m q l) now sp keep v e = (0, e)
      firm scope s ty st (variable at y is) now sp keep v e = (0, e)
      firm scope s ty st (nots {at = at} {e = a} h) now sp keep v e =
          let y = undo (fit p d s a) (λ v. or_fail at (negated v)) v e in
          let f = firm scope s ty st h now sp keep y.it y.is in
          (f.0, next (λ v. or_fail at (negated v)) y.it f.1 ∙ y.then)
      firm scope s ty st (operates {at = at} {op = op} {a = a} {b = b} o ka kb) now sp keep v e =
          let y = undo (fit p d s a) (λ v. fit p d s b >>= λ w. or_fail at (operated op v w)) v e in
          let z = undo (fit p d s b) (λ w. or_fail at (operated op y.it w)) v y.then in
          both_firm p s a b (λ v w. or_fail at (operated op v w)) v y.it z.it
          (firm scope s ty st ka now.0 sp.0 (λ m app i. keep m app (in_left (evaluated p m s a) (evaluated p m s b) app i)) y.it y.is)
          (firm scope s ty st kb now.1 sp.1 (λ m app i. keep m app (in_right (evaluated p m s a) (evaluated p m s b) app i)) z.it z.is) z.then
      firm scope s ty st (scales {at = at} place m {b = b} kb) now sp keep v e =
          let a = Number place m in
          let y = undo (fit p d s a) (λ v. fit p d s b >>= λ w. or_fail at (operated Multiply v w)) v e in
          let z = undo (fit p d s b) (λ w. or_fail at (operated Multiply y.it w)) v y.then in
          both_firm p s a b (λ v w. or_fail at (operated Multiply v w)) v y.it z.it (0, y.is) (firm scope s ty st kb now.1 sp.1 (λ m app i. keep m app i) z.it z.is) z.then
      firm scope s ty st (divides {at = at} {op = op} {a = a} {b = b} ka kb) now sp keep v e =
          let y = undo (fit p d s a) (λ v. fit p d s b >>= λ w. or_fail at (divided op v w)) v e in
          let z = undo (fit p d s b) (λ w. or_fail at (divided op y.it w)) v y.then in
          both_firm p s a b (λ v w. or_fail at (divided op v w)) v y.it z.it
          (firm scope s ty st ka now.0 sp.0 (λ m app i. keep m app (in_left (evaluated p m s a) (evaluated p m s b) app i)) y.it y.is)
          (firm scope s ty st kb now.1 sp.1 (λ m app i. keep m app (in_right (evaluated p m s a) (evaluated p m s b) app i)) z.it z.is) z.then
      firm scope s ty st (connects {at = at} {c = c} {a = a} {b = b} ka kb) now sp keep v e =
          let y = undo (fit p d s a) (λ v. connected at c v (fit p d s b)) v e in
          connected_firm p n s at c a b y.it v
          (firm scope s ty st ka now.0 sp.0 (λ m app i. keep m app (in_left (evaluated p m s a) (of_right c (value_by p m s a) (evaluated p m s b)) app i)) y.it y.is)
          (λ q is need f.
          firm scope s ty st kb now.1 sp.1 (λ m app i. keep (n + m) app (needed_too p n m s at c a b q app (fits_value p n s a y.it y.is ∙ ap Some is) need i)) v f)
          y.then
      firm scope s ty st (chooses {at = at} {c = c} {a = a} {b = b} kc ka kb) now sp keep v e =
          let y = undo (fit p d s c) (λ v. choose at v (fit p d s a) (fit p d s b)) v e in
          chosen_firm p n s at c a b y.it v
          (firm scope s ty st kc now.0 sp.0 (λ m app i. keep m app (in_left (evaluated p m s c) (chosen (value_by p m s c) (evaluated p m s a) (evaluated p m s b)) app i)) y.it y.is)
          (λ is f. firm scope s ty st ka now.1 sp.1 (λ m app i. keep (n + m) app (first_too p n m s at c a b app (fits_value p n s c y.it y.is ∙ ap Some is) i)) v f)
          (λ is f. firm scope s ty st kb now.2 sp.2 (λ m app i. keep (n + m) app (second_too p n m s at c a b app (fits_value p n s c y.it y.is ∙ ap Some is) i)) v f)
          y.then
      firm scope s ty st (reads {at = at} {e = a} f is h) now sp keep v e =
          let rest = λ (r : Value). or_fail at (location_of f r) >>= λ l. or_fail at (readable p s l) in
          let y = undo (fit p d s a) (λ r. or_fail at (location_of f r) >>= λ l. or_fail at (readable p s l)) v e in
          let k = firm scope s ty st h now sp keep y.it y.is in
          (k.0, next rest y.it k.1 ∙ y.then)
      firm scope s ty st (olds h) now sp keep v e = absurd now
      firm scope s ty st (applies {at = at} f {es = es} g is hs) now sp keep v e =
          let y = undo (fit_all p d s es) (λ vs. or_fail at (d.applied f vs s)) v e in
          let worth = fit_values p n s es y.it y.is in
          let k = all_firm scope s ty st hs now sp.1 (λ m app i. keep m app (in_left (evaluated_in p m s es) (applied_to f (values p (applications p m) s es)) app i)) y.it y.is in
          let types = have_types p typed.functions n (applications_typed p typed.functions n) s ty hs y.it worth in
          let kept = keep n (f, y.it) (in_right (evaluated_in p n s es) (applied_to f (values p (applications p n) s es)) (f, y.it) (of_applied f (values p (applications p n) s es) y.it worth)) g is in
          let w = applied_firm n f g sp.0 is y.it types s st v (not_failed at (d.applied f y.it s) v y.then) kept in
          let j = k.0 + w.0 in
          let more = firm_upto p w.0 j (omega arith) in
          (j, next (λ vs. or_fail at ((firmly p j).applied f vs s)) y.it (all_up p k.0 j (omega arith) s es y.it k.1) ∙ ap (or_fail at) (more.applied f y.it s v w.1))
      firm scope s ty st (unfoldings {at = at} i {es = es} {share = share} {e = a} b is hs hq h) now sp keep v e =
          let k = unfolds_by p d s at i es share a v e in
          let inside = opened_held p x typed n record { predicate = i; arguments = k.arguments } k.part s k.state st k.has k.opened in
          let over = opened_over p n record { predicate = i; arguments = k.arguments } k.part s k.state k.opened in
          unfolds_firm n s at i es share a v k over
          (firm scope s ty st hq now.1 sp.2 (λ m app j. keep m app (in_first (evaluated p m s share) (evaluated_in p m s es) (evaluated p m s a) app j)) k.amount k.share_is)
          (all_firm scope s ty st hs now.0 sp.1 (λ m app j. keep m app (in_second (evaluated p m s share) (evaluated_in p m s es) (evaluated p m s a) app j)) k.arguments k.arguments_are)
          (firm scope (with_holdings k.state.holdings s) ty inside h now.2 sp.3 (λ m app j. keep m app (inside_too m s at i es share a k.state.holdings app j)) v (over_fits n s k.state a v over k.inside))

      all_firm : (scope : Scope) (s : State) → AreTyped scope s.store → HoldsInstances p (InClosure p x) true s.heap s.holdings → {es : Exprs} {ds : List Declaration} → HaveTypes p scope es ds → AreOfNow es → AllSpeak (InClosure p x) es → AllKept s es → (vs : List Value) → fit_all p (deeper p n) s es ≡ Ok vs → AllFirmly p s es vs
      all_firm scope s ty st no_more now sp keep vs e = (0, e)
      all_firm scope s ty st (more {e = a} {es = es} h hs) now sp keep vs e =
          let y = undo (fit p d s a) (λ v. fit_all p d s es >>= λ vs. Ok (v ∷ vs)) vs e in
          let z = undo (fit_all p d s es) (λ vs. Ok (y.it ∷ vs)) vs y.then in
          let f = firm scope s ty st h now.0 sp.0 (λ m app i. keep m app (in_left (evaluated p m s a) (evaluated_in p m s es) app i)) y.it y.is in
          let g = all_firm scope s ty st hs now.1 sp.1 (λ m app i. keep m app (in_right (evaluated p m s a) (evaluated_in p m s es) app i)) z.it z.is in
          let j = f.0 + g.0 in
          (j, next (λ v. fit_all p (firmly p j) s es >>= λ vs. Ok (v ∷ vs)) y.it (up p f.0 j (omega arith) s a y.it f.1) ∙ next (λ vs. Ok (y.it ∷ vs)) z.it (all_up p g.0 j (omega arith) s es z.it g.1) ∙ z.then)

  pub fits_firmly : (scope : Scope) (c : State) → AreTyped scope c.store → IsConsistent p c → IsStocked p x c.holdings → (e : Expr) (t : ValueType) → HasType p scope e t → IsOfNow e → Speaks (InClosure p x) e → (v : Value) → Fits p c e v →
      ((a : Application) → Evaluates p c e a → Kept c.heap a) → FitsFirmly p c e v
  fits_firmly scope c ty can stock e t h now sp v f keep =
      let self : f.0 ≤ f.0 = omega arith in
      firm f.0 scope c ty (holds_possible p x (good p x typed) typed c can stock) h now sp (λ n a i. keep a (n, contained (evaluated p n c e) a i)) v (f.1 f.0 self)

  -- so do lists
  pub all_fit_firmly : (scope : Scope) (c : State) → AreTyped scope c.store → IsConsistent p c → IsStocked p x c.holdings → (es : Exprs) (ds : List Declaration) → HaveTypes p scope es ds → AreOfNow es → AllSpeak (InClosure p x) es → (vs : List Value) →
      Eventually (λ n. fit_all p (deeper p n) c es ≡ Ok vs) → ((n : ℕ) (a : Application) → In (evaluated_in p n c es) a → Kept c.heap a) → (n : ℕ) × (fit_all p (firmly p n) c es ≡ Ok vs)
  all_fit_firmly scope c ty can stock es ds h now sp vs f keep =
      let self : f.0 ≤ f.0 = omega arith in
      all_firm f.0 scope c ty (holds_possible p x (good p x typed) typed c can stock) h now sp keep vs (f.1 f.0 self)
