-- More fuel allows what less allows; what is exchanged leaves all of a state but what is held; and what fits has its value.
use Rattle.std.proofs.Common.{◌≡◌, ℕ, zero, suc, pos, Bool, true, false, cond, List, [], ◌∷◌, Option, Some, None, refl, sym, ◌∙◌, ap, subst}
use Rattle.std.specs.Prelude.{Ok, option_and_then}
use Rattle.vx_frac.specs.Fractions.{Fraction, is_positive, over, product}
use Rattle.vx_ast.specs.declared.Place.{Place}
use Rattle.vx_ast.specs.Syntax.{Name, Program, Predicate, Function, predicate_named, function_named, place_of, Expr, Number, Truth, Null, Part, Variable, Not, Operate, Divide, Connect, Choose, Read, Old, Apply, Unfolding, Exprs, NoMore, More, Assertion, Pure, Points, Both, Implied, Chosen}
use Rattle.vx_ast.specs.Syntax as syntax
use Rattle.vx_meaning.specs.Values.{Value, IntValue, BoolValue, RefValue, PermValue, negated, operated, divided, needs_right, without_right}
use Rattle.vx_meaning.specs.States.{State, Holdings, Instance, Folded, gained, lost, lookup, bind, at_old, value_at, amount, At, with_store, with_holdings}
use Rattle.vx_meaning.specs.Evaluate as plain
use Rattle.vx_meaning.specs.Evaluate.{Applications, applications, value, values, value_by}
use Rattle.vx_meaning.specs.Fits.{Checked, ◌>>=◌, or_fail, guard, to_option, Deeper, choose, connected, location_of, amount_of, readable, has_instance, fit, fit_all, field_part, instance_part, add, add_part, exchange, deeper}
use Rattle.vx_sound_preds.proofs.Fitting.{undo, not_failed, guarded, step}
use Rattle.vx_sound_preds.proofs.Framing.{ok_same, picked}
use Rattle.vx_sound_funcs.proofs.Steps.{nothing_some, some_of}
use Rattle.vx_sound_funcs.proofs.Grows.{applied_by}

-- What is added and exchanged leaves all but what is held

-- u differs from s in what is held alone
abbrev pub IsHeldOver : State → State → Type 0
IsHeldOver s u = u ≡ with_holdings u.holdings s

module _ (p : Program) (d : Deeper) (q : Fraction) where
  add_over : (a : Assertion) (s u : State) → add p d q a s ≡ Ok u → IsHeldOver s u
  add_over (Pure e) s u eq =
      let x = undo (fit p d s e) (λ _. Ok s) u eq in
      subst (IsHeldOver s) (ok_same s u x.then) refl
  add_over (Points at e f share) s u eq =
      let x = undo (field_part p d s at e f share) (add_part p d q s) u eq in
      subst (IsHeldOver s) (ok_same (with_holdings (gained x.it.0 (product q x.it.1) s.holdings) s) u x.then) refl
  add_over (syntax.Instance at i es share) s u eq =
      let x = undo (instance_part p d s at i es share) (add_part p d q s) u eq in
      subst (IsHeldOver s) (ok_same (with_holdings (gained x.it.0 (product q x.it.1) s.holdings) s) u x.then) refl
  add_over (Both a b) s u eq =
      let x = undo (add p d q a s) (λ t. add p d q b t) u eq in
      add_over b x.it u x.then ∙ ap (with_holdings u.holdings) (add_over a s x.it x.is)
  add_over (Implied c a) s u eq =
      let x = undo (fit p d s c) (λ v. choose (place_of c) v (add p d q a s) (Ok s)) u eq in
      picked {R = IsHeldOver s u} (place_of c) x.it (add p d q a s) (Ok s) u (λ e. add_over a s u e) (λ e. subst (IsHeldOver s) (ok_same s u e) refl) x.then
  add_over (Chosen c a b) s u eq =
      let x = undo (fit p d s c) (λ v. choose (place_of c) v (add p d q a s) (add p d q b s)) u eq in
      picked {R = IsHeldOver s u} (place_of c) x.it (add p d q a s) (add p d q b s) u (λ e. add_over a s u e) (λ e. add_over b s u e) x.then

pub exchange_over : (p : Program) (d : Deeper) (i : Instance) (q : Fraction) (s u : State) → exchange p d i q s ≡ Some u → IsHeldOver s u
exchange_over p d i q s u e = by_predicate (predicate_named p i.predicate) e
  where
    rest : State
    rest = with_holdings (lost (Folded i) q s.holdings) s

    body_added : Predicate → Option Assertion → Option State
    body_added b None = None
    body_added b (Some a) = to_option (add p d q a (with_store (bind b.parameters i.arguments) rest) >>= λ v. Ok (with_store s.store v))

    of_predicate : Option Predicate → Option State
    of_predicate None = None
    of_predicate (Some b) = body_added b b.body

    by_body : (b : Predicate) (o : Option Assertion) → body_added b o ≡ Some u → IsHeldOver s u
    by_body b None e = nothing_some u e
    by_body b (Some a) e =
        let x = undo (add p d q a (with_store (bind b.parameters i.arguments) rest)) (λ v. Ok (with_store s.store v)) u (some_of _ u e) in
        let over = add_over p d q a (with_store (bind b.parameters i.arguments) rest) x.it x.is in
        subst (IsHeldOver s) (ok_same (with_store s.store x.it) u x.then) (ap (with_store s.store) over)

    by_predicate : (o : Option Predicate) → of_predicate o ≡ Some u → IsHeldOver s u
    by_predicate None e = nothing_some u e
    by_predicate (Some b) e = by_body b b.body e

pub opened_over : (p : Program) (n : ℕ) (i : Instance) (q : Fraction) (s u : State) → (deeper p n).opened i q s ≡ Some u → IsHeldOver s u
opened_over p zero i q s u e = nothing_some u e
opened_over p (suc n) i q s u e = exchange_over p (deeper p n) i q s u e

-- What an `unfolding` fits by

pub record Unfolds (p : Program) (d : Deeper) (s : State) (i : Name) (es : Exprs) (share e : Expr) (v : Value) : Type 0 where
  pub amount : Value
  pub share_is : fit p d s share ≡ Ok amount
  pub part : Fraction
  pub part_is : amount_of amount ≡ Some part
  pub above : is_positive part ≡ true
  pub arguments : List Value
  pub arguments_are : fit_all p d s es ≡ Ok arguments
  pub has : has_instance s record { predicate = i; arguments = arguments } part ≡ true
  pub state : State
  pub opened : d.opened record { predicate = i; arguments = arguments } part s ≡ Some state
  pub inside : fit p d state e ≡ Ok v

module _ (p : Program) (d : Deeper) (s : State) (at : Place) (i : Name) (es : Exprs) (share e : Expr) (v : Value) where
  abbrev of_instance : List Value → Instance
  of_instance vs = record { predicate = i; arguments = vs }

  abbrev inside : Option State → Checked Value
  inside o = or_fail at o >>= λ t. fit p d t e

  abbrev holding : Fraction → List Value → Checked Value
  holding q vs = guard at (has_instance s (of_instance vs) q) >>= λ _. inside (d.opened (of_instance vs) q s)

  abbrev tested : Fraction → Checked Value
  tested q = guard at (is_positive q) >>= λ _. fit_all p d s es >>= holding q

  abbrev amounts : Value → Checked Value
  amounts v = or_fail at (amount_of v) >>= tested

  pub unfolds_by : fit p d s (Unfolding at i es share e) ≡ Ok v → Unfolds p d s i es share e v
  unfolds_by eq =
      let x = undo (fit p d s share) amounts v eq in
      let q = undo (or_fail at (amount_of x.it)) tested v x.then in
      let z = undo (guard at (is_positive q.it)) (λ _. fit_all p d s es >>= holding q.it) v q.then in
      let w = undo (fit_all p d s es) (holding q.it) v z.then in
      let b = undo (guard at (has_instance s (of_instance w.it) q.it)) (λ _. inside (d.opened (of_instance w.it) q.it s)) v w.then in
      let u = undo (or_fail at (d.opened (of_instance w.it) q.it s)) (λ t. fit p d t e) v b.then in
      record {
        amount = x.it;
        share_is = x.is;
        part = q.it;
        part_is = not_failed at (amount_of x.it) q.it q.is;
        above = guarded at (is_positive q.it) z.it z.is;
        arguments = w.it;
        arguments_are = w.is;
        has = guarded at (has_instance s (of_instance w.it) q.it) b.it b.is;
        state = u.it;
        opened = not_failed at (d.opened (of_instance w.it) q.it s) u.it u.is;
        inside = u.then;
      }

  pub by_unfolds : Unfolds p d s i es share e v → fit p d s (Unfolding at i es share e) ≡ Ok v
  by_unfolds k =
      ap (λ (y : Checked Value). y >>= amounts) k.share_is ∙ ap (λ (o : Option Fraction). or_fail at o >>= tested) k.part_is
      ∙ ap (λ (b : Bool). guard at b >>= λ _. fit_all p d s es >>= holding k.part) k.above ∙ ap (λ (y : Checked (List Value)). y >>= holding k.part) k.arguments_are
      ∙ ap (λ (b : Bool). guard at b >>= λ _. inside (d.opened (of_instance k.arguments) k.part s)) k.has ∙ ap inside k.opened ∙ k.inside

-- Values look at no holdings

module _ (p : Program) (ap' : Applications) (held : (hs : Holdings) (f : Name) (vs : List Value) (s : State) → ap' f vs (with_holdings hs s) ≡ ap' f vs s) (hs : Holdings) where
  mutual
    value_over : (s : State) (e : Expr) → value p ap' (with_holdings hs s) e ≡ value p ap' s e
    value_over s (Number at n) = refl
    value_over s (Truth at b) = refl
    value_over s (Null at) = refl
    value_over s (Part at n d) = refl
    value_over s (Variable at x) = refl
    value_over s (Not at e) = ap (option_and_then negated) (value_over s e)
    value_over s (Operate at op a b) = λ i. option_and_then (λ v. option_and_then (λ w. operated op v w) (value_over s b i)) (value_over s a i)
    value_over s (Divide at op a b) = λ i. option_and_then (λ v. option_and_then (λ w. divided op v w) (value_over s b i)) (value_over s a i)
    value_over s (Connect at c a b) = λ i. option_and_then (λ v. plain.connected c v (value_over s b i)) (value_over s a i)
    value_over s (Choose at c a b) = λ i. option_and_then (λ v. plain.choose v (value_over s a i) (value_over s b i)) (value_over s c i)
    value_over s (Read at e f) = ap (option_and_then (plain.read p s f)) (value_over s e) ∙ refl
    value_over s (Old at e) = refl
    value_over s (Apply at f es) = go (values p ap' (with_holdings hs s) es) (values p ap' s es) (values_over s es)
      where
        go : (o m : Option (List Value)) → o ≡ m → option_and_then (λ vs. ap' f vs (with_holdings hs s)) o ≡ option_and_then (λ vs. ap' f vs s) m
        go o m e = ap (option_and_then (λ vs. ap' f vs (with_holdings hs s))) e ∙ each m
          where
            each : (m : Option (List Value)) → option_and_then (λ vs. ap' f vs (with_holdings hs s)) m ≡ option_and_then (λ vs. ap' f vs s) m
            each None = refl
            each (Some vs) = held hs f vs s
    value_over s (Unfolding at i es share e) = value_over s e

    values_over : (s : State) (es : Exprs) → values p ap' (with_holdings hs s) es ≡ values p ap' s es
    values_over s NoMore = refl
    values_over s (More e es) = λ i. option_and_then (λ v. option_and_then (λ vs. Some (v ∷ vs)) (values_over s es i)) (value_over s e i)

pub applications_over : (p : Program) (n : ℕ) (hs : Holdings) (f : Name) (vs : List Value) (s : State) → applications p n f vs (with_holdings hs s) ≡ applications p n f vs s
applications_over p zero hs f vs s = refl
applications_over p (suc n) hs f vs s = go (applications_over p n) (function_named p f)
  where
    go : ((hs : Holdings) (f : Name) (vs : List Value) (s : State) → applications p n f vs (with_holdings hs s) ≡ applications p n f vs s) → (o : Option Function) →
        option_and_then (λ g. value p (applications p n) (with_holdings hs (with_store (bind g.parameters vs) s)) g.body) o ≡ option_and_then (λ g. value p (applications p n) (with_store (bind g.parameters vs) s) g.body) o
    go below None = refl
    go below (Some g) = value_over p (applications p n) below hs (with_store (bind g.parameters vs) s) g.body

pub value_held : (p : Program) (n : ℕ) (hs : Holdings) (s : State) (e : Expr) → value_by p n (with_holdings hs s) e ≡ value_by p n s e
value_held p n hs s e = value_over p (applications p n) (applications_over p n) hs s e

pub values_held : (p : Program) (n : ℕ) (hs : Holdings) (s : State) (es : Exprs) → values p (applications p n) (with_holdings hs s) es ≡ values p (applications p n) s es
values_held p n hs s es = values_over p (applications p n) (applications_over p n) hs s es

-- What fits has its value

right_part : (at : Place) (c : syntax.Connective) (v w : Value) (x : Checked Value) (y : Option Value) → (x ≡ Ok w → y ≡ Some w) → connected at c v x ≡ Ok w → plain.connected c v y ≡ Some w
right_part at c (BoolValue a) w x y h e = go (needs_right c a) e
  where
    go : (n : Bool) → cond n x (Ok (BoolValue (without_right c))) ≡ Ok w → cond n y (Some (BoolValue (without_right c))) ≡ Some w
    go true e = h e
    go false e = ap Some (ok_same (BoolValue (without_right c)) w e)
right_part at c (IntValue z) w x y h e = cc
right_part at c (RefValue r) w x y h e = cc
right_part at c (PermValue q) w x y h e = cc

either_side : (at : Place) (v w : Value) (x y : Checked Value) (z u : Option Value) → (x ≡ Ok w → z ≡ Some w) → (y ≡ Ok w → u ≡ Some w) → choose at v x y ≡ Ok w → plain.choose v z u ≡ Some w
either_side at (BoolValue true) w x y z u h k e = h e
either_side at (BoolValue false) w x y z u h k e = k e
either_side at (IntValue n) w x y z u h k e = cc
either_side at (RefValue r) w x y z u h k e = cc
either_side at (PermValue q) w x y z u h k e = cc

read_here : (p : Program) (s : State) (at : Place) (f : Name) (r v : Value) → (or_fail at (location_of f r) >>= λ l. or_fail at (readable p s l)) ≡ Ok v → plain.read p s f r ≡ Some v
read_here p s at f (RefValue r) v e = go (is_positive (amount s.holdings (At record { receiver = r; field = f }))) (not_failed at _ v e)
  where
    go : (b : Bool) → cond b (Some (value_at p s.heap record { receiver = r; field = f })) None ≡ Some v → Some (value_at p s.heap record { receiver = r; field = f }) ≡ Some v
    go true e = e
    go false e = cc
read_here p s at f (IntValue z) v e = cc
read_here p s at f (BoolValue z) v e = cc
read_here p s at f (PermValue z) v e = cc

applied_value : (p : Program) (n : ℕ) (f : Name) (vs : List Value) (s : State) (v : Value) → (deeper p n).applied f vs s ≡ Some v → applications p n f vs s ≡ Some v
applied_value p zero f vs s v e = nothing_some v e
applied_value p (suc n) f vs s v e =
    let k = applied_by p n f vs s v e in
    step (λ g. value p (applications p n) (with_store (bind g.parameters vs) s) g.body) k.g k.named ∙ k.taken.body

module _ (p : Program) (n : ℕ) where
  over_value : (s u : State) (e : Expr) (v : Value) → IsHeldOver s u → value p (applications p n) u e ≡ Some v → value p (applications p n) s e ≡ Some v
  over_value s u e v over h = sym (value_held p n u.holdings s e) ∙ ap (λ (t : State). value_by p n t e) (sym over) ∙ h

  abbrev d : Deeper
  d = deeper p n

  mutual
    pub fits_value : (s : State) (e : Expr) (v : Value) → fit p (deeper p n) s e ≡ Ok v → value p (applications p n) s e ≡ Some v
    fits_value s (Number at z) v e = ap Some (ok_same (IntValue (pos z)) v e)
    fits_value s (Truth at b) v e = ap Some (ok_same (BoolValue b) v e)
    fits_value s (Null at) v e = ap Some (ok_same (RefValue 0) v e)
    fits_value s (Part at m q) v e = ap Some (ok_same (PermValue (over m q)) v e)
    fits_value s (Variable at x) v e = not_failed at (lookup x s.store) v e
    fits_value s (Not at a) v e =
        let x = undo (fit p d s a) (λ v. or_fail at (negated v)) v e in
        step negated x.it (fits_value s a x.it x.is) ∙ not_failed at (negated x.it) v x.then
    fits_value s (Operate at op a b) v e =
        let x = undo (fit p d s a) (λ v. fit p d s b >>= λ w. or_fail at (operated op v w)) v e in
        let y = undo (fit p d s b) (λ w. or_fail at (operated op x.it w)) v x.then in
        step (λ v. option_and_then (λ w. operated op v w) (value p (applications p n) s b)) x.it (fits_value s a x.it x.is) ∙ step (λ w. operated op x.it w) y.it (fits_value s b y.it y.is) ∙ not_failed at (operated op x.it y.it) v y.then
    fits_value s (Divide at op a b) v e =
        let x = undo (fit p d s a) (λ v. fit p d s b >>= λ w. or_fail at (divided op v w)) v e in
        let y = undo (fit p d s b) (λ w. or_fail at (divided op x.it w)) v x.then in
        step (λ v. option_and_then (λ w. divided op v w) (value p (applications p n) s b)) x.it (fits_value s a x.it x.is) ∙ step (λ w. divided op x.it w) y.it (fits_value s b y.it y.is) ∙ not_failed at (divided op x.it y.it) v y.then
    fits_value s (Connect at c a b) v e =
        let x = undo (fit p d s a) (λ v. connected at c v (fit p d s b)) v e in
        step (λ v. plain.connected c v (value p (applications p n) s b)) x.it (fits_value s a x.it x.is) ∙ right_part at c x.it v (fit p d s b) (value p (applications p n) s b) (fits_value s b v) x.then
    fits_value s (Choose at c a b) v e =
        let x = undo (fit p d s c) (λ v. choose at v (fit p d s a) (fit p d s b)) v e in
        step (λ v. plain.choose v (value p (applications p n) s a) (value p (applications p n) s b)) x.it (fits_value s c x.it x.is)
        ∙ either_side at x.it v (fit p d s a) (fit p d s b) (value p (applications p n) s a) (value p (applications p n) s b) (fits_value s a v) (fits_value s b v) x.then
    fits_value s (Read at a f) v e =
        let x = undo (fit p d s a) (λ r. or_fail at (location_of f r) >>= λ l. or_fail at (readable p s l)) v e in
        step (plain.read p s f) x.it (fits_value s a x.it x.is) ∙ read_here p s at f x.it v x.then
    fits_value s (Old at a) v e = fits_value (at_old s) a v e
    fits_value s (Apply at f es) v e =
        let x = undo (fit_all p d s es) (λ vs. or_fail at (d.applied f vs s)) v e in
        step (λ vs. applications p n f vs s) x.it (fit_values s es x.it x.is) ∙ applied_value p n f x.it s v (not_failed at (d.applied f x.it s) v x.then)
    fits_value s (Unfolding at i es share a) v e =
        let k = unfolds_by p d s at i es share a v e in
        over_value s k.state a v (opened_over p n record { predicate = i; arguments = k.arguments } k.part s k.state k.opened) (fits_value k.state a v k.inside)

    pub fit_values : (s : State) (es : Exprs) (vs : List Value) → fit_all p (deeper p n) s es ≡ Ok vs → values p (applications p n) s es ≡ Some vs
    fit_values s NoMore vs e = ap Some (ok_same [] vs e)
    fit_values s (More a es) vs e =
        let x = undo (fit p d s a) (λ v. fit_all p d s es >>= λ vs. Ok (v ∷ vs)) vs e in
        let y = undo (fit_all p d s es) (λ vs. Ok (x.it ∷ vs)) vs x.then in
        step (λ v. option_and_then (λ vs. Some (v ∷ vs)) (values p (applications p n) s es)) x.it (fits_value s a x.it x.is)
        ∙ step (λ vs. Some (x.it ∷ vs)) y.it (fit_values s es y.it y.is) ∙ ap Some (ok_same (x.it ∷ y.it) vs y.then)
