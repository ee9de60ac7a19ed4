-- Values, and what is evaluated with an expression, don't look at what is held; and what fits has its value.
use Rattle.std.proofs.Common.{◌≡◌, ℕ, zero, suc, true, false, cond, List, ◌∷◌, [], ◌++◌, Option, Some, None, refl, sym, ◌∙◌, ap, ap₂, pos, Bool}
use Rattle.std.specs.Prelude.{Ok, Err, option_and_then}
use Rattle.std.proofs.lemmas.Option.{same_Some}
use Rattle.vx_ast.specs.declared.Place.{Place}
use Rattle.vx_ast.specs.Syntax.{Name, Program, Predicate, predicate_named, Function, function_named, Connective, joined, Expr, Number, Truth, Null, Part, Variable, Not, Operate, Divide, Connect, Choose, Read, Old, Apply, Unfolding, Exprs, NoMore, More, Assertion, Pure, Points, Both, Implied, Chosen, place_of}
use Rattle.vx_ast.specs.Syntax as syntax
use Rattle.vx_frac.specs.Fractions.{Fraction, full, is_positive, over}
use Rattle.vx_meaning.specs.Values.{Value, IntValue, BoolValue, RefValue, PermValue, negated, operated, divided, needs_right, without_right}
use Rattle.vx_meaning.specs.States.{State, Holdings, Location, Instance, At, Folded, amount, lost, lookup, bind, at_old, value_at, with_store, with_holdings}
use Rattle.vx_meaning.specs.Evaluate as plain
use Rattle.vx_meaning.specs.Evaluate.{read, applications, value, values, value_by}
use Rattle.vx_meaning.specs.Fits.{Checked, ◌>>=◌, or_fail, guard, to_option, Deeper, choose, connected, location_of, amount_of, readable, has_instance, fit, fit_all, field_part, instance_part, take, add, add_part, exchange, deeper}
use Rattle.vx_meaning.specs.Fails.{Application, evaluated, evaluated_in, applied_to, of_right, chosen}

-- with nothing held
abbrev pub stripped : State → State
stripped s = record s { holdings = []; old_holdings = [] }

module _ (p : Program) where
  -- of applications, by n
  abbrev AppliesStripped : ℕ → Type 0
  AppliesStripped n = (f : Name) (vs : List Value) (s : State) → applications p n f vs s ≡ applications p n f vs (stripped s)

  module _ (n : ℕ) (below : AppliesStripped n) where
    abbrev worth_at : State → Expr → Option Value
    worth_at s e = value p (applications p n) s e

    mutual
      pub value_stripped : (s : State) (e : Expr) → value p (applications p n) s e ≡ value p (applications p n) (stripped s) e
      value_stripped s (Number at z) = refl
      value_stripped s (Truth at b) = refl
      value_stripped s (Null at) = refl
      value_stripped s (Part at a b) = refl
      value_stripped s (Variable at x) = refl
      value_stripped s (Not at e) = ap (option_and_then negated) (value_stripped s e)
      value_stripped s (Operate at op a b) = ap₂ (λ (o m : Option Value). option_and_then (λ v. option_and_then (λ w. operated op v w) m) o) (value_stripped s a) (value_stripped s b)
      value_stripped s (Divide at op a b) = ap₂ (λ (o m : Option Value). option_and_then (λ v. option_and_then (λ w. divided op v w) m) o) (value_stripped s a) (value_stripped s b)
      value_stripped s (Connect at c a b) = ap₂ (λ (o m : Option Value). option_and_then (λ v. plain.connected c v m) o) (value_stripped s a) (value_stripped s b)
      value_stripped s (Choose at c a b) =
          ap₂ (λ (o m : Option Value). option_and_then (λ v. plain.choose v m (worth_at s b)) o) (value_stripped s c) (value_stripped s a)
          ∙ ap (λ (m : Option Value). option_and_then (λ v. plain.choose v (worth_at (stripped s) a) m) (worth_at (stripped s) c)) (value_stripped s b)
      value_stripped s (Read at e f) = ap (option_and_then (read p s f)) (value_stripped s e)
      value_stripped s (Old at e) = value_stripped (at_old s) e
      value_stripped s (Apply at f es) =
          ap (option_and_then (λ vs. applications p n f vs s)) (values_stripped s es)
          ∙ ap (λ (r : List Value → Option Value). option_and_then r (values p (applications p n) (stripped s) es)) (λ i vs. below f vs s i)
      value_stripped s (Unfolding at i es share e) = value_stripped s e

      pub values_stripped : (s : State) (es : Exprs) → values p (applications p n) s es ≡ values p (applications p n) (stripped s) es
      values_stripped s NoMore = refl
      values_stripped s (More e es) = ap₂ (λ (o : Option Value) (m : Option (List Value)). option_and_then (λ v. option_and_then (λ vs. Some (v ∷ vs)) m) o) (value_stripped s e) (values_stripped s es)

  pub applies_stripped : (n : ℕ) → AppliesStripped n
  applies_stripped zero f vs s = refl
  applies_stripped (suc n) f vs s = ap (λ (r : Function → Option Value). option_and_then r (function_named p f)) (λ i g. value_stripped n (applies_stripped n) (with_store (bind g.parameters vs) s) g.body i)

  abbrev worth : ℕ → State → Expr → Option Value
  worth n s e = value p (applications p n) s e

  module _ (n : ℕ) where
    mutual
      pub evaluated_stripped : (s : State) (e : Expr) → evaluated p n s e ≡ evaluated p n (stripped s) e
      evaluated_stripped s (Number at z) = refl
      evaluated_stripped s (Truth at b) = refl
      evaluated_stripped s (Null at) = refl
      evaluated_stripped s (Part at a b) = refl
      evaluated_stripped s (Variable at x) = refl
      evaluated_stripped s (Not at e) = evaluated_stripped s e
      evaluated_stripped s (Operate at op a b) = ap₂ (λ (x y : List Application). x ++ y) (evaluated_stripped s a) (evaluated_stripped s b)
      evaluated_stripped s (Divide at op a b) = ap₂ (λ (x y : List Application). x ++ y) (evaluated_stripped s a) (evaluated_stripped s b)
      evaluated_stripped s (Connect at c a b) =
          ap₂ (λ (x : List Application) (o : Option Value). x ++ of_right c o (evaluated p n s b)) (evaluated_stripped s a) (value_stripped n (applies_stripped n) s a)
          ∙ ap (λ (y : List Application). evaluated p n (stripped s) a ++ of_right c (worth n (stripped s) a) y) (evaluated_stripped s b)
      evaluated_stripped s (Choose at c a b) =
          ap₂ (λ (x : List Application) (o : Option Value). x ++ chosen o (evaluated p n s a) (evaluated p n s b)) (evaluated_stripped s c) (value_stripped n (applies_stripped n) s c)
          ∙ ap₂ (λ (y z : List Application). evaluated p n (stripped s) c ++ chosen (worth n (stripped s) c) y z) (evaluated_stripped s a) (evaluated_stripped s b)
      evaluated_stripped s (Read at e f) = evaluated_stripped s e
      evaluated_stripped s (Old at e) = evaluated_stripped (at_old s) e
      evaluated_stripped s (Apply at f es) = ap₂ (λ (x : List Application) (o : Option (List Value)). x ++ applied_to f o) (evaluated_in_stripped s es) (values_stripped n (applies_stripped n) s es)
      evaluated_stripped s (Unfolding at i es share e) =
          ap₂ (λ (x y : List Application). x ++ y ++ evaluated p n s e) (evaluated_stripped s share) (evaluated_in_stripped s es)
          ∙ ap (λ (z : List Application). evaluated p n (stripped s) share ++ evaluated_in p n (stripped s) es ++ z) (evaluated_stripped s e)

      evaluated_in_stripped : (s : State) (es : Exprs) → evaluated_in p n s es ≡ evaluated_in p n (stripped s) es
      evaluated_in_stripped s NoMore = refl
      evaluated_in_stripped s (More e es) = ap₂ (λ (x y : List Application). x ++ y) (evaluated_stripped s e) (evaluated_in_stripped s es)

  -- other holdings change nothing of what is evaluated
  pub evaluated_held : (n : ℕ) (hs : Holdings) (s : State) (e : Expr) → evaluated p n (with_holdings hs s) e ≡ evaluated p n s e
  evaluated_held n hs s e = evaluated_stripped n (with_holdings hs s) e ∙ sym (evaluated_stripped n s e)

-- Undoing checks

record Before {A B : Type 0} (x : Checked A) (f : A → Checked B) (b : B) : Type 0 where
  it : A
  is : x ≡ Ok it
  then : f it ≡ Ok b

err_ok : {A : Type 0} (at : Place) (b : A) → ◌≡◌ {A = Checked A} (Err at) (Ok b) → ⊥
err_ok at b e = cc

ok_is : {A : Type 0} (a b : A) → ◌≡◌ {A = Checked A} (Ok a) (Ok b) → a ≡ b
ok_is a b e = cc

none_some : {A : Type 0} (a : A) → ◌≡◌ {A = Option A} None (Some a) → ⊥
none_some a e = cc

undo : {A B : Type 0} (x : Checked A) (f : A → Checked B) (b : B) → (x >>= f) ≡ Ok b → Before x f b
undo (Ok a) f b e = record { it = a; is = refl; then = e }
undo (Err at) f b e = absurd (err_ok at b e)

not_failed : {A : Type 0} (at : Place) (o : Option A) (a : A) → or_fail at o ≡ Ok a → o ≡ Some a
not_failed at None a e = absurd (err_ok at a e)
not_failed at (Some b) a e = ap Some (ok_is b a e)

from_option : {A : Type 0} (x : Checked A) (a : A) → to_option x ≡ Some a → x ≡ Ok a
from_option (Ok b) a e = ap Ok (same_Some b a e)
from_option (Err at) a e = absurd (none_some a e)

step : {A B : Type 0} (f : A → Option B) {o : Option A} (a : A) → o ≡ Some a → option_and_then f o ≡ f a
step f a e = ap (option_and_then f) e

right_worth : (at : Place) (c : Connective) (v w : Value) (x : Checked Value) (y : Option Value) → ((u : Value) → x ≡ Ok u → y ≡ Some u) → connected at c v x ≡ Ok w → plain.connected c v y ≡ Some w
right_worth at c (BoolValue a) w x y h e = go (needs_right c a) e
  where
    go : (n : Bool) → cond n x (Ok (BoolValue (without_right c))) ≡ Ok w → cond n y (Some (BoolValue (without_right c))) ≡ Some w
    go true e = h w e
    go false e = ap Some (ok_is (BoolValue (without_right c)) w e)
right_worth at c (IntValue z) w x y h e = absurd (err_ok at w e)
right_worth at c (RefValue r) w x y h e = absurd (err_ok at w e)
right_worth at c (PermValue q) w x y h e = absurd (err_ok at w e)

either_worth : (at : Place) (v w : Value) (x y : Checked Value) (z u : Option Value) → (x ≡ Ok w → z ≡ Some w) → (y ≡ Ok w → u ≡ Some w) → choose at v x y ≡ Ok w → plain.choose v z u ≡ Some w
either_worth at (BoolValue true) w x y z u h k e = h e
either_worth at (BoolValue false) w x y z u h k e = k e
either_worth at (IntValue n) w x y z u h k e = absurd (err_ok at w e)
either_worth at (RefValue r) w x y z u h k e = absurd (err_ok at w e)
either_worth at (PermValue q) w x y z u h k e = absurd (err_ok at w e)

read_worth : (p : Program) (s : State) (f : Name) (r v : Value) (l : Location) → location_of f r ≡ Some l → readable p s l ≡ Some v → read p s f r ≡ Some v
read_worth p s f (RefValue r) v l e h = go l (same_Some _ l e) (is_positive (amount s.holdings (At l))) h
  where
    go : (l : Location) → (let m : Location = record { receiver = r; field = f } in m) ≡ l → (b : Bool) → cond b (Some (value_at p s.heap l)) None ≡ Some v → Some (value_at p s.heap record { receiver = r; field = f }) ≡ Some v
    go l m true h = ap (λ (l : Location). Some (value_at p s.heap l)) m ∙ h
    go l m false h = absurd (none_some v h)
read_worth p s f (IntValue z) v l e h = absurd (none_some l e)
read_worth p s f (BoolValue z) v l e h = absurd (none_some l e)
read_worth p s f (PermValue z) v l e h = absurd (none_some l e)

-- What is added changes nothing but what is held

module _ (p : Program) (d : Deeper) (q : Fraction) where
  same_stripped : (s t u : State) → stripped s ≡ stripped t → ◌≡◌ {A = Checked State} (Ok s) (Ok u) → stripped u ≡ stripped t
  same_stripped s t u k e = ap stripped (sym (ok_is s u e)) ∙ k

  either_added : (at : Place) (v : Value) (x y : Checked State) (s u : State) → (x ≡ Ok u → stripped u ≡ stripped s) → (y ≡ Ok u → stripped u ≡ stripped s) → choose at v x y ≡ Ok u → stripped u ≡ stripped s
  either_added at (BoolValue true) x y s u h k e = h e
  either_added at (BoolValue false) x y s u h k e = k e
  either_added at (IntValue n) x y s u h k e = absurd (err_ok at u e)
  either_added at (RefValue r) x y s u h k e = absurd (err_ok at u e)
  either_added at (PermValue a) x y s u h k e = absurd (err_ok at u e)

  add_stripped : (a : Assertion) (s u : State) → add p d q a s ≡ Ok u → stripped u ≡ stripped s
  add_stripped (Pure e) s u eq = same_stripped s s u refl (undo (fit p d s e) (λ _. Ok s) u eq).then
  add_stripped (Points at e f share) s u eq = let x = undo (field_part p d s at e f share) (add_part p d q s) u eq in same_stripped _ s u refl x.then
  add_stripped (syntax.Instance at i es share) s u eq = let x = undo (instance_part p d s at i es share) (add_part p d q s) u eq in same_stripped _ s u refl x.then
  add_stripped (Both a b) s u eq = let x = undo (add p d q a s) (λ t. add p d q b t) u eq in add_stripped b x.it u x.then ∙ add_stripped a s x.it x.is
  add_stripped (Implied c a) s u eq =
      let x = undo (fit p d s c) (λ v. choose (place_of c) v (add p d q a s) (Ok s)) u eq in
      either_added (place_of c) x.it (add p d q a s) (Ok s) s u (λ e. add_stripped a s u e) (λ e. same_stripped s s u refl e) x.then
  add_stripped (Chosen c a b) s u eq =
      let x = undo (fit p d s c) (λ v. choose (place_of c) v (add p d q a s) (add p d q b s)) u eq in
      either_added (place_of c) x.it (add p d q a s) (add p d q b s) s u (λ e. add_stripped a s u e) (λ e. add_stripped b s u e) x.then

  exchange_stripped : (i : Instance) (s u : State) → exchange p d i q s ≡ Some u → stripped u ≡ stripped s
  exchange_stripped i s u e = by_predicate (predicate_named p i.predicate) e
    where
      start : Predicate → State
      start b = with_store (bind b.parameters i.arguments) (with_holdings (lost (Folded i) q s.holdings) s)

      body_added : Predicate → Option Assertion → Option State
      body_added b None = None
      body_added b (Some a) = to_option (add p d q a (start b) >>= λ v. Ok (with_store s.store v))

      of_predicate : Option Predicate → Option State
      of_predicate None = None
      of_predicate (Some b) = body_added b b.body

      by_body : (b : Predicate) (o : Option Assertion) → body_added b o ≡ Some u → stripped u ≡ stripped s
      by_body b None e = absurd (none_some u e)
      by_body b (Some a) e =
          let x = undo (add p d q a (start b)) (λ v. Ok (with_store s.store v)) u (from_option _ u e) in
          ap stripped (sym (ok_is (with_store s.store x.it) u x.then)) ∙ ap (with_store s.store) (add_stripped a (start b) x.it x.is)

      by_predicate : (o : Option Predicate) → of_predicate o ≡ Some u → stripped u ≡ stripped s
      by_predicate None e = absurd (none_some u e)
      by_predicate (Some b) e = by_body b b.body e

-- What fits has its value by the same fuel

module _ (p : Program) where
  opened_stripped : (n : ℕ) (i : Instance) (q : Fraction) (s u : State) → (deeper p n).opened i q s ≡ Some u → stripped u ≡ stripped s
  opened_stripped zero i q s u e = absurd (none_some u e)
  opened_stripped (suc n) i q s u e = exchange_stripped p (deeper p n) q i s u e

  applied_worth : (n : ℕ) (f : Name) (vs : List Value) (s : State) (v : Value) → (deeper p n).applied f vs s ≡ Some v → applications p n f vs s ≡ Some v
  applied_worth zero f vs s v e = absurd (none_some v e)
  applied_worth (suc n) f vs s v e = by_function (function_named p f) e
    where
      after : Function → Checked Holdings → Option Value
      after g x = elim x as (λ _. Option Value) [ Ok h ↦ value_by p n (with_store (bind g.parameters vs) s) g.body | Err at ↦ None ]

      side : Option Function → Option Value
      side None = None
      side (Some g) = after g (take p (deeper p n) (with_store (bind g.parameters vs) s) full (joined g.place g.requires) s.holdings)

      taken : (g : Function) (x : Checked Holdings) → after g x ≡ Some v → value_by p n (with_store (bind g.parameters vs) s) g.body ≡ Some v
      taken g (Ok h) e = e
      taken g (Err at) e = absurd (none_some v e)

      by_function : (o : Option Function) → side o ≡ Some v → option_and_then (λ g. value p (applications p n) (with_store (bind g.parameters vs) s) g.body) o ≡ Some v
      by_function None e = absurd (none_some v e)
      by_function (Some g) e = taken g (take p (deeper p n) (with_store (bind g.parameters vs) s) full (joined g.place g.requires) s.holdings) e

  module _ (n : ℕ) where
    abbrev d : Deeper
    d = deeper p n

    mutual
      pub fit_worth : (s : State) (e : Expr) (v : Value) → fit p (deeper p n) s e ≡ Ok v → value p (applications p n) s e ≡ Some v
      fit_worth s (Number at z) v e = ap Some (ok_is (IntValue (pos z)) v e)
      fit_worth s (Truth at b) v e = ap Some (ok_is (BoolValue b) v e)
      fit_worth s (Null at) v e = ap Some (ok_is (RefValue 0) v e)
      fit_worth s (Part at a b) v e = ap Some (ok_is (PermValue (over a b)) v e)
      fit_worth s (Variable at x) v e = not_failed at (lookup x s.store) v e
      fit_worth s (Not at a) v e =
          let x = undo (fit p d s a) (λ v. or_fail at (negated v)) v e in
          step negated x.it (fit_worth s a x.it x.is) ∙ not_failed at (negated x.it) v x.then
      fit_worth s (Operate at op a b) v e =
          let x = undo (fit p d s a) (λ v. fit p d s b >>= λ w. or_fail at (operated op v w)) v e in
          let y = undo (fit p d s b) (λ w. or_fail at (operated op x.it w)) v x.then in
          step (λ v. option_and_then (λ w. operated op v w) (value p (applications p n) s b)) x.it (fit_worth s a x.it x.is)
          ∙ step (λ w. operated op x.it w) y.it (fit_worth s b y.it y.is) ∙ not_failed at (operated op x.it y.it) v y.then
      fit_worth s (Divide at op a b) v e =
          let x = undo (fit p d s a) (λ v. fit p d s b >>= λ w. or_fail at (divided op v w)) v e in
          let y = undo (fit p d s b) (λ w. or_fail at (divided op x.it w)) v x.then in
          step (λ v. option_and_then (λ w. divided op v w) (value p (applications p n) s b)) x.it (fit_worth s a x.it x.is)
          ∙ step (λ w. divided op x.it w) y.it (fit_worth s b y.it y.is) ∙ not_failed at (divided op x.it y.it) v y.then
      fit_worth s (Connect at c a b) v e =
          let x = undo (fit p d s a) (λ v. connected at c v (fit p d s b)) v e in
          step (λ v. plain.connected c v (value p (applications p n) s b)) x.it (fit_worth s a x.it x.is)
          ∙ right_worth at c x.it v (fit p d s b) (value p (applications p n) s b) (λ u e. fit_worth s b u e) x.then
      fit_worth s (Choose at c a b) v e =
          let x = undo (fit p d s c) (λ v. choose at v (fit p d s a) (fit p d s b)) v e in
          step (λ v. plain.choose v (value p (applications p n) s a) (value p (applications p n) s b)) x.it (fit_worth s c x.it x.is)
          ∙ either_worth at x.it v (fit p d s a) (fit p d s b) (value p (applications p n) s a) (value p (applications p n) s b) (λ e. fit_worth s a v e) (λ e. fit_worth s b v e) x.then
      fit_worth s (Read at a f) v e =
          let x = undo (fit p d s a) (λ r. or_fail at (location_of f r) >>= λ l. or_fail at (readable p s l)) v e in
          let y = undo (or_fail at (location_of f x.it)) (λ l. or_fail at (readable p s l)) v x.then in
          step (read p s f) x.it (fit_worth s a x.it x.is) ∙ read_worth p s f x.it v y.it (not_failed at (location_of f x.it) y.it y.is) (not_failed at (readable p s y.it) v y.then)
      fit_worth s (Old at a) v e = fit_worth (at_old s) a v e
      fit_worth s (Apply at f es) v e =
          let x = undo (fit_all p d s es) (λ vs. or_fail at (d.applied f vs s)) v e in
          step (λ vs. applications p n f vs s) x.it (all_fit_worth s es x.it x.is) ∙ applied_worth n f x.it s v (not_failed at (d.applied f x.it s) v x.then)
      fit_worth s (Unfolding at i es share a) v eq =
          let inst = λ (vs : List Value). let j : Instance = record { predicate = i; arguments = vs } in j in
          let last = λ (u : State). fit p d u a in
          let opened = λ (q : Fraction) (vs : List Value) (_ : Unit {0}). or_fail at (d.opened (inst vs) q s) >>= last in
          let having = λ (q : Fraction) (vs : List Value). guard at (has_instance s (inst vs) q) >>= opened q vs in
          let x = undo (fit p d s share) (λ v. or_fail at (amount_of v) >>= λ q. guard at (is_positive q) >>= λ _. fit_all p d s es >>= having q) v eq in
          let y = undo (or_fail at (amount_of x.it)) (λ q. guard at (is_positive q) >>= λ _. fit_all p d s es >>= having q) v x.then in
          let z = undo (guard at (is_positive y.it)) (λ _. fit_all p d s es >>= having y.it) v y.then in
          let w = undo (fit_all p d s es) (having y.it) v z.then in
          let b = undo (guard at (has_instance s (inst w.it) y.it)) (opened y.it w.it) v w.then in
          let u = undo (or_fail at (d.opened (inst w.it) y.it s)) last v b.then in
          let same = opened_stripped n (inst w.it) y.it s u.it (not_failed at (d.opened (inst w.it) y.it s) u.it u.is) in
          value_stripped p n (applies_stripped p n) s a ∙ ap (λ (t : State). value p (applications p n) t a) (sym same) ∙ sym (value_stripped p n (applies_stripped p n) u.it a) ∙ fit_worth u.it a v u.then

      pub all_fit_worth : (s : State) (es : Exprs) (vs : List Value) → fit_all p (deeper p n) s es ≡ Ok vs → values p (applications p n) s es ≡ Some vs
      all_fit_worth s NoMore vs e = ap Some (ok_is [] vs e)
      all_fit_worth s (More a es) vs e =
          let x = undo (fit p d s a) (λ v. fit_all p d s es >>= λ vs. Ok (v ∷ vs)) vs e in
          let y = undo (fit_all p d s es) (λ vs. Ok (x.it ∷ vs)) vs x.then in
          step (λ v. option_and_then (λ vs. Some (v ∷ vs)) (values p (applications p n) s es)) x.it (fit_worth s a x.it x.is)
          ∙ step (λ vs. Some (x.it ∷ vs)) y.it (all_fit_worth s es y.it y.is) ∙ ap Some (ok_is (x.it ∷ y.it) vs y.then)
