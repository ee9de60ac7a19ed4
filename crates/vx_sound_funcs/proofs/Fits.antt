-- What fits firmly fits: more may be allowed of what is applied and exchanged, and a body that fits where it starts has its value
-- in the state of its caller too.
use Rattle.std.proofs.Common.{◌≡◌, ℕ, zero, suc, ◌+◌, ◌-◌, ◌≤◌, Bool, true, false, cond, List, [], ◌∷◌, Option, Some, None, refl, sym, ◌∙◌, ap, subst, arith}
use Rattle.std.specs.Prelude.{Ok, Err, option_and_then, pos}
use Rattle.vx_frac.specs.Fractions.{Fraction, full, none, is_positive, at_most, over, product}
use Rattle.vx_ast.specs.declared.Place.{Place}
use Rattle.vx_ast.specs.Syntax.{Name, Program, Predicate, Function, predicate_named, Connective, place_of, Expr, Number, Truth, Null, Part, Variable, Not, Operate, Divide, Connect, Choose, Read, Old, Apply, Unfolding, Exprs, NoMore, More, Assertion, Pure, Points, Both, Implied, Chosen}
use Rattle.vx_ast.specs.Syntax as syntax
use Rattle.vx_meaning.specs.Values.{Value, IntValue, BoolValue, RefValue, PermValue, is_true, negated, operated, divided, needs_right, without_right}
use Rattle.vx_meaning.specs.States.{State, Holdings, Heap, Instance, Resource, At, Folded, amount, gained, lost, lookup, bind, at_old, value_at, with_store, with_holdings}
use Rattle.vx_meaning.specs.Evaluate as plain
use Rattle.vx_meaning.specs.Evaluate.{applications, value, values, value_by}
use Rattle.vx_meaning.specs.Flatten.{bare}
use Rattle.vx_meaning.specs.Fits.{Checked, ◌>>=◌, or_fail, guard, to_option, Deeper, choose, connected, location_of, amount_of, readable, has_instance, fit, fit_all, field_part, instance_part, take, take_part, add, add_part, application, exchange, deeper, Fits}
use Rattle.vx_types.specs.Now.{IsOfNow, AreOfNow}
use Rattle.vx_sound.proofs.Fuel.{value_more, applications_later}
use Rattle.vx_sound_preds.proofs.Fitting.{undo, not_failed, step}
use Rattle.vx_sound_preds.proofs.Framing.{ok_same, picked}
use Rattle.vx_sound_funcs.specs.Told.{precondition_of}
use Rattle.vx_sound_funcs.specs.Firm.{firm_application, firmly, FitsFirmly}
use Rattle.vx_sound_funcs.specs.Laws.{SpeakNow}
use Rattle.vx_sound_funcs.proofs.Steps.{nothing_some, some_of, found}

-- where the first allows something, the second allows it too, with the same outcome
pub record Allows (d more : Deeper) : Type 0 where
  pub applied : (f : Name) (vs : List Value) (s : State) (v : Value) → d.applied f vs s ≡ Some v → more.applied f vs s ≡ Some v
  pub opened : (i : Instance) (q : Fraction) (s u : State) → d.opened i q s ≡ Some u → more.opened i q s ≡ Some u

pub next : {A B : Type 0} (f : A → Checked B) {x : Checked A} (a : A) → x ≡ Ok a → (x >>= f) ≡ f a
next f a e = ap (λ y. y >>= f) e

pub or_more : {A : Type 0} (at : Place) (o m : Option A) (a : A) → (o ≡ Some a → m ≡ Some a) → or_fail at o ≡ Ok a → or_fail at m ≡ Ok a
or_more at o m a h e = ap (or_fail at) (h (not_failed at o a e))

pub connected_more : (at : Place) (c : Connective) (v : Value) (x y : Checked Value) (w : Value) → (x ≡ Ok w → y ≡ Ok w) → connected at c v x ≡ Ok w → connected at c v y ≡ Ok w
connected_more at c (BoolValue b) x y w h e = go (needs_right c b) e
  where
    go : (n : Bool) → cond n x (Ok (BoolValue (without_right c))) ≡ Ok w → cond n y (Ok (BoolValue (without_right c))) ≡ Ok w
    go true e = h e
    go false e = e
connected_more at c (IntValue z) x y w h e = e
connected_more at c (RefValue z) x y w h e = e
connected_more at c (PermValue z) x y w h e = e

pub chosen_more : {A : Type 0} (at : Place) (v : Value) (x y x' y' : Checked A) (w : A) → (x ≡ Ok w → x' ≡ Ok w) → (y ≡ Ok w → y' ≡ Ok w) → choose at v x y ≡ Ok w → choose at v x' y' ≡ Ok w
chosen_more at (BoolValue true) x y x' y' w h k e = h e
chosen_more at (BoolValue false) x y x' y' w h k e = k e
chosen_more at (IntValue z) x y x' y' w h k e = e
chosen_more at (RefValue z) x y x' y' w h k e = e
chosen_more at (PermValue z) x y x' y' w h k e = e

module _ (p : Program) (d more : Deeper) (allows : Allows d more) where
  mutual
    pub fit_more : (s : State) (e : Expr) (v : Value) → fit p d s e ≡ Ok v → fit p more s e ≡ Ok v
    fit_more s (Number at n) v e = e
    fit_more s (Truth at b) v e = e
    fit_more s (Null at) v e = e
    fit_more s (Part at n m) v e = e
    fit_more s (Variable at x) v e = e
    fit_more s (Not at a) v e =
        let x = undo (fit p d s a) (λ v. or_fail at (negated v)) v e in
        next (λ v. or_fail at (negated v)) x.it (fit_more s a x.it x.is) ∙ x.then
    fit_more s (Operate at op a b) v e =
        let x = undo (fit p d s a) (λ v. fit p d s b >>= λ w. or_fail at (operated op v w)) v e in
        let y = undo (fit p d s b) (λ w. or_fail at (operated op x.it w)) v x.then in
        next (λ v. fit p more s b >>= λ w. or_fail at (operated op v w)) x.it (fit_more s a x.it x.is) ∙ next (λ w. or_fail at (operated op x.it w)) y.it (fit_more s b y.it y.is) ∙ y.then
    fit_more s (Divide at op a b) v e =
        let x = undo (fit p d s a) (λ v. fit p d s b >>= λ w. or_fail at (divided op v w)) v e in
        let y = undo (fit p d s b) (λ w. or_fail at (divided op x.it w)) v x.then in
        next (λ v. fit p more s b >>= λ w. or_fail at (divided op v w)) x.it (fit_more s a x.it x.is) ∙ next (λ w. or_fail at (divided op x.it w)) y.it (fit_more s b y.it y.is) ∙ y.then
    fit_more s (Connect at c a b) v e =
        let x = undo (fit p d s a) (λ v. connected at c v (fit p d s b)) v e in
        next (λ v. connected at c v (fit p more s b)) x.it (fit_more s a x.it x.is) ∙ connected_more at c x.it (fit p d s b) (fit p more s b) v (fit_more s b v) x.then
    fit_more s (Choose at c a b) v e =
        let x = undo (fit p d s c) (λ v. choose at v (fit p d s a) (fit p d s b)) v e in
        next (λ v. choose at v (fit p more s a) (fit p more s b)) x.it (fit_more s c x.it x.is)
        ∙ chosen_more at x.it (fit p d s a) (fit p d s b) (fit p more s a) (fit p more s b) v (fit_more s a v) (fit_more s b v) x.then
    fit_more s (Read at a f) v e =
        let rest = λ (r : Value). or_fail at (location_of f r) >>= λ l. or_fail at (readable p s l) in
        let x = undo (fit p d s a) (λ r. or_fail at (location_of f r) >>= λ l. or_fail at (readable p s l)) v e in
        next rest x.it (fit_more s a x.it x.is) ∙ x.then
    fit_more s (Old at a) v e = fit_more (at_old s) a v e
    fit_more s (Apply at f es) v e =
        let x = undo (fit_all p d s es) (λ vs. or_fail at (d.applied f vs s)) v e in
        next (λ vs. or_fail at (more.applied f vs s)) x.it (fit_all_more s es x.it x.is) ∙ or_more at (d.applied f x.it s) (more.applied f x.it s) v (allows.applied f x.it s v) x.then
    fit_more s (Unfolding at i es share a) v e =
        let inst = λ (vs : List Value). let k : Instance = record { predicate = i; arguments = vs } in k in
        let last = λ (d : Deeper) (t : State). fit p d t a in
        let opening = λ (d : Deeper) (q : Fraction) (vs : List Value). guard at (has_instance s (inst vs) q) >>= λ _. or_fail at (d.opened (inst vs) q s) >>= last d in
        let arguments = λ (d : Deeper) (q : Fraction). guard at (is_positive q) >>= λ _. fit_all p d s es >>= opening d q in
        let amounts = λ (d : Deeper) (v : Value). or_fail at (amount_of v) >>= arguments d in
        let x = undo (fit p d s share) (amounts d) v e in
        let y = undo (or_fail at (amount_of x.it)) (arguments d) v x.then in
        let z = undo (guard at (is_positive y.it)) (λ _. fit_all p d s es >>= opening d y.it) v y.then in
        let w = undo (fit_all p d s es) (opening d y.it) v z.then in
        let b = undo (guard at (has_instance s (inst w.it) y.it)) (λ _. or_fail at (d.opened (inst w.it) y.it s) >>= last d) v w.then in
        let u = undo (or_fail at (d.opened (inst w.it) y.it s)) (last d) v b.then in
        next (amounts more) x.it (fit_more s share x.it x.is) ∙ next (arguments more) y.it y.is ∙ next (λ _. fit_all p more s es >>= opening more y.it) z.it z.is
        ∙ next (opening more y.it) w.it (fit_all_more s es w.it w.is) ∙ next (λ _. or_fail at (more.opened (inst w.it) y.it s) >>= last more) b.it b.is
        ∙ next (last more) u.it (or_more at (d.opened (inst w.it) y.it s) (more.opened (inst w.it) y.it s) u.it (allows.opened (inst w.it) y.it s u.it) u.is) ∙ fit_more u.it a v u.then

    pub fit_all_more : (s : State) (es : Exprs) (vs : List Value) → fit_all p d s es ≡ Ok vs → fit_all p more s es ≡ Ok vs
    fit_all_more s NoMore vs e = e
    fit_all_more s (More a es) vs e =
        let x = undo (fit p d s a) (λ v. fit_all p d s es >>= λ vs. Ok (v ∷ vs)) vs e in
        let y = undo (fit_all p d s es) (λ vs. Ok (x.it ∷ vs)) vs x.then in
        next (λ v. fit_all p more s es >>= λ vs. Ok (v ∷ vs)) x.it (fit_more s a x.it x.is) ∙ next (λ vs. Ok (x.it ∷ vs)) y.it (fit_all_more s es y.it y.is) ∙ y.then

  -- The parts of permissions, taking and adding

  field_more : (s : State) (at : Place) (e : Expr) (f : Name) (share : Expr) (part : Resource × Fraction) → field_part p d s at e f share ≡ Ok part → field_part p more s at e f share ≡ Ok part
  field_more s at e f share part eq =
      let rest = λ (r v : Value). or_fail at (location_of f r) >>= λ l. or_fail at (amount_of v) >>= λ q. guard at (at_most none q) >>= λ _. Ok (At l, q) in
      let x = undo (fit p d s e) (λ r. fit p d s share >>= rest r) part eq in
      let y = undo (fit p d s share) (rest x.it) part x.then in
      next (λ r. fit p more s share >>= rest r) x.it (fit_more s e x.it x.is) ∙ next (rest x.it) y.it (fit_more s share y.it y.is) ∙ y.then

  instance_more : (s : State) (at : Place) (i : Name) (es : Exprs) (share : Expr) (part : Resource × Fraction) → instance_part p d s at i es share ≡ Ok part → instance_part p more s at i es share ≡ Ok part
  instance_more s at i es share part eq =
      let rest = λ (vs : List Value) (v : Value). or_fail at (amount_of v) >>= λ q. guard at (at_most none q) >>= λ _. Ok (Folded record { predicate = i; arguments = vs }, q) in
      let x = undo (fit_all p d s es) (λ vs. fit p d s share >>= rest vs) part eq in
      let y = undo (fit p d s share) (rest x.it) part x.then in
      next (λ vs. fit p more s share >>= rest vs) x.it (fit_all_more s es x.it x.is) ∙ next (rest x.it) y.it (fit_more s share y.it y.is) ∙ y.then

  pub take_more : (s : State) (q : Fraction) (a : Assertion) (h left : Holdings) → take p d s q a h ≡ Ok left → take p more s q a h ≡ Ok left
  take_more s q (Pure e) h left eq =
      let x = undo (fit p d s e) (λ v. guard (place_of e) (is_true v) >>= λ _. Ok h) left eq in
      next (λ v. guard (place_of e) (is_true v) >>= λ _. Ok h) x.it (fit_more s e x.it x.is) ∙ x.then
  take_more s q (Points at e f share) h left eq =
      let x = undo (field_part p d s at e f share) (take_part p d s q at h) left eq in
      next (take_part p more s q at h) x.it (field_more s at e f share x.it x.is) ∙ x.then
  take_more s q (syntax.Instance at i es share) h left eq =
      let x = undo (instance_part p d s at i es share) (take_part p d s q at h) left eq in
      next (take_part p more s q at h) x.it (instance_more s at i es share x.it x.is) ∙ x.then
  take_more s q (Both a b) h left eq =
      let x = undo (take p d s q a h) (λ r. take p d s q b r) left eq in
      next (λ r. take p more s q b r) x.it (take_more s q a h x.it x.is) ∙ take_more s q b x.it left x.then
  take_more s q (Implied c a) h left eq =
      let x = undo (fit p d s c) (λ v. choose (place_of c) v (take p d s q a h) (Ok h)) left eq in
      next (λ v. choose (place_of c) v (take p more s q a h) (Ok h)) x.it (fit_more s c x.it x.is)
      ∙ chosen_more (place_of c) x.it (take p d s q a h) (Ok h) (take p more s q a h) (Ok h) left (take_more s q a h left) (λ e. e) x.then
  take_more s q (Chosen c a b) h left eq =
      let x = undo (fit p d s c) (λ v. choose (place_of c) v (take p d s q a h) (take p d s q b h)) left eq in
      next (λ v. choose (place_of c) v (take p more s q a h) (take p more s q b h)) x.it (fit_more s c x.it x.is)
      ∙ chosen_more (place_of c) x.it (take p d s q a h) (take p d s q b h) (take p more s q a h) (take p more s q b h) left (take_more s q a h left) (take_more s q b h left) x.then

  pub add_more : (q : Fraction) (a : Assertion) (s u : State) → add p d q a s ≡ Ok u → add p more q a s ≡ Ok u
  add_more q (Pure e) s u eq =
      let x = undo (fit p d s e) (λ _. Ok s) u eq in
      next (λ _. Ok s) x.it (fit_more s e x.it x.is) ∙ x.then
  add_more q (Points at e f share) s u eq =
      let x = undo (field_part p d s at e f share) (add_part p d q s) u eq in
      next (add_part p more q s) x.it (field_more s at e f share x.it x.is) ∙ x.then
  add_more q (syntax.Instance at i es share) s u eq =
      let x = undo (instance_part p d s at i es share) (add_part p d q s) u eq in
      next (add_part p more q s) x.it (instance_more s at i es share x.it x.is) ∙ x.then
  add_more q (Both a b) s u eq =
      let x = undo (add p d q a s) (λ t. add p d q b t) u eq in
      next (λ t. add p more q b t) x.it (add_more q a s x.it x.is) ∙ add_more q b x.it u x.then
  add_more q (Implied c a) s u eq =
      let x = undo (fit p d s c) (λ v. choose (place_of c) v (add p d q a s) (Ok s)) u eq in
      next (λ v. choose (place_of c) v (add p more q a s) (Ok s)) x.it (fit_more s c x.it x.is)
      ∙ chosen_more (place_of c) x.it (add p d q a s) (Ok s) (add p more q a s) (Ok s) u (add_more q a s u) (λ e. e) x.then
  add_more q (Chosen c a b) s u eq =
      let x = undo (fit p d s c) (λ v. choose (place_of c) v (add p d q a s) (add p d q b s)) u eq in
      next (λ v. choose (place_of c) v (add p more q a s) (add p more q b s)) x.it (fit_more s c x.it x.is)
      ∙ chosen_more (place_of c) x.it (add p d q a s) (add p d q b s) (add p more q a s) (add p more q b s) u (add_more q a s u) (add_more q b s u) x.then

-- Whatever an assertion gives, the variables and the heap stay.

pub record Stays (s u : State) : Type 0 where
  pub store : u.store ≡ s.store
  pub heap : u.heap ≡ s.heap

module _ (p : Program) (d : Deeper) (q : Fraction) where
  pub add_stays : (a : Assertion) (s u : State) → add p d q a s ≡ Ok u → Stays s u
  add_stays (Pure e) s u eq =
      let x = undo (fit p d s e) (λ _. Ok s) u eq in
      subst (Stays s) (ok_same s u x.then) record { store = refl; heap = refl }
  add_stays (Points at e f share) s u eq =
      let x = undo (field_part p d s at e f share) (add_part p d q s) u eq in
      subst (Stays s) (ok_same (with_holdings (gained x.it.0 (product q x.it.1) s.holdings) s) u x.then) record { store = refl; heap = refl }
  add_stays (syntax.Instance at i es share) s u eq =
      let x = undo (instance_part p d s at i es share) (add_part p d q s) u eq in
      subst (Stays s) (ok_same (with_holdings (gained x.it.0 (product q x.it.1) s.holdings) s) u x.then) record { store = refl; heap = refl }
  add_stays (Both a b) s u eq =
      let x = undo (add p d q a s) (λ t. add p d q b t) u eq in
      let k = add_stays a s x.it x.is in
      let l = add_stays b x.it u x.then in
      record { store = l.store ∙ k.store; heap = l.heap ∙ k.heap }
  add_stays (Implied c a) s u eq =
      let x = undo (fit p d s c) (λ v. choose (place_of c) v (add p d q a s) (Ok s)) u eq in
      picked {R = Stays s u} (place_of c) x.it (add p d q a s) (Ok s) u (λ e. add_stays a s u e) (λ e. subst (Stays s) (ok_same s u e) record { store = refl; heap = refl }) x.then
  add_stays (Chosen c a b) s u eq =
      let x = undo (fit p d s c) (λ v. choose (place_of c) v (add p d q a s) (add p d q b s)) u eq in
      picked {R = Stays s u} (place_of c) x.it (add p d q a s) (add p d q b s) u (λ e. add_stays a s u e) (λ e. add_stays b s u e) x.then

-- an exchange keeps them too
pub exchange_stays : (p : Program) (d : Deeper) (i : Instance) (q : Fraction) (s u : State) → exchange p d i q s ≡ Some u → Stays s u
exchange_stays p d i q s u e = by_predicate (predicate_named p i.predicate) e
  where
    rest : State
    rest = with_holdings (lost (Folded i) q s.holdings) s

    body_added : Predicate → Option Assertion → Option State
    body_added b None = None
    body_added b (Some a) = to_option (add p d q a (with_store (bind b.parameters i.arguments) rest) >>= λ v. Ok (with_store s.store v))

    of_predicate : Option Predicate → Option State
    of_predicate None = None
    of_predicate (Some b) = body_added b b.body

    by_body : (b : Predicate) (o : Option Assertion) → body_added b o ≡ Some u → Stays s u
    by_body b None e = cc
    by_body b (Some a) e =
        let x = undo (add p d q a (with_store (bind b.parameters i.arguments) rest)) (λ v. Ok (with_store s.store v)) u (some_of _ u e) in
        let k = add_stays p d q a (with_store (bind b.parameters i.arguments) rest) x.it x.is in
        subst (Stays s) (ok_same (with_store s.store x.it) u x.then) record { store = refl; heap = k.heap }

    by_predicate : (o : Option Predicate) → of_predicate o ≡ Some u → Stays s u
    by_predicate None e = cc
    by_predicate (Some b) e = by_body b b.body e

-- What is exchanged with more allowed
pub exchange_more : (p : Program) (d more : Deeper) → Allows d more → (i : Instance) (q : Fraction) (s u : State) → exchange p d i q s ≡ Some u → exchange p more i q s ≡ Some u
exchange_more p d more allows i q s u e = by_predicate (predicate_named p i.predicate) e
  where
    rest : State
    rest = with_holdings (lost (Folded i) q s.holdings) s

    body_added : Deeper → Predicate → Option Assertion → Option State
    body_added d b None = None
    body_added d b (Some a) = to_option (add p d q a (with_store (bind b.parameters i.arguments) rest) >>= λ v. Ok (with_store s.store v))

    of_predicate : Deeper → Option Predicate → Option State
    of_predicate d None = None
    of_predicate d (Some b) = body_added d b b.body

    by_body : (b : Predicate) (o : Option Assertion) → body_added d b o ≡ Some u → body_added more b o ≡ Some u
    by_body b None e = e
    by_body b (Some a) e =
        let start = with_store (bind b.parameters i.arguments) rest in
        let x = undo (add p d q a start) (λ v. Ok (with_store s.store v)) u (some_of _ u e) in
        ap to_option (next (λ v. Ok (with_store s.store v)) x.it (add_more p d more allows q a start x.it x.is) ∙ x.then)

    by_predicate : (o : Option Predicate) → of_predicate d o ≡ Some u → of_predicate more o ≡ Some u
    by_predicate None e = e
    by_predicate (Some b) e = by_body b b.body e

-- Values of what fits firmly

right_part : (at : Place) (c : Connective) (v w : Value) (x : Checked Value) (y : Option Value) → (x ≡ Ok w → y ≡ Some w) → connected at c v x ≡ Ok w → plain.connected c v y ≡ Some w
right_part at c (BoolValue a) w x y h e = go (needs_right c a) e
  where
    go : (n : Bool) → cond n x (Ok (BoolValue (without_right c))) ≡ Ok w → cond n y (Some (BoolValue (without_right c))) ≡ Some w
    go true e = h e
    go false e = ap Some (ok_same (BoolValue (without_right c)) w e)
right_part at c (IntValue z) w x y h e = cc
right_part at c (RefValue r) w x y h e = cc
right_part at c (PermValue q) w x y h e = cc

either_side : (at : Place) (v w : Value) (x y : Checked Value) (z u : Option Value) → (x ≡ Ok w → z ≡ Some w) → (y ≡ Ok w → u ≡ Some w) → choose at v x y ≡ Ok w → plain.choose v z u ≡ Some w
either_side at (BoolValue true) w x y z u h k e = h e
either_side at (BoolValue false) w x y z u h k e = k e
either_side at (IntValue n) w x y z u h k e = cc
either_side at (RefValue r) w x y z u h k e = cc
either_side at (PermValue q) w x y z u h k e = cc

read_here : (p : Program) (s t : State) (at : Place) (f : Name) (r v : Value) → t.heap ≡ s.heap → (or_fail at (location_of f r) >>= λ l. or_fail at (readable p s l)) ≡ Ok v → plain.read p t f r ≡ Some v
read_here p s t at f (RefValue r) v heap e = go (is_positive (amount s.holdings (At record { receiver = r; field = f }))) (not_failed at _ v e)
  where
    go : (b : Bool) → cond b (Some (value_at p s.heap record { receiver = r; field = f })) None ≡ Some v → Some (value_at p t.heap record { receiver = r; field = f }) ≡ Some v
    go true e = ap (λ (h : Heap). Some (value_at p h record { receiver = r; field = f })) heap ∙ e
    go false e = cc
read_here p s t at f (IntValue z) v heap e = cc
read_here p s t at f (BoolValue z) v heap e = cc
read_here p s t at f (PermValue z) v heap e = cc

-- of applications in any state with the same heap
abbrev HaveValues : Program → ℕ → Type 0
HaveValues p n = (f : Name) (vs : List Value) (s t : State) (v : Value) → t.heap ≡ s.heap → (firmly p n).applied f vs s ≡ Some v → applications p n f vs t ≡ Some v

module _ (p : Program) (n : ℕ) (have : HaveValues p n) (opens : (i : Instance) (q : Fraction) (s u : State) → (firmly p n).opened i q s ≡ Some u → Stays s u) where
  abbrev d : Deeper
  d = firmly p n

  mutual
    value_of : (s t : State) → Stays s t → (e : Expr) (v : Value) → IsOfNow e → fit p (firmly p n) s e ≡ Ok v → value p (applications p n) t e ≡ Some v
    value_of s t k (Number at z) v w e = ap Some (ok_same (IntValue (pos z)) v e)
    value_of s t k (Truth at b) v w e = ap Some (ok_same (BoolValue b) v e)
    value_of s t k (Null at) v w e = ap Some (ok_same (RefValue 0) v e)
    value_of s t k (Part at m q) v w e = ap Some (ok_same (PermValue (over m q)) v e)
    value_of s t k (Variable at x) v w e = ap (lookup x) k.store ∙ not_failed at (lookup x s.store) v e
    value_of s t k (Not at a) v w e =
        let x = undo (fit p d s a) (λ v. or_fail at (negated v)) v e in
        step negated x.it (value_of s t k a x.it w x.is) ∙ not_failed at (negated x.it) v x.then
    value_of s t k (Operate at op a b) v w e =
        let x = undo (fit p d s a) (λ v. fit p d s b >>= λ w. or_fail at (operated op v w)) v e in
        let y = undo (fit p d s b) (λ w. or_fail at (operated op x.it w)) v x.then in
        step (λ v. option_and_then (λ w. operated op v w) (value p (applications p n) t b)) x.it (value_of s t k a x.it w.0 x.is) ∙ step (λ w. operated op x.it w) y.it (value_of s t k b y.it w.1 y.is) ∙ not_failed at (operated op x.it y.it) v y.then
    value_of s t k (Divide at op a b) v w e =
        let x = undo (fit p d s a) (λ v. fit p d s b >>= λ w. or_fail at (divided op v w)) v e in
        let y = undo (fit p d s b) (λ w. or_fail at (divided op x.it w)) v x.then in
        step (λ v. option_and_then (λ w. divided op v w) (value p (applications p n) t b)) x.it (value_of s t k a x.it w.0 x.is) ∙ step (λ w. divided op x.it w) y.it (value_of s t k b y.it w.1 y.is) ∙ not_failed at (divided op x.it y.it) v y.then
    value_of s t k (Connect at c a b) v w e =
        let x = undo (fit p d s a) (λ v. connected at c v (fit p d s b)) v e in
        step (λ v. plain.connected c v (value p (applications p n) t b)) x.it (value_of s t k a x.it w.0 x.is) ∙ right_part at c x.it v (fit p d s b) (value p (applications p n) t b) (value_of s t k b v w.1) x.then
    value_of s t k (Choose at c a b) v w e =
        let x = undo (fit p d s c) (λ v. choose at v (fit p d s a) (fit p d s b)) v e in
        step (λ v. plain.choose v (value p (applications p n) t a) (value p (applications p n) t b)) x.it (value_of s t k c x.it w.0 x.is)
        ∙ either_side at x.it v (fit p d s a) (fit p d s b) (value p (applications p n) t a) (value p (applications p n) t b) (value_of s t k a v w.1) (value_of s t k b v w.2) x.then
    value_of s t k (Read at a f) v w e =
        let x = undo (fit p d s a) (λ r. or_fail at (location_of f r) >>= λ l. or_fail at (readable p s l)) v e in
        step (plain.read p t f) x.it (value_of s t k a x.it w x.is) ∙ read_here p s t at f x.it v k.heap x.then
    value_of s t k (Old at a) v w e = absurd w
    value_of s t k (Apply at f es) v w e =
        let x = undo (fit_all p d s es) (λ vs. or_fail at (d.applied f vs s)) v e in
        step (λ vs. applications p n f vs t) x.it (values_of s t k es x.it w x.is) ∙ have f x.it s t v k.heap (not_failed at (d.applied f x.it s) v x.then)
    value_of s t k (Unfolding at i es share a) v w e =
        let inst = λ (vs : List Value). let k : Instance = record { predicate = i; arguments = vs } in k in
        let last = λ (t : State). fit p d t a in
        let opening = λ (q : Fraction) (vs : List Value). guard at (has_instance s (inst vs) q) >>= λ _. or_fail at (d.opened (inst vs) q s) >>= last in
        let arguments = λ (q : Fraction). guard at (is_positive q) >>= λ _. fit_all p d s es >>= opening q in
        let x = undo (fit p d s share) (λ v. or_fail at (amount_of v) >>= arguments) v e in
        let y = undo (or_fail at (amount_of x.it)) arguments v x.then in
        let z = undo (guard at (is_positive y.it)) (λ _. fit_all p d s es >>= opening y.it) v y.then in
        let r = undo (fit_all p d s es) (opening y.it) v z.then in
        let b = undo (guard at (has_instance s (inst r.it) y.it)) (λ _. or_fail at (d.opened (inst r.it) y.it s) >>= last) v r.then in
        let u = undo (or_fail at (d.opened (inst r.it) y.it s)) last v b.then in
        let o = opens (inst r.it) y.it s u.it (not_failed at (d.opened (inst r.it) y.it s) u.it u.is) in
        value_of u.it t (record { store = k.store ∙ sym o.store; heap = k.heap ∙ sym o.heap }) a v w.2 u.then

    values_of : (s t : State) → Stays s t → (es : Exprs) (vs : List Value) → AreOfNow es → fit_all p (firmly p n) s es ≡ Ok vs → values p (applications p n) t es ≡ Some vs
    values_of s t k NoMore vs w e = ap Some (ok_same [] vs e)
    values_of s t k (More a es) vs w e =
        let x = undo (fit p d s a) (λ v. fit_all p d s es >>= λ vs. Ok (v ∷ vs)) vs e in
        let y = undo (fit_all p d s es) (λ vs. Ok (x.it ∷ vs)) vs x.then in
        step (λ v. option_and_then (λ vs. Some (v ∷ vs)) (values p (applications p n) t es)) x.it (value_of s t k a x.it w.0 x.is)
        ∙ step (λ vs. Some (x.it ∷ vs)) y.it (values_of s t k es y.it w.1 y.is) ∙ ap Some (ok_same (x.it ∷ y.it) vs y.then)

module _ (p : Program) (now : SpeakNow p) where
  firm_opens : (n : ℕ) (i : Instance) (q : Fraction) (s u : State) → (firmly p n).opened i q s ≡ Some u → Stays s u
  firm_opens zero i q s u e = nothing_some u e
  firm_opens (suc n) i q s u e = exchange_stays p (firmly p n) i q s u e

  have_values : (n : ℕ) → HaveValues p n
  have_values zero f vs s t v heap e = nothing_some v e
  have_values (suc n) f vs s t v heap e =
      let k = found p (firmly p n) f vs s v e in
      let begun = add_stays p (firmly p n) full (precondition_of k.g) (bare (bind k.g.parameters vs) s.heap) k.steps.start k.steps.starts in
      step (λ g. value p (applications p n) (with_store (bind g.parameters vs) t) g.body) k.g k.named
      ∙ value_of p n (have_values n) (firm_opens n) k.steps.start (with_store (bind k.g.parameters vs) t) (record { store = sym begun.store; heap = heap ∙ sym begun.heap }) k.g.body v (now f k.g k.named) k.steps.fits

  no_smaller : (n : ℕ) → suc n ≤ zero → ⊥
  no_smaller n le = omega arith

  smaller : (n m : ℕ) → suc n ≤ suc m → n ≤ m
  smaller n m le = omega arith

  more_by : (n m : ℕ) → n ≤ m → (k : ℕ) × (k + n ≡ m)
  more_by n m le = (m - n, omega arith)

  applies_more : (n m : ℕ) → n ≤ m → Allows (firmly p n) (deeper p m) → (f : Name) (vs : List Value) (s : State) (v : Value) → firm_application p (firmly p n) f vs s ≡ Some v → application p m (deeper p m) f vs s ≡ Some v
  applies_more n m le below f vs s v e =
      let k = found p (firmly p n) f vs s v e in
      let callee = with_store (bind k.g.parameters vs) s in
      let begun = add_stays p (firmly p n) full (precondition_of k.g) (bare (bind k.g.parameters vs) s.heap) k.steps.start k.steps.starts in
      let taken = take_more p (firmly p n) (deeper p m) below callee full (precondition_of k.g) s.holdings k.steps.rest k.steps.takes in
      let worth = value_of p n (have_values n) (firm_opens n) k.steps.start callee (record { store = sym begun.store; heap = sym begun.heap }) k.g.body v (now f k.g k.named) k.steps.fits in
      let later = more_by n m le in
      let more = value_more p (applications p n) (applications p (later.0 + n)) (applications_later p later.0 n) callee k.g.body v worth in
      ap side k.named ∙ ap (after k.g) taken ∙ subst (λ (j : ℕ). value p (applications p j) callee k.g.body ≡ Some v) later.1 more
    where
      after : Function → Checked Holdings → Option Value
      after g x = elim x as (λ _. Option Value) [ Ok h ↦ value_by p m (with_store (bind g.parameters vs) s) g.body | Err at ↦ None ]

      side : Option Function → Option Value
      side None = None
      side (Some g) = after g (take p (deeper p m) (with_store (bind g.parameters vs) s) full (precondition_of g) s.holdings)

  -- what is allowed firmly is allowed by as much fuel
  pub firm_allows : (n m : ℕ) → n ≤ m → Allows (firmly p n) (deeper p m)
  firm_allows zero m le = record { applied = λ f vs s v e. nothing_some v e; opened = λ i q s u e. nothing_some u e }
  firm_allows (suc n) zero le = absurd (no_smaller n le)
  firm_allows (suc n) (suc m) le =
      let below = firm_allows n m (smaller n m le) in
      record { applied = λ f vs s v e. applies_more n m (smaller n m le) below f vs s v e; opened = λ i q s u e. exchange_more p (firmly p n) (deeper p m) below i q s u e }

pub firm_fits : (p : Program) → SpeakNow p → (s : State) (e : Expr) (v : Value) → FitsFirmly p s e v → Fits p s e v
firm_fits p now s e v (n, h) = (n, λ m le. fit_more p (firmly p n) (deeper p m) (firm_allows p now n m le) s e v h)
