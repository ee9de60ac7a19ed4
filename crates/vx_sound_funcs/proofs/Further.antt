-- What fits looks at the variables, at the heap and at what is held, and at nothing else where it has no `old`: further variables and
-- another old part leave it as it is.
use Rattle.std.proofs.Common.{◌≡◌, ℕ, zero, suc, true, false, cond, List, ◌∷◌, Option, Some, None, refl, sym, ◌∙◌, ap, ap₂}
use Rattle.std.specs.Prelude.{◌&&◌, Ok, Err}
use Rattle.vx_frac.specs.Fractions.{Fraction, full, none, is_positive, at_most, product}
use Rattle.vx_ast.specs.declared.Place.{Place}
use Rattle.vx_ast.specs.Syntax.{Name, Program, Predicate, predicate_named, place_of, Expr, Number, Truth, Null, Part, Variable, Not, Operate, Divide, Connect, Choose, Read, Old, Apply, Unfolding, Exprs, NoMore, More, Assertion, Pure, Points, Both, Implied, Chosen}
use Rattle.vx_ast.specs.Syntax as syntax
use Rattle.vx_meaning.specs.Values.{Value, IntValue, BoolValue, RefValue, PermValue, is_true, negated, operated, divided}
use Rattle.vx_meaning.specs.States.{State, Heap, Holdings, Location, Instance, Resource, At, Folded, amount, gained, lost, lookup, bind, value_at, with_store, with_holdings}
use Rattle.vx_meaning.specs.Fits.{Checked, ◌>>=◌, or_fail, guard, to_option, Deeper, choose, connected, location_of, amount_of, readable, has_instance, fit, fit_all, field_part, instance_part, take, take_part, add, add_part, exchange}
use Rattle.vx_types.specs.Now.{IsOfNow, AreOfNow, SaysNow}
use Rattle.vx_sound_preds.specs.Bodies.{Rigid, IsPlain, ArePlain, IsPlainBody, GoodBodies}
use Rattle.vx_sound_preds.proofs.Fitting.{undo, not_failed}
use Rattle.vx_sound_preds.proofs.Framing.{ok_same}
use Rattle.vx_sound_funcs.specs.Told.{precondition_of}
use Rattle.vx_sound_funcs.specs.Firm.{start_of, firm_application, firmly, GoodFunctions}
use Rattle.vx_sound_funcs.proofs.Firm.{asking_now}
use Rattle.vx_sound_funcs.proofs.Fits.{next, or_more, connected_more, chosen_more}
use Rattle.vx_sound_funcs.proofs.Steps.{nothing_some, some_of, found, allowed}

-- t has the variables of s and perhaps more, over the same heap, and holds the same
pub record Further (s t : State) : Type 0 where
  pub variables : (x : Name) (v : Value) → lookup x s.store ≡ Some v → lookup x t.store ≡ Some v
  pub heap : t.heap ≡ s.heap
  pub holdings : t.holdings ≡ s.holdings

-- What is plain has no `old`

mutual
  plain_now : (e : Expr) → IsPlain e → IsOfNow e
  plain_now (Number at n) k = tt
  plain_now (Truth at b) k = tt
  plain_now (Null at) k = tt
  plain_now (Part at n m) k = tt
  plain_now (Variable at x) k = tt
  plain_now (Not at e) k = plain_now e k
  plain_now (Operate at op a b) k = (plain_now a k.0, plain_now b k.1)
  plain_now (Divide at op a b) k = (plain_now a k.0, plain_now b k.1)
  plain_now (Connect at c a b) k = (plain_now a k.0, plain_now b k.1)
  plain_now (Choose at c a b) k = (plain_now c k.0, plain_now a k.1, plain_now b k.2)
  plain_now (Read at e f) k = plain_now e k
  plain_now (Old at e) k = k
  plain_now (Apply at f es) k = absurd k
  plain_now (Unfolding at i es share e) k = (all_plain_now es k.0, plain_now share k.1, plain_now e k.2)

  all_plain_now : (es : Exprs) → ArePlain es → AreOfNow es
  all_plain_now NoMore k = tt
  all_plain_now (More e es) k = (plain_now e k.0, all_plain_now es k.1)

pub body_now : (p : Program) (a : Assertion) → IsPlainBody p Rigid a → SaysNow a
body_now p (Pure e) k = plain_now e k
body_now p (Points at e f share) k = (plain_now e k.0, plain_now share k.1.plain)
body_now p (syntax.Instance at i es share) k = (all_plain_now es k.0, plain_now share k.1.plain)
body_now p (Both a b) k = (body_now p a k.0, body_now p b k.1)
body_now p (Implied c a) k = (plain_now c k.0, body_now p a k.1)
body_now p (Chosen c a b) k = (plain_now c k.0, body_now p a k.1, body_now p b k.2)

readable_same : (p : Program) (s t : State) (l : Location) → Further s t → readable p s l ≡ readable p t l
readable_same p s t l f = ap₂ (λ (h : Heap) (hs : Holdings). cond (is_positive (amount hs (At l))) (Some (value_at p h l)) None) (sym f.heap) (sym f.holdings)

held_same : (s t : State) (i : Instance) (q : Fraction) → Further s t → has_instance t i q ≡ has_instance s i q
held_same s t i q f = ap (λ (hs : Holdings). is_positive q && at_most q (amount hs (Folded i))) f.holdings

-- applications and exchanges that look at no more
record Looks (d : Deeper) : Type 0 where
  applied : (f : Name) (vs : List Value) (s t : State) (v : Value) → Further s t → d.applied f vs s ≡ Some v → d.applied f vs t ≡ Some v
  opened : (i : Instance) (q : Fraction) (s t u : State) → Further s t → d.opened i q s ≡ Some u → (w : State) × (d.opened i q t ≡ Some w) × Further u w

-- what is added in the one state is added in the other
pub record AddsToo (p : Program) (d : Deeper) (q : Fraction) (a : Assertion) (t u : State) : Type 0 where
  pub after : State
  pub adds : add p d q a t ≡ Ok after
  pub further : Further u after

failed : {A R : Type 0} (at : Place) (a : A) → ◌≡◌ {A = Checked A} (Err at) (Ok a) → R
failed at a e = cc

module _ (p : Program) (d : Deeper) (looks : Looks d) where
  mutual
    fit_further : (s t : State) → Further s t → (e : Expr) (v : Value) → IsOfNow e → fit p d s e ≡ Ok v → fit p d t e ≡ Ok v
    fit_further s t f (Number at n) v k e = e
    fit_further s t f (Truth at b) v k e = e
    fit_further s t f (Null at) v k e = e
    fit_further s t f (Part at n m) v k e = e
    fit_further s t f (Variable at x) v k e = or_more at (lookup x s.store) (lookup x t.store) v (f.variables x v) e
    fit_further s t f (Not at a) v k e =
        let x = undo (fit p d s a) (λ v. or_fail at (negated v)) v e in
        next (λ v. or_fail at (negated v)) x.it (fit_further s t f a x.it k x.is) ∙ x.then
    fit_further s t f (Operate at op a b) v k e =
        let x = undo (fit p d s a) (λ v. fit p d s b >>= λ w. or_fail at (operated op v w)) v e in
        let y = undo (fit p d s b) (λ w. or_fail at (operated op x.it w)) v x.then in
        next (λ v. fit p d t b >>= λ w. or_fail at (operated op v w)) x.it (fit_further s t f a x.it k.0 x.is) ∙ next (λ w. or_fail at (operated op x.it w)) y.it (fit_further s t f b y.it k.1 y.is) ∙ y.then
    fit_further s t f (Divide at op a b) v k e =
        let x = undo (fit p d s a) (λ v. fit p d s b >>= λ w. or_fail at (divided op v w)) v e in
        let y = undo (fit p d s b) (λ w. or_fail at (divided op x.it w)) v x.then in
        next (λ v. fit p d t b >>= λ w. or_fail at (divided op v w)) x.it (fit_further s t f a x.it k.0 x.is) ∙ next (λ w. or_fail at (divided op x.it w)) y.it (fit_further s t f b y.it k.1 y.is) ∙ y.then
    fit_further s t f (Connect at c a b) v k e =
        let x = undo (fit p d s a) (λ v. connected at c v (fit p d s b)) v e in
        next (λ v. connected at c v (fit p d t b)) x.it (fit_further s t f a x.it k.0 x.is) ∙ connected_more at c x.it (fit p d s b) (fit p d t b) v (fit_further s t f b v k.1) x.then
    fit_further s t f (Choose at c a b) v k e =
        let x = undo (fit p d s c) (λ v. choose at v (fit p d s a) (fit p d s b)) v e in
        next (λ v. choose at v (fit p d t a) (fit p d t b)) x.it (fit_further s t f c x.it k.0 x.is)
        ∙ chosen_more at x.it (fit p d s a) (fit p d s b) (fit p d t a) (fit p d t b) v (fit_further s t f a v k.1) (fit_further s t f b v k.2) x.then
    fit_further s t f (Read at a g) v k e =
        let x = undo (fit p d s a) (λ r. or_fail at (location_of g r) >>= λ l. or_fail at (readable p s l)) v e in
        let y = undo (or_fail at (location_of g x.it)) (λ l. or_fail at (readable p s l)) v x.then in
        next (λ r. or_fail at (location_of g r) >>= λ l. or_fail at (readable p t l)) x.it (fit_further s t f a x.it k x.is) ∙ next (λ l. or_fail at (readable p t l)) y.it y.is ∙ ap (or_fail at) (sym (readable_same p s t y.it f)) ∙ y.then
    fit_further s t f (Old at a) v k e = absurd k
    fit_further s t f (Apply at g es) v k e =
        let x = undo (fit_all p d s es) (λ vs. or_fail at (d.applied g vs s)) v e in
        next (λ vs. or_fail at (d.applied g vs t)) x.it (fit_all_further s t f es x.it k x.is) ∙ or_more at (d.applied g x.it s) (d.applied g x.it t) v (looks.applied g x.it s t v f) x.then
    fit_further s t f (Unfolding at i es share a) v k e =
        let inst = λ (vs : List Value). let j : Instance = record { predicate = i; arguments = vs } in j in
        let last = λ (u : State). fit p d u a in
        let opening = λ (s : State) (q : Fraction) (vs : List Value). guard at (has_instance s (inst vs) q) >>= λ _. or_fail at (d.opened (inst vs) q s) >>= last in
        let arguments = λ (s : State) (q : Fraction). guard at (is_positive q) >>= λ _. fit_all p d s es >>= opening s q in
        let amounts = λ (s : State) (v : Value). or_fail at (amount_of v) >>= arguments s in
        let x = undo (fit p d s share) (amounts s) v e in
        let y = undo (or_fail at (amount_of x.it)) (arguments s) v x.then in
        let z = undo (guard at (is_positive y.it)) (λ _. fit_all p d s es >>= opening s y.it) v y.then in
        let w = undo (fit_all p d s es) (opening s y.it) v z.then in
        let b = undo (guard at (has_instance s (inst w.it) y.it)) (λ _. or_fail at (d.opened (inst w.it) y.it s) >>= last) v w.then in
        let u = undo (or_fail at (d.opened (inst w.it) y.it s)) last v b.then in
        let o = looks.opened (inst w.it) y.it s t u.it f (not_failed at (d.opened (inst w.it) y.it s) u.it u.is) in
        next (amounts t) x.it (fit_further s t f share x.it k.1 x.is) ∙ next (arguments t) y.it y.is ∙ next (λ _. fit_all p d t es >>= opening t y.it) z.it z.is
        ∙ next (opening t y.it) w.it (fit_all_further s t f es w.it k.0 w.is)
        ∙ next (λ _. or_fail at (d.opened (inst w.it) y.it t) >>= last) b.it (ap (guard at) (held_same s t (inst w.it) y.it f) ∙ b.is)
        ∙ next last o.0 (ap (or_fail at) o.1) ∙ fit_further u.it o.0 o.2 a v k.2 u.then

    fit_all_further : (s t : State) → Further s t → (es : Exprs) (vs : List Value) → AreOfNow es → fit_all p d s es ≡ Ok vs → fit_all p d t es ≡ Ok vs
    fit_all_further s t f NoMore vs k e = e
    fit_all_further s t f (More a es) vs k e =
        let x = undo (fit p d s a) (λ v. fit_all p d s es >>= λ vs. Ok (v ∷ vs)) vs e in
        let y = undo (fit_all p d s es) (λ vs. Ok (x.it ∷ vs)) vs x.then in
        next (λ v. fit_all p d t es >>= λ vs. Ok (v ∷ vs)) x.it (fit_further s t f a x.it k.0 x.is) ∙ next (λ vs. Ok (x.it ∷ vs)) y.it (fit_all_further s t f es y.it k.1 y.is) ∙ y.then

  field_further : (s t : State) → Further s t → (at : Place) (e : Expr) (g : Name) (share : Expr) (part : Resource × Fraction) → IsOfNow e → IsOfNow share → field_part p d s at e g share ≡ Ok part → field_part p d t at e g share ≡ Ok part
  field_further s t f at e g share part k l eq =
      let rest = λ (r v : Value). or_fail at (location_of g r) >>= λ l. or_fail at (amount_of v) >>= λ q. guard at (at_most none q) >>= λ _. Ok (At l, q) in
      let x = undo (fit p d s e) (λ r. fit p d s share >>= rest r) part eq in
      let y = undo (fit p d s share) (rest x.it) part x.then in
      next (λ r. fit p d t share >>= rest r) x.it (fit_further s t f e x.it k x.is) ∙ next (rest x.it) y.it (fit_further s t f share y.it l y.is) ∙ y.then

  instance_further : (s t : State) → Further s t → (at : Place) (i : Name) (es : Exprs) (share : Expr) (part : Resource × Fraction) → AreOfNow es → IsOfNow share → instance_part p d s at i es share ≡ Ok part → instance_part p d t at i es share ≡ Ok part
  instance_further s t f at i es share part k l eq =
      let rest = λ (vs : List Value) (v : Value). or_fail at (amount_of v) >>= λ q. guard at (at_most none q) >>= λ _. Ok (Folded record { predicate = i; arguments = vs }, q) in
      let x = undo (fit_all p d s es) (λ vs. fit p d s share >>= rest vs) part eq in
      let y = undo (fit p d s share) (rest x.it) part x.then in
      next (λ vs. fit p d t share >>= rest vs) x.it (fit_all_further s t f es x.it k x.is) ∙ next (rest x.it) y.it (fit_further s t f share y.it l y.is) ∙ y.then

  take_further : (s t : State) → Further s t → (q : Fraction) (a : Assertion) (h left : Holdings) → SaysNow a → take p d s q a h ≡ Ok left → take p d t q a h ≡ Ok left
  take_further s t f q (Pure e) h left k eq =
      let x = undo (fit p d s e) (λ v. guard (place_of e) (is_true v) >>= λ _. Ok h) left eq in
      next (λ v. guard (place_of e) (is_true v) >>= λ _. Ok h) x.it (fit_further s t f e x.it k x.is) ∙ x.then
  take_further s t f q (Points at e g share) h left k eq =
      let x = undo (field_part p d s at e g share) (take_part p d s q at h) left eq in
      next (take_part p d t q at h) x.it (field_further s t f at e g share x.it k.0 k.1 x.is) ∙ x.then
  take_further s t f q (syntax.Instance at i es share) h left k eq =
      let x = undo (instance_part p d s at i es share) (take_part p d s q at h) left eq in
      next (take_part p d t q at h) x.it (instance_further s t f at i es share x.it k.0 k.1 x.is) ∙ x.then
  take_further s t f q (Both a b) h left k eq =
      let x = undo (take p d s q a h) (λ r. take p d s q b r) left eq in
      next (λ r. take p d t q b r) x.it (take_further s t f q a h x.it k.0 x.is) ∙ take_further s t f q b x.it left k.1 x.then
  take_further s t f q (Implied c a) h left k eq =
      let x = undo (fit p d s c) (λ v. choose (place_of c) v (take p d s q a h) (Ok h)) left eq in
      next (λ v. choose (place_of c) v (take p d t q a h) (Ok h)) x.it (fit_further s t f c x.it k.0 x.is)
      ∙ chosen_more (place_of c) x.it (take p d s q a h) (Ok h) (take p d t q a h) (Ok h) left (take_further s t f q a h left k.1) (λ e. e) x.then
  take_further s t f q (Chosen c a b) h left k eq =
      let x = undo (fit p d s c) (λ v. choose (place_of c) v (take p d s q a h) (take p d s q b h)) left eq in
      next (λ v. choose (place_of c) v (take p d t q a h) (take p d t q b h)) x.it (fit_further s t f c x.it k.0 x.is)
      ∙ chosen_more (place_of c) x.it (take p d s q a h) (take p d s q b h) (take p d t q a h) (take p d t q b h) left (take_further s t f q a h left k.1) (take_further s t f q b h left k.2) x.then

  same_too : (s t u : State) → Further s t → s ≡ u → Further u t
  same_too s t u f is = record { variables = λ x v l. f.variables x v (ap (λ (u : State). lookup x u.store) is ∙ l); heap = f.heap ∙ ap (λ (u : State). u.heap) is; holdings = f.holdings ∙ ap (λ (u : State). u.holdings) is }

  part_too : (s t : State) → Further s t → (q : Fraction) (part : Resource × Fraction) (u : State) → add_part p d q s part ≡ Ok u → Further u (with_holdings (gained part.0 (product q part.1) t.holdings) t)
  part_too s t f q part u e =
      same_too (with_holdings (gained part.0 (product q part.1) s.holdings) s) (with_holdings (gained part.0 (product q part.1) t.holdings) t) u
      (record { variables = f.variables; heap = f.heap; holdings = ap (gained part.0 (product q part.1)) f.holdings }) (ok_same (with_holdings (gained part.0 (product q part.1) s.holdings) s) u e)

  either_adds : (at : Place) (v : Value) (x y z w : Checked State) (u : State) → (x ≡ Ok u → (r : State) × (z ≡ Ok r) × Further u r) → (y ≡ Ok u → (r : State) × (w ≡ Ok r) × Further u r) → choose at v x y ≡ Ok u → (r : State) × (choose at v z w ≡ Ok r) × Further u r
  either_adds at (BoolValue true) x y z w u h k e = h e
  either_adds at (BoolValue false) x y z w u h k e = k e
  either_adds at (IntValue n) x y z w u h k e = failed at u e
  either_adds at (RefValue r) x y z w u h k e = failed at u e
  either_adds at (PermValue a) x y z w u h k e = failed at u e

  add_further : (s t : State) → Further s t → (q : Fraction) (a : Assertion) (u : State) → SaysNow a → add p d q a s ≡ Ok u → AddsToo p d q a t u
  add_further s t f q (Pure e) u k eq =
      let x = undo (fit p d s e) (λ _. Ok s) u eq in
      record { after = t; adds = next (λ _. Ok t) x.it (fit_further s t f e x.it k x.is); further = same_too s t u f (ok_same s u x.then) }
  add_further s t f q (Points at e g share) u k eq =
      let x = undo (field_part p d s at e g share) (add_part p d q s) u eq in
      record { after = with_holdings (gained x.it.0 (product q x.it.1) t.holdings) t; adds = next (add_part p d q t) x.it (field_further s t f at e g share x.it k.0 k.1 x.is); further = part_too s t f q x.it u x.then }
  add_further s t f q (syntax.Instance at i es share) u k eq =
      let x = undo (instance_part p d s at i es share) (add_part p d q s) u eq in
      record { after = with_holdings (gained x.it.0 (product q x.it.1) t.holdings) t; adds = next (add_part p d q t) x.it (instance_further s t f at i es share x.it k.0 k.1 x.is); further = part_too s t f q x.it u x.then }
  add_further s t f q (Both a b) u k eq =
      let x = undo (add p d q a s) (λ r. add p d q b r) u eq in
      let one = add_further s t f q a x.it k.0 x.is in
      let two = add_further x.it one.after one.further q b u k.1 x.then in
      record { after = two.after; adds = next (λ r. add p d q b r) one.after one.adds ∙ two.adds; further = two.further }
  add_further s t f q (Implied c a) u k eq =
      let x = undo (fit p d s c) (λ v. choose (place_of c) v (add p d q a s) (Ok s)) u eq in
      let r = either_adds (place_of c) x.it (add p d q a s) (Ok s) (add p d q a t) (Ok t) u (λ e. let y = add_further s t f q a u k.1 e in (y.after, y.adds, y.further)) (λ e. (t, refl, same_too s t u f (ok_same s u e))) x.then in
      record { after = r.0; adds = next (λ v. choose (place_of c) v (add p d q a t) (Ok t)) x.it (fit_further s t f c x.it k.0 x.is) ∙ r.1; further = r.2 }
  add_further s t f q (Chosen c a b) u k eq =
      let x = undo (fit p d s c) (λ v. choose (place_of c) v (add p d q a s) (add p d q b s)) u eq in
      let r = either_adds (place_of c) x.it (add p d q a s) (add p d q b s) (add p d q a t) (add p d q b t) u (λ e. let y = add_further s t f q a u k.1 e in (y.after, y.adds, y.further)) (λ e. let y = add_further s t f q b u k.2 e in (y.after, y.adds, y.further)) x.then in
      record { after = r.0; adds = next (λ v. choose (place_of c) v (add p d q a t) (add p d q b t)) x.it (fit_further s t f c x.it k.0 x.is) ∙ r.1; further = r.2 }

  module _ (good : GoodBodies p) where
    exchange_further : (i : Instance) (q : Fraction) (s t u : State) → Further s t → exchange p d i q s ≡ Some u → (w : State) × (exchange p d i q t ≡ Some w) × Further u w
    exchange_further i q s t u f e = by_predicate (predicate_named p i.predicate) refl e
      where
        start : State → Predicate → State
        start r b = with_store (bind b.parameters i.arguments) (with_holdings (lost (Folded i) q r.holdings) r)

        body_added : State → Predicate → Option Assertion → Option State
        body_added r b None = None
        body_added r b (Some a) = to_option (add p d q a (start r b) >>= λ v. Ok (with_store r.store v))

        of_predicate : State → Option Predicate → Option State
        of_predicate r None = None
        of_predicate r (Some b) = body_added r b b.body

        by_body : (b : Predicate) → predicate_named p i.predicate ≡ Some b → (o : Option Assertion) → b.body ≡ o → body_added s b o ≡ Some u → (w : State) × (body_added t b o ≡ Some w) × Further u w
        by_body b named None body e = nothing_some u e
        by_body b named (Some a) body e =
            let x = undo (add p d q a (start s b)) (λ v. Ok (with_store s.store v)) u (some_of _ u e) in
            let between : Further (start s b) (start t b) = record { variables = λ x v l. l; heap = f.heap; holdings = ap (lost (Folded i) q) f.holdings } in
            let y = add_further (start s b) (start t b) between q a x.it (body_now p a (good.plain i.predicate b a named body)) x.is in
            let inside : Further (with_store s.store x.it) (with_store t.store y.after) = record { variables = f.variables; heap = y.further.heap; holdings = y.further.holdings } in
            (with_store t.store y.after, ap to_option (next (λ v. Ok (with_store t.store v)) y.after y.adds), same_too (with_store s.store x.it) (with_store t.store y.after) u inside (ok_same (with_store s.store x.it) u x.then))

        by_predicate : (o : Option Predicate) → predicate_named p i.predicate ≡ o → of_predicate s o ≡ Some u → (w : State) × (of_predicate t o ≡ Some w) × Further u w
        by_predicate None named e = nothing_some u e
        by_predicate (Some b) named e = by_body b named b.body refl e

    applied_further : GoodFunctions p → (f : Name) (vs : List Value) (s t : State) (v : Value) → Further s t → firm_application p d f vs s ≡ Some v → firm_application p d f vs t ≡ Some v
    applied_further functions f vs s t v l e =
        let k = found p d f vs s v e in
        let pre = precondition_of k.g in
        let callee = λ (r : State). with_store (bind k.g.parameters vs) r in
        let inside : Further (callee s) (callee t) = record { variables = λ x v l. l; heap = l.heap; holdings = l.holdings } in
        allowed p d f k.g vs t v k.named record {
          rest = k.steps.rest;
          takes = ap (λ (hs : Holdings). take p d (callee t) full pre hs) l.holdings ∙ take_further (callee s) (callee t) inside full pre s.holdings k.steps.rest (asking_now p pre (functions.asks f k.g k.named)) k.steps.takes;
          start = k.steps.start;
          starts = ap (λ (h : Heap). start_of p d k.g vs h) l.heap ∙ k.steps.starts;
          fits = k.steps.fits;
          keeps = k.steps.keeps;
        }

module _ (p : Program) (good : GoodBodies p) (functions : GoodFunctions p) where
  looks : (n : ℕ) → Looks (firmly p n)
  looks zero = record { applied = λ f vs s t v l e. nothing_some v e; opened = λ i q s t u l e. nothing_some u e }
  looks (suc n) = record {
    applied = λ f vs s t v l e. applied_further p (firmly p n) (looks n) good functions f vs s t v l e;
    opened = λ i q s t u l e. exchange_further p (firmly p n) (looks n) good i q s t u l e;
  }

  -- what fits firmly fits with further variables
  pub firm_further : (n : ℕ) (s t : State) → Further s t → (e : Expr) (v : Value) → IsOfNow e → fit p (firmly p n) s e ≡ Ok v → fit p (firmly p n) t e ≡ Ok v
  firm_further n s t f e v k eq = fit_further p (firmly p n) (looks n) s t f e v k eq

  pub firm_adds : (n : ℕ) (s t : State) → Further s t → (q : Fraction) (a : Assertion) (u : State) → SaysNow a → add p (firmly p n) q a s ≡ Ok u → AddsToo p (firmly p n) q a t u
  firm_adds n s t f q a u k eq = add_further p (firmly p n) (looks n) s t f q a u k eq
