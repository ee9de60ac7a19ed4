-- What fits has its value in every state that agrees where something is held.
use Rattle.std.proofs.Common.{◌≡◌, pos, Bool, true, false, cond, List, [], ◌∷◌, Option, Some, None, refl, sym, ◌∙◌, ap}
use Rattle.std.specs.Prelude.{Ok, Err, option_and_then}
use Rattle.std.proofs.lemmas.Option.{none-some, same_Some}
use Rattle.vx_ast.specs.declared.Place.{Place}
use Rattle.vx_frac.specs.Fractions.{Fraction, is_positive, over}
use Rattle.vx_ast.specs.Syntax.{Name, Program, Connective, Expr, Number, Truth, Null, Part, Variable, Not, Operate, Divide, Connect, Choose, Read, Old, Apply, Unfolding, Exprs, NoMore, More}
use Rattle.vx_meaning.specs.Values.{Value, IntValue, BoolValue, RefValue, PermValue, negated, operated, divided, needs_right, without_right}
use Rattle.vx_meaning.specs.States.{State, Heap, Location, Instance, At, amount, lookup, value_at}
use Rattle.vx_meaning.specs.Evaluate as plain
use Rattle.vx_meaning.specs.Evaluate.{value, values}
use Rattle.vx_meaning.specs.Flatten.{no_applications}
use Rattle.vx_meaning.specs.Consistent.{IsHeld}
use Rattle.vx_meaning.specs.Fits.{Checked, ◌>>=◌, or_fail, guard, Deeper, choose, connected, location_of, amount_of, readable, has_instance, fit, fit_all}
use Rattle.vx_sound.proofs.Chunks.{held_directly}
use Rattle.vx_sound_preds.specs.Bodies.{IsPlain, ArePlain}

-- Undoing checks

pub record Before {A B : Type 0} (x : Checked A) (f : A → Checked B) (b : B) : Type 0 where
  pub it : A
  pub is : x ≡ Ok it
  pub then : f it ≡ Ok b

err_ok : {A : Type 0} (at : Place) (b : A) → ◌≡◌ {A = Checked A} (Err at) (Ok b) → ⊥
err_ok at b e = cc

ok_is : {A : Type 0} (a b : A) → ◌≡◌ {A = Checked A} (Ok a) (Ok b) → a ≡ b
ok_is a b e = cc

pub undo : {A B : Type 0} (x : Checked A) (f : A → Checked B) (b : B) → (x >>= f) ≡ Ok b → Before x f b
undo (Ok a) f b e = record { it = a; is = refl; then = e }
undo (Err at) f b e = absurd (err_ok at b e)

pub not_failed : {A : Type 0} (at : Place) (o : Option A) (a : A) → or_fail at o ≡ Ok a → o ≡ Some a
not_failed at None a e = absurd (err_ok at a e)
not_failed at (Some b) a e = ap Some (ok_is b a e)

pub guarded : (at : Place) (b : Bool) (u : Unit {0}) → guard at b ≡ Ok u → b ≡ true
guarded at true u e = refl
guarded at false u e = absurd (err_ok at u e)

pub step : {A B : Type 0} (f : A → Option B) {o : Option A} (a : A) → o ≡ Some a → option_and_then f o ≡ f a
step f a e = ap (option_and_then f) e

-- The part of a connective or choice that is looked at

right_part : (at : Place) (c : Connective) (v w : Value) (x : Checked Value) (y : Option Value) → ((u : Value) → x ≡ Ok u → y ≡ Some u) → connected at c v x ≡ Ok w → plain.connected c v y ≡ Some w
right_part at c (BoolValue a) w x y h e = go (needs_right c a) e
  where
    go : (n : Bool) → cond n x (Ok (BoolValue (without_right c))) ≡ Ok w → cond n y (Some (BoolValue (without_right c))) ≡ Some w
    go true e = h w e
    go false e = ap Some (ok_is (BoolValue (without_right c)) w e)
right_part at c (IntValue z) w x y h e = absurd (err_ok at w e)
right_part at c (RefValue r) w x y h e = absurd (err_ok at w e)
right_part at c (PermValue q) w x y h e = absurd (err_ok at w e)

pub either_part : {A B : Type 0} (at : Place) (v : Value) (x y : Checked A) (z w : Option B) (a : A) (b : B) → (x ≡ Ok a → z ≡ Some b) → (y ≡ Ok a → w ≡ Some b) → choose at v x y ≡ Ok a → plain.choose v z w ≡ Some b
either_part at (BoolValue true) x y z w a b h k e = h e
either_part at (BoolValue false) x y z w a b h k e = k e
either_part at (IntValue n) x y z w a b h k e = absurd (err_ok at a e)
either_part at (RefValue r) x y z w a b h k e = absurd (err_ok at a e)
either_part at (PermValue q) x y z w a b h k e = absurd (err_ok at a e)

-- States

-- the same variables, and the same value wherever something is held
pub record Agrees (p : Program) (s t : State) : Type 0 where
  pub store : t.store ≡ s.store
  pub heap : (l : Location) → IsHeld p s.heap s.holdings l → value_at p t.heap l ≡ value_at p s.heap l

-- what an exchange keeps: nothing is held after it that wasn't
pub record Keeps (p : Program) (s u : State) : Type 0 where
  pub store : u.store ≡ s.store
  pub heap : u.heap ≡ s.heap
  pub held : (l : Location) → IsHeld p u.heap u.holdings l → IsHeld p s.heap s.holdings l

pub agrees_kept : (p : Program) (s u t : State) → Agrees p s t → Keeps p s u → Agrees p u t
agrees_kept p s u t g k = record {
  store = g.store ∙ sym k.store;
  heap = λ l h. g.heap l (k.held l h) ∙ ap (λ (x : Heap). value_at p x l) (sym k.heap);
}

-- an exchange keeps what is asked of states
abbrev pub Opens : Program → (State → Type 0) → Deeper → Type 0
Opens p P d = (i : Instance) (q : Fraction) (s u : State) → P s → has_instance s i q ≡ true → d.opened i q s ≡ Some u → Keeps p s u × P u

read_here : (p : Program) (s t : State) (f : Name) (r v : Value) (l : Location) → Agrees p s t → location_of f r ≡ Some l → readable p s l ≡ Some v → plain.read p t f r ≡ Some v
read_here p s t f (RefValue r) v l g e h = go l (same_Some _ l e) (is_positive (amount s.holdings (At l))) refl h
  where
    go : (l : Location) → (let m : Location = record { receiver = r; field = f } in m) ≡ l → (b : Bool) → is_positive (amount s.holdings (At l)) ≡ b → cond b (Some (value_at p s.heap l)) None ≡ Some v →
        Some (value_at p t.heap record { receiver = r; field = f }) ≡ Some v
    go l m true sign h = ap (λ (l : Location). Some (value_at p t.heap l)) m ∙ ap Some (g.heap l (held_directly p s.heap s.holdings l (record { holds = sign }))) ∙ h
    go l m false sign h = absurd (none-some v h)
read_here p s t f (IntValue z) v l g e h = absurd (none-some l e)
read_here p s t f (BoolValue z) v l g e h = absurd (none-some l e)
read_here p s t f (PermValue z) v l g e h = absurd (none-some l e)

module _ (p : Program) (P : State → Type 0) (d : Deeper) (opens : Opens p P d) where
  mutual
    pub fit_framed : (s t : State) → P s → Agrees p s t → (e : Expr) (v : Value) → IsPlain e → fit p d s e ≡ Ok v → value p no_applications t e ≡ Some v
    fit_framed s t h g (Number at n) v k e = ap Some (ok_is (IntValue (pos n)) v e)
    fit_framed s t h g (Truth at b) v k e = ap Some (ok_is (BoolValue b) v e)
    fit_framed s t h g (Null at) v k e = ap Some (ok_is (RefValue 0) v e)
    fit_framed s t h g (Part at n m) v k e = ap Some (ok_is (PermValue (over n m)) v e)
    fit_framed s t h g (Variable at x) v k e = ap (lookup x) g.store ∙ not_failed at (lookup x s.store) v e
    fit_framed s t h g (Not at e) v k eq =
        let x = undo (fit p d s e) (λ v. or_fail at (negated v)) v eq in
        step negated x.it (fit_framed s t h g e x.it k x.is) ∙ not_failed at (negated x.it) v x.then
    fit_framed s t h g (Operate at op a b) v k eq =
        let x = undo (fit p d s a) (λ v. fit p d s b >>= λ w. or_fail at (operated op v w)) v eq in
        let y = undo (fit p d s b) (λ w. or_fail at (operated op x.it w)) v x.then in
        step (λ v. option_and_then (λ w. operated op v w) (value p no_applications t b)) x.it (fit_framed s t h g a x.it k.0 x.is)
        ∙ step (λ w. operated op x.it w) y.it (fit_framed s t h g b y.it k.1 y.is)
        ∙ not_failed at (operated op x.it y.it) v y.then
    fit_framed s t h g (Divide at op a b) v k eq =
        let x = undo (fit p d s a) (λ v. fit p d s b >>= λ w. or_fail at (divided op v w)) v eq in
        let y = undo (fit p d s b) (λ w. or_fail at (divided op x.it w)) v x.then in
        step (λ v. option_and_then (λ w. divided op v w) (value p no_applications t b)) x.it (fit_framed s t h g a x.it k.0 x.is)
        ∙ step (λ w. divided op x.it w) y.it (fit_framed s t h g b y.it k.1 y.is)
        ∙ not_failed at (divided op x.it y.it) v y.then
    fit_framed s t h g (Connect at c a b) v k eq =
        let x = undo (fit p d s a) (λ v. connected at c v (fit p d s b)) v eq in
        step (λ v. plain.connected c v (value p no_applications t b)) x.it (fit_framed s t h g a x.it k.0 x.is)
        ∙ right_part at c x.it v (fit p d s b) (value p no_applications t b) (λ u e. fit_framed s t h g b u k.1 e) x.then
    fit_framed s t h g (Choose at c a b) v k eq =
        let x = undo (fit p d s c) (λ v. choose at v (fit p d s a) (fit p d s b)) v eq in
        step (λ v. plain.choose v (value p no_applications t a) (value p no_applications t b)) x.it (fit_framed s t h g c x.it k.0 x.is)
        ∙ either_part at x.it (fit p d s a) (fit p d s b) (value p no_applications t a) (value p no_applications t b) v v (λ e. fit_framed s t h g a v k.1 e) (λ e. fit_framed s t h g b v k.2 e) x.then
    fit_framed s t h g (Read at e f) v k eq =
        let x = undo (fit p d s e) (λ r. or_fail at (location_of f r) >>= λ l. or_fail at (readable p s l)) v eq in
        let y = undo (or_fail at (location_of f x.it)) (λ l. or_fail at (readable p s l)) v x.then in
        step (plain.read p t f) x.it (fit_framed s t h g e x.it k x.is)
        ∙ read_here p s t f x.it v y.it g (not_failed at (location_of f x.it) y.it y.is) (not_failed at (readable p s y.it) v y.then)
    fit_framed s t h g (Old at e) v k eq = absurd k
    fit_framed s t h g (Apply at f es) v k eq = absurd k
    fit_framed s t h g (Unfolding at i es share e) v k eq =
        let inst = λ (vs : List Value). let j : Instance = record { predicate = i; arguments = vs } in j in
        let last = λ (u : State). fit p d u e in
        let opened = λ (q : Fraction) (vs : List Value) (_ : Unit {0}). or_fail at (d.opened (inst vs) q s) >>= last in
        let having = λ (q : Fraction) (vs : List Value). guard at (has_instance s (inst vs) q) >>= opened q vs in
        let x = undo (fit p d s share) (λ v. or_fail at (amount_of v) >>= λ q. guard at (is_positive q) >>= λ _. fit_all p d s es >>= having q) v eq in
        let y = undo (or_fail at (amount_of x.it)) (λ q. guard at (is_positive q) >>= λ _. fit_all p d s es >>= having q) v x.then in
        let z = undo (guard at (is_positive y.it)) (λ _. fit_all p d s es >>= having y.it) v y.then in
        let w = undo (fit_all p d s es) (having y.it) v z.then in
        let a = undo (guard at (has_instance s (inst w.it) y.it)) (opened y.it w.it) v w.then in
        let b = undo (or_fail at (d.opened (inst w.it) y.it s)) last v a.then in
        let r = opens (inst w.it) y.it s b.it h (guarded at (has_instance s (inst w.it) y.it) a.it a.is) (not_failed at (d.opened (inst w.it) y.it s) b.it b.is) in
        fit_framed b.it t r.1 (agrees_kept p s b.it t g r.0) e v k.2 b.then

    pub fit_all_framed : (s t : State) → P s → Agrees p s t → (es : Exprs) (vs : List Value) → ArePlain es → fit_all p d s es ≡ Ok vs → values p no_applications t es ≡ Some vs
    fit_all_framed s t h g NoMore vs k e = ap Some (ok_is [] vs e)
    fit_all_framed s t h g (More e es) vs k eq =
        let x = undo (fit p d s e) (λ v. fit_all p d s es >>= λ vs. Ok (v ∷ vs)) vs eq in
        let y = undo (fit_all p d s es) (λ vs. Ok (x.it ∷ vs)) vs x.then in
        step (λ v. option_and_then (λ vs. Some (v ∷ vs)) (values p no_applications t es)) x.it (fit_framed s t h g e x.it k.0 x.is)
        ∙ step (λ vs. Some (x.it ∷ vs)) y.it (fit_all_framed s t h g es y.it k.1 y.is)
        ∙ ap Some (ok_is (x.it ∷ y.it) vs y.then)
