-- What fits has like values in two states that are alike where something is held.
use Rattle.std.proofs.Common.{◌≡◌, pos, Bool, true, false, cond, List, [], ◌∷◌, Option, Some, None, refl, sym, ◌∙◌, ap, subst}
use Rattle.std.specs.Prelude.{Ok, Err, option_and_then}
use Rattle.std.proofs.lemmas.Option.{same_Some}
use Rattle.vx_ast.specs.declared.Place.{Place}
use Rattle.vx_frac.specs.Fractions.{Fraction, is_positive, over}
use Rattle.vx_ast.specs.Syntax.{Name, Program, Connective, Expr, Number, Truth, Null, Part, Variable, Not, Operate, Divide, Connect, Choose, Read, Old, Apply, Unfolding, Exprs, NoMore, More}
use Rattle.vx_meaning.specs.Values.{Value, IntValue, BoolValue, RefValue, PermValue, negated, operated, divided, needs_right, without_right}
use Rattle.vx_meaning.specs.States.{State, Heap, Location, Instance, At, amount, lookup, value_at}
use Rattle.vx_meaning.specs.Evaluate as plain
use Rattle.vx_meaning.specs.Evaluate.{Applications, value, values}
use Rattle.vx_meaning.specs.Consistent.{IsHeld}
use Rattle.vx_meaning.specs.Fits.{Checked, ◌>>=◌, or_fail, guard, Deeper, choose, connected, location_of, amount_of, readable, has_instance, fit, fit_all}
use Rattle.vx_sound.proofs.Chunks.{held_directly}
use Rattle.vx_sound_preds.proofs.Fitting.{undo, not_failed, guarded, step, Keeps, Opens}
use Rattle.vx_sound_preds.specs.Asking.{Says, AllSay}
use Rattle.vx_sound_funcs.proofs.Likes.{Likes, itself, rewritten, Found, found_itself, negated_like, operated_like, divided_like, AllLike}

-- the same variables, and like values wherever something is held
pub record Matches (p : Program) (s t : State) : Type 0 where
  pub store : t.store ≡ s.store
  pub heap : (l : Location) → IsHeld p s.heap s.holdings l → Likes (value_at p s.heap l) (value_at p t.heap l)

pub matches_kept : (p : Program) (s u t : State) → Matches p s t → Keeps p s u → Matches p u t
matches_kept p s u t m k = record {
  store = m.store ∙ sym k.store;
  heap = λ l h. subst (λ (g : Heap). Likes (value_at p g l) (value_at p t.heap l)) (sym k.heap) (m.heap l (k.held l h));
}

ok_is : {A : Type 0} (a b : A) → ◌≡◌ {A = Checked A} (Ok a) (Ok b) → a ≡ b
ok_is a b e = cc

failed : {R : Type 0} {A : Type 0} (at : Place) (a : A) → ◌≡◌ {A = Checked A} (Err at) (Ok a) → R
failed at a e = cc

-- values that are there, like these
pub record AllFound (o : Option (List Value)) (vs : List Value) : Type 0 where
  pub they : List Value
  pub are : o ≡ Some they
  pub like : AllLike vs they

constant : (x v : Value) → ◌≡◌ {A = Checked Value} (Ok x) (Ok v) → Found (Some x) v
constant x v e = found_itself (Some x) v (ap Some (ok_is x v e))

-- what is computed from a value that is there
through : {o : Option Value} (f : Value → Option Value) (a v : Value) → o ≡ Some a → Found (f a) v → Found (option_and_then f o) v
through f a v e k = record { it = k.it; is = step f a e ∙ k.is; like = k.like }

-- the right part of a connective, where it is needed
right_seen : (at : Place) (c : Connective) (a b v : Value) (x : Checked Value) (y : Option Value) → Likes a b → ((u : Value) → x ≡ Ok u → Found y u) → connected at c a x ≡ Ok v → Found (plain.connected c b y) v
right_seen at c a b v x y (itself (BoolValue l)) k e = go (needs_right c l) e
  where
    go : (n : Bool) → cond n x (Ok (BoolValue (without_right c))) ≡ Ok v → Found (cond n y (Some (BoolValue (without_right c)))) v
    go true e = k v e
    go false e = constant (BoolValue (without_right c)) v e
right_seen at c a b v x y (itself (IntValue l)) k e = failed at v e
right_seen at c a b v x y (itself (RefValue l)) k e = failed at v e
right_seen at c a b v x y (itself (PermValue l)) k e = failed at v e
right_seen at c a b v x y (rewritten l m s) k e = failed at v e

-- the side that a condition picks
either_seen : (at : Place) (a b v : Value) (x x' : Checked Value) (y y' : Option Value) → Likes a b → (x ≡ Ok v → Found y v) → (x' ≡ Ok v → Found y' v) → choose at a x x' ≡ Ok v → Found (plain.choose b y y') v
either_seen at a b v x x' y y' (itself (BoolValue true)) k l e = k e
either_seen at a b v x x' y y' (itself (BoolValue false)) k l e = l e
either_seen at a b v x x' y y' (itself (IntValue n)) k l e = failed at v e
either_seen at a b v x x' y y' (itself (RefValue n)) k l e = failed at v e
either_seen at a b v x x' y y' (itself (PermValue n)) k l e = failed at v e
either_seen at a b v x x' y y' (rewritten m n s) k l e = failed at v e

-- a value that is read
read_seen : (p : Program) (s t : State) (f : Name) (a b v : Value) (l : Location) → Matches p s t → Likes a b → location_of f a ≡ Some l → readable p s l ≡ Some v → Found (plain.read p t f b) v
read_seen p s t f a b v l m (itself (RefValue n)) at e = go l (same_Some here l at) (is_positive (amount s.holdings (At l))) refl e
  where
    here : Location
    here = record { receiver = n; field = f }

    nothing : None ≡ Some v → Found (plain.read p t f (RefValue n)) v
    nothing e = cc

    go : (l : Location) → here ≡ l → (b : Bool) → is_positive (amount s.holdings (At l)) ≡ b → cond b (Some (value_at p s.heap l)) None ≡ Some v → Found (plain.read p t f (RefValue n)) v
    go l e true sign h = record {
      it = value_at p t.heap here;
      is = refl;
      like = subst (λ (x : Value). Likes x (value_at p t.heap here)) (same_Some (value_at p s.heap l) v h)
          (subst (λ (k : Location). Likes (value_at p s.heap l) (value_at p t.heap k)) (sym e) (m.heap l (held_directly p s.heap s.holdings l (record { holds = sign }))));
    }
    go l e false sign h = nothing h
read_seen p s t f a b v l m (itself (IntValue n)) at e = cc
read_seen p s t f a b v l m (itself (BoolValue n)) at e = cc
read_seen p s t f a b v l m (itself (PermValue n)) at e = cc
read_seen p s t f a b v l m (rewritten n k same) at e = cc

-- An expression fits in s, and t matches it.

-- an application that is allowed in s has a like value in t, at like arguments
abbrev pub AppliesAlike : Program → (State → Type 0) → Deeper → Applications → (Name → Exprs → Type 0) → Type 0
AppliesAlike p P d ap May =
    (f : Name) (es : Exprs) → May f es → (vs ws : List Value) (s t : State) (v : Value) → P s → Matches p s t → values p ap t es ≡ Some ws → AllLike vs ws → d.applied f vs s ≡ Some v → Found (ap f ws t) v

module _ (p : Program) (P : State → Type 0) (d : Deeper) (opens : Opens p P d) (ap' : Applications) (May : Name → Exprs → Type 0) (applies : AppliesAlike p P d ap' May) where
  mutual
    pub see : (s t : State) → P s → Matches p s t → (e : Expr) (v : Value) → Says May e → fit p d s e ≡ Ok v → Found (value p ap' t e) v
    see s t h m (Number at n) v k e = constant (IntValue (pos n)) v e
    see s t h m (Truth at b) v k e = constant (BoolValue b) v e
    see s t h m (Null at) v k e = constant (RefValue 0) v e
    see s t h m (Part at n l) v k e = constant (PermValue (over n l)) v e
    see s t h m (Variable at x) v k e = found_itself (lookup x t.store) v (ap (lookup x) m.store ∙ not_failed at (lookup x s.store) v e)
    see s t h m (Not at e) v k eq =
        let x = undo (fit p d s e) (λ v. or_fail at (negated v)) v eq in
        let i = see s t h m e x.it k x.is in
        through negated i.it v i.is (negated_like x.it i.it v i.like (not_failed at (negated x.it) v x.then))
    see s t h m (Operate at op a b) v k eq =
        let x = undo (fit p d s a) (λ v. fit p d s b >>= λ w. or_fail at (operated op v w)) v eq in
        let y = undo (fit p d s b) (λ w. or_fail at (operated op x.it w)) v x.then in
        let i = see s t h m a x.it k.0 x.is in
        let j = see s t h m b y.it k.1 y.is in
        through (λ v. option_and_then (λ w. operated op v w) (value p ap' t b)) i.it v i.is
        (through (λ w. operated op i.it w) j.it v j.is (operated_like op x.it i.it y.it j.it v i.like j.like (not_failed at (operated op x.it y.it) v y.then)))
    see s t h m (Divide at op a b) v k eq =
        let x = undo (fit p d s a) (λ v. fit p d s b >>= λ w. or_fail at (divided op v w)) v eq in
        let y = undo (fit p d s b) (λ w. or_fail at (divided op x.it w)) v x.then in
        let i = see s t h m a x.it k.0 x.is in
        let j = see s t h m b y.it k.1 y.is in
        through (λ v. option_and_then (λ w. divided op v w) (value p ap' t b)) i.it v i.is
        (through (λ w. divided op i.it w) j.it v j.is (divided_like op x.it i.it y.it j.it v i.like j.like (not_failed at (divided op x.it y.it) v y.then)))
    see s t h m (Connect at c a b) v k eq =
        let x = undo (fit p d s a) (λ v. connected at c v (fit p d s b)) v eq in
        let i = see s t h m a x.it k.0 x.is in
        through (λ v. plain.connected c v (value p ap' t b)) i.it v i.is (right_seen at c x.it i.it v (fit p d s b) (value p ap' t b) i.like (λ u e. see s t h m b u k.1 e) x.then)
    see s t h m (Choose at c a b) v k eq =
        let x = undo (fit p d s c) (λ v. choose at v (fit p d s a) (fit p d s b)) v eq in
        let i = see s t h m c x.it k.0 x.is in
        through (λ v. plain.choose v (value p ap' t a) (value p ap' t b)) i.it v i.is
        (either_seen at x.it i.it v (fit p d s a) (fit p d s b) (value p ap' t a) (value p ap' t b) i.like (λ e. see s t h m a v k.1 e) (λ e. see s t h m b v k.2 e) x.then)
    see s t h m (Read at e f) v k eq =
        let x = undo (fit p d s e) (λ r. or_fail at (location_of f r) >>= λ l. or_fail at (readable p s l)) v eq in
        let y = undo (or_fail at (location_of f x.it)) (λ l. or_fail at (readable p s l)) v x.then in
        let i = see s t h m e x.it k x.is in
        through (plain.read p t f) i.it v i.is (read_seen p s t f x.it i.it v y.it m i.like (not_failed at (location_of f x.it) y.it y.is) (not_failed at (readable p s y.it) v y.then))
    see s t h m (Old at e) v k eq = absurd k
    see s t h m (Apply at f es) v k eq =
        let x = undo (fit_all p d s es) (λ vs. or_fail at (d.applied f vs s)) v eq in
        let i = see_all s t h m es x.it k.1 x.is in
        let z = applies f es k.0 x.it i.they s t v h m i.are i.like (not_failed at (d.applied f x.it s) v x.then) in
        record { it = z.it; is = step (λ vs. ap' f vs t) i.they i.are ∙ z.is; like = z.like }
    see s t h m (Unfolding at i es share e) v k eq =
        let inst = λ (vs : List Value). let j : Instance = record { predicate = i; arguments = vs } in j in
        let last = λ (u : State). fit p d u e in
        let opened = λ (q : Fraction) (vs : List Value) (_ : Unit {0}). or_fail at (d.opened (inst vs) q s) >>= last in
        let having = λ (q : Fraction) (vs : List Value). guard at (has_instance s (inst vs) q) >>= opened q vs in
        let x = undo (fit p d s share) (λ v. or_fail at (amount_of v) >>= λ q. guard at (is_positive q) >>= λ _. fit_all p d s es >>= having q) v eq in
        let y = undo (or_fail at (amount_of x.it)) (λ q. guard at (is_positive q) >>= λ _. fit_all p d s es >>= having q) v x.then in
        let z = undo (guard at (is_positive y.it)) (λ _. fit_all p d s es >>= having y.it) v y.then in
        let w = undo (fit_all p d s es) (having y.it) v z.then in
        let a = undo (guard at (has_instance s (inst w.it) y.it)) (opened y.it w.it) v w.then in
        let b = undo (or_fail at (d.opened (inst w.it) y.it s)) last v a.then in
        let o = opens (inst w.it) y.it s b.it h (guarded at (has_instance s (inst w.it) y.it) a.it a.is) (not_failed at (d.opened (inst w.it) y.it s) b.it b.is) in
        see b.it t o.1 (matches_kept p s b.it t m o.0) e v k.2 b.then

    pub see_all : (s t : State) → P s → Matches p s t → (es : Exprs) (vs : List Value) → AllSay May es → fit_all p d s es ≡ Ok vs → AllFound (values p ap' t es) vs
    see_all s t h m NoMore vs k e = record { they = []; are = refl; like = subst (λ (q : List Value). AllLike q []) (ok_is [] vs e) tt }
    see_all s t h m (More e es) vs k eq =
        let x = undo (fit p d s e) (λ v. fit_all p d s es >>= λ vs. Ok (v ∷ vs)) vs eq in
        let y = undo (fit_all p d s es) (λ vs. Ok (x.it ∷ vs)) vs x.then in
        let i = see s t h m e x.it k.0 x.is in
        let j = see_all s t h m es y.it k.1 y.is in
        record {
          they = i.it ∷ j.they;
          are = step (λ v. option_and_then (λ vs. Some (v ∷ vs)) (values p ap' t es)) i.it i.is ∙ step (λ vs. Some (i.it ∷ vs)) j.they j.are;
          like = subst (λ (q : List Value). AllLike q (i.it ∷ j.they)) (ok_is (x.it ∷ y.it) vs y.then) (i.like, j.like);
        }
