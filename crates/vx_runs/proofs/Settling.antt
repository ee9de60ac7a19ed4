-- A check surely settles: from some fuel on it passes with one result, or it is refused at one place. For more fuel never takes back what
-- less fuel allowed.
use Rattle.std.proofs.Common.{◌≡◌, ◌≤◌, ℕ, Bool, true, false, cond, ◌⊎◌, inl, inr, List, ◌∷◌, Option, Some, None, refl, ap}
use Rattle.std.specs.Prelude.{Ok, Err}
use Rattle.vx_ast.specs.declared.Place.{Place}
use Rattle.vx_frac.specs.Fractions.{Fraction, none, is_positive, at_most}
use Rattle.vx_ast.specs.Syntax.{Name, Program, Connective, Expr, Exprs, Number, Truth, Null, Part, Variable, Not, Operate, Divide, Connect, Choose, Read, Old, Apply, Unfolding, NoMore, More, Assertion, Pure, Points, Both, Implied, Chosen, place_of}
use Rattle.vx_ast.specs.Syntax as syntax
use Rattle.vx_meaning.specs.Values.{Value, IntValue, BoolValue, RefValue, PermValue, is_true, negated, operated, divided, needs_right, without_right}
use Rattle.vx_meaning.specs.States.{State, Holdings, Instance, Resource, At, Folded, lookup, at_old}
use Rattle.vx_meaning.specs.Fits.{Checked, ◌>>=◌, or_fail, guard, placed, choose, connected, location_of, amount_of, readable, has_instance, Deeper, deeper, fit, fit_all, field_part, instance_part, take, take_part, take_by, Eventually}
use Rattle.vx_sound_funcs.proofs.Grows.{deeper_upto}
use Rattle.vx_runs.proofs.Surely.{Surely, surely, surely_then, surely_map, surely_either}
use Rattle.vx_runs.proofs.Rising.{Refuses, after_ok, after_err}

abbrev pub Settles : {A : Type 0} → (ℕ → Checked A) → Type 0
Settles {A = A} c = Surely (((a : A) × Eventually (λ n. c n ≡ Ok a)) ⊎ Refuses c)

pub settles_always : {A : Type 0} (x : Checked A) → Settles (λ n. x)
settles_always (Ok a) = surely (inl (a, (0, λ n le. refl)))
settles_always (Err at) = surely (inr (at, (0, λ n le. refl)))

pub settles_then : {A B : Type 0} (c : ℕ → Checked A) (f : ℕ → A → Checked B) → Settles c → ((a : A) → Settles (λ n. f n a)) → Settles (λ n. c n >>= f n)
settles_then {A = A} {B = B} c f h k = surely_then h first
  where
    last : (a : A) → Eventually (λ n. c n ≡ Ok a) → ((b : B) × Eventually (λ n. f n a ≡ Ok b)) ⊎ Refuses (λ n. f n a) → ((b : B) × Eventually (λ n. (c n >>= f n) ≡ Ok b)) ⊎ Refuses (λ n. c n >>= f n)
    last a e (inl (b, x)) = inl (b, after_ok c f a (Ok b) e x)
    last a e (inr (at, x)) = inr (at, after_ok c f a (Err at) e x)

    first : ((a : A) × Eventually (λ n. c n ≡ Ok a)) ⊎ Refuses c → Settles (λ n. c n >>= f n)
    first (inl (a, e)) = surely_map (k a) (last a e)
    first (inr (at, e)) = surely (inr (at, after_err c f at e))

-- what more fuel keeps
abbrev pub Grows : {A : Type 0} → (ℕ → Option A) → Type 0
Grows {A = A} o = (n m : ℕ) → n ≤ m → (a : A) → o n ≡ Some a → o m ≡ Some a

pub settles_option : {A : Type 0} (at : Place) (o : ℕ → Option A) → Grows o → Settles (λ n. or_fail at (o n))
settles_option {A = A} at o grows = surely_map (surely_either ((n : ℕ) × (a : A) × (o n ≡ Some a))) go
  where
    none_of : (x : Option A) → ((a : A) → x ≡ Some a → ⊥) → x ≡ None
    none_of None h = refl
    none_of (Some a) h = absurd (h a refl)

    go : ((n : ℕ) × (a : A) × (o n ≡ Some a)) ⊎ (((n : ℕ) × (a : A) × (o n ≡ Some a)) → ⊥) → ((a : A) × Eventually (λ n. or_fail at (o n) ≡ Ok a)) ⊎ Refuses (λ n. or_fail at (o n))
    go (inl (n, a, e)) = inl (a, (n, λ m le. ap (or_fail at) (grows n m le a e)))
    go (inr never) = inr (at, (0, λ n le. ap (or_fail at) (none_of (o n) (λ a e. never (n, a, e)))))

pub settles_placed : {A : Type 0} (at : Place) (c : ℕ → Checked A) → Settles c → Settles (λ n. placed at (c n))
settles_placed {A = A} at c h = surely_map h go
  where
    go : ((a : A) × Eventually (λ n. c n ≡ Ok a)) ⊎ Refuses c → ((a : A) × Eventually (λ n. placed at (c n) ≡ Ok a)) ⊎ Refuses (λ n. placed at (c n))
    go (inl (a, x)) = inl (a, (x.0, λ n le. ap (placed at) (x.1 n le)))
    go (inr (other, x)) = inr (at, (x.0, λ n le. ap (placed at) (x.1 n le)))

settles_chosen : {A : Type 0} (at : Place) (v : Value) (x y : ℕ → Checked A) → Settles x → Settles y → Settles (λ n. choose at v (x n) (y n))
settles_chosen at (BoolValue true) x y h k = h
settles_chosen at (BoolValue false) x y h k = k
settles_chosen at (IntValue z) x y h k = settles_always (Err at)
settles_chosen at (RefValue r) x y h k = settles_always (Err at)
settles_chosen at (PermValue q) x y h k = settles_always (Err at)

settles_connected : (at : Place) (c : Connective) (v : Value) (x : ℕ → Checked Value) → Settles x → Settles (λ n. connected at c v (x n))
settles_connected at c (BoolValue a) x h = go (needs_right c a)
  where
    go : (b : Bool) → Settles (λ n. cond b (x n) (Ok (BoolValue (without_right c))))
    go true = h
    go false = settles_always (Ok (BoolValue (without_right c)))
settles_connected at c (IntValue z) x h = settles_always (Err at)
settles_connected at c (RefValue r) x h = settles_always (Err at)
settles_connected at c (PermValue q) x h = settles_always (Err at)

module _ (p : Program) where
  applied_grows : (f : Name) (vs : List Value) (s : State) → Grows (λ n. let d : Deeper = deeper p n in d.applied f vs s)
  applied_grows f vs s n m le v e = let k = deeper_upto p n m le in k.applied f vs s v e

  opened_grows : (i : Instance) (q : Fraction) (s : State) → Grows (λ n. let d : Deeper = deeper p n in d.opened i q s)
  opened_grows i q s n m le u e = let k = deeper_upto p n m le in k.opened i q s u e

  mutual
    pub fit_settles : (s : State) (e : Expr) → Settles (λ n. fit p (deeper p n) s e)
    fit_settles s (Number at n) = settles_always (Ok _)
    fit_settles s (Truth at b) = settles_always (Ok _)
    fit_settles s (Null at) = settles_always (Ok _)
    fit_settles s (Part at n m) = settles_always (Ok _)
    fit_settles s (Variable at x) = settles_always (or_fail at (lookup x s.store))
    fit_settles s (Not at a) = settles_then (λ n. fit p (deeper p n) s a) (λ n v. or_fail at (negated v)) (fit_settles s a) (λ v. settles_always (or_fail at (negated v)))
    fit_settles s (Operate at op a b) =
        settles_then (λ n. fit p (deeper p n) s a) (λ n v. fit p (deeper p n) s b >>= λ w. or_fail at (operated op v w)) (fit_settles s a)
        (λ v. settles_then (λ n. fit p (deeper p n) s b) (λ n w. or_fail at (operated op v w)) (fit_settles s b) (λ w. settles_always (or_fail at (operated op v w))))
    fit_settles s (Divide at op a b) =
        settles_then (λ n. fit p (deeper p n) s a) (λ n v. fit p (deeper p n) s b >>= λ w. or_fail at (divided op v w)) (fit_settles s a)
        (λ v. settles_then (λ n. fit p (deeper p n) s b) (λ n w. or_fail at (divided op v w)) (fit_settles s b) (λ w. settles_always (or_fail at (divided op v w))))
    fit_settles s (Connect at c a b) =
        settles_then (λ n. fit p (deeper p n) s a) (λ n v. connected at c v (fit p (deeper p n) s b)) (fit_settles s a) (λ v. settles_connected at c v (λ n. fit p (deeper p n) s b) (fit_settles s b))
    fit_settles s (Choose at c a b) =
        settles_then (λ n. fit p (deeper p n) s c) (λ n v. choose at v (fit p (deeper p n) s a) (fit p (deeper p n) s b)) (fit_settles s c)
        (λ v. settles_chosen at v (λ n. fit p (deeper p n) s a) (λ n. fit p (deeper p n) s b) (fit_settles s a) (fit_settles s b))
    fit_settles s (Read at a f) =
        settles_then (λ n. fit p (deeper p n) s a) (λ n r. or_fail at (location_of f r) >>= λ l. or_fail at (readable p s l)) (fit_settles s a) (λ r. settles_always (or_fail at (location_of f r) >>= λ l. or_fail at (readable p s l)))
    fit_settles s (Old at a) = fit_settles (at_old s) a
    fit_settles s (Apply at f es) =
        settles_then (λ n. fit_all p (deeper p n) s es) (λ n vs. let d : Deeper = deeper p n in or_fail at (d.applied f vs s)) (all_settle s es)
        (λ vs. settles_option at (λ n. let d : Deeper = deeper p n in d.applied f vs s) (applied_grows f vs s))
    fit_settles s (Unfolding at i es share a) =
        let inst = λ (vs : List Value). let k : Instance = record { predicate = i; arguments = vs } in k in
        let opening = λ (n : ℕ) (q : Fraction) (vs : List Value). let d : Deeper = deeper p n in or_fail at (d.opened (inst vs) q s) >>= λ t. fit p (deeper p n) t a in
        let held = λ (n : ℕ) (q : Fraction) (vs : List Value). guard at (has_instance s (inst vs) q) >>= λ _. opening n q vs in
        let arguments = λ (n : ℕ) (q : Fraction). guard at (is_positive q) >>= λ _. fit_all p (deeper p n) s es >>= held n q in
        settles_then (λ n. fit p (deeper p n) s share) (λ n v. or_fail at (amount_of v) >>= arguments n) (fit_settles s share)
        (λ v. settles_then (λ n. or_fail at (amount_of v)) arguments (settles_always (or_fail at (amount_of v)))
        (λ q. settles_then (λ n. guard at (is_positive q)) (λ n _. fit_all p (deeper p n) s es >>= held n q) (settles_always (guard at (is_positive q)))
        (λ _. settles_then (λ n. fit_all p (deeper p n) s es) (λ n. held n q) (all_settle s es)
        (λ vs. settles_then (λ n. guard at (has_instance s (inst vs) q)) (λ n _. opening n q vs) (settles_always (guard at (has_instance s (inst vs) q)))
        (λ _. settles_then (λ n. let d : Deeper = deeper p n in or_fail at (d.opened (inst vs) q s)) (λ n t. fit p (deeper p n) t a)
        (settles_option at (λ n. let d : Deeper = deeper p n in d.opened (inst vs) q s) (opened_grows (inst vs) q s)) (λ t. fit_settles t a))))))

    pub all_settle : (s : State) (es : Exprs) → Settles (λ n. fit_all p (deeper p n) s es)
    all_settle s NoMore = settles_always (Ok _)
    all_settle s (More a es) =
        settles_then (λ n. fit p (deeper p n) s a) (λ n v. fit_all p (deeper p n) s es >>= λ vs. Ok (v ∷ vs)) (fit_settles s a)
        (λ v. settles_then (λ n. fit_all p (deeper p n) s es) (λ n vs. Ok (v ∷ vs)) (all_settle s es) (λ vs. settles_always (Ok (v ∷ vs))))

  pub field_settles : (s : State) (at : Place) (e : Expr) (f : Name) (share : Expr) → Settles (λ n. field_part p (deeper p n) s at e f share)
  field_settles s at e f share =
      let last = λ (r v : Value). or_fail at (location_of f r) >>= λ l. or_fail at (amount_of v) >>= λ q. guard at (at_most none q) >>= λ _. let part : Resource × Fraction = (At l, q) in Ok part in
      settles_then (λ n. fit p (deeper p n) s e) (λ n r. fit p (deeper p n) s share >>= λ v. last r v) (fit_settles s e)
      (λ r. settles_then (λ n. fit p (deeper p n) s share) (λ n v. last r v) (fit_settles s share) (λ v. settles_always (last r v)))

  pub instance_settles : (s : State) (at : Place) (i : Name) (es : Exprs) (share : Expr) → Settles (λ n. instance_part p (deeper p n) s at i es share)
  instance_settles s at i es share =
      let last = λ (vs : List Value) (v : Value). or_fail at (amount_of v) >>= λ q. guard at (at_most none q) >>= λ _. let part : Resource × Fraction = (Folded record { predicate = i; arguments = vs }, q) in Ok part in
      settles_then (λ n. fit_all p (deeper p n) s es) (λ n vs. fit p (deeper p n) s share >>= λ v. last vs v) (all_settle s es)
      (λ vs. settles_then (λ n. fit p (deeper p n) s share) (λ n v. last vs v) (fit_settles s share) (λ v. settles_always (last vs v)))

  pub take_settles : (s : State) (q : Fraction) (a : Assertion) (h : Holdings) → Settles (λ n. take_by p n s q a h)
  take_settles s q (Pure e) h =
      settles_then (λ n. fit p (deeper p n) s e) (λ n v. guard (place_of e) (is_true v) >>= λ _. Ok h) (fit_settles s e) (λ v. settles_always (guard (place_of e) (is_true v) >>= λ _. Ok h))
  take_settles s q (Points at e f share) h =
      settles_then (λ n. field_part p (deeper p n) s at e f share) (λ n. take_part p (deeper p n) s q at h) (field_settles s at e f share) (λ part. settles_always (take_part p (deeper p 0) s q at h part))
  take_settles s q (syntax.Instance at i es share) h =
      settles_then (λ n. instance_part p (deeper p n) s at i es share) (λ n. take_part p (deeper p n) s q at h) (instance_settles s at i es share) (λ part. settles_always (take_part p (deeper p 0) s q at h part))
  take_settles s q (Both a b) h = settles_then (λ n. take p (deeper p n) s q a h) (λ n k. take p (deeper p n) s q b k) (take_settles s q a h) (λ k. take_settles s q b k)
  take_settles s q (Implied c a) h =
      settles_then (λ n. fit p (deeper p n) s c) (λ n v. choose (place_of c) v (take p (deeper p n) s q a h) (Ok h)) (fit_settles s c)
      (λ v. settles_chosen (place_of c) v (λ n. take p (deeper p n) s q a h) (λ n. Ok h) (take_settles s q a h) (settles_always (Ok h)))
  take_settles s q (Chosen c a b) h =
      settles_then (λ n. fit p (deeper p n) s c) (λ n v. choose (place_of c) v (take p (deeper p n) s q a h) (take p (deeper p n) s q b h)) (fit_settles s c)
      (λ v. settles_chosen (place_of c) v (λ n. take p (deeper p n) s q a h) (λ n. take p (deeper p n) s q b h) (take_settles s q a h) (take_settles s q b h))
