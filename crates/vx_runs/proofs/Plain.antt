-- What applies no function settles: an exchange goes through bodies that don't lead back, so it is known after finitely many.
use Rattle.std.proofs.Common.{◌≡◌, ◌+◌, ℕ, Bool, true, false, cond, ◌⊎◌, inl, inr, List, [], ◌∷◌, ◌++◌, Option, Some, None, refl, sym, ◌∙◌, ap, subst}
use Rattle.std.specs.Prelude.{Ok, Err}
use Rattle.vx_ast.specs.declared.Place.{Place}
use Rattle.vx_frac.specs.Fractions.{Fraction, none, is_positive, at_most}
use Rattle.vx_ast.specs.Syntax.{Name, Program, Predicate, predicate_named, function_named, Connective, Expr, Exprs, Number, Truth, Null, Part, Variable, Not, Operate, Divide, Connect, Choose, Read, Old, Apply, Unfolding, NoMore, More, Assertion, Pure, Points, Both, Implied, Chosen, place_of}
use Rattle.vx_ast.specs.Syntax as syntax
use Rattle.vx_ast.specs.Mentions.{mentioned, mentioned_in, mentioned_by, mentions_of}
use Rattle.vx_ast.specs.Apart.{Stands, entered_by, entered_by_body, mentioned_by_body, mentioned_by_predicate, Reaches}
use Rattle.vx_meaning.specs.Values.{Value, IntValue, BoolValue, RefValue, PermValue, negated, operated, divided, needs_right, without_right}
use Rattle.vx_meaning.specs.States.{State, Instance, Resource, At, Folded, bind, lost, lookup, with_store, with_holdings}
use Rattle.vx_meaning.specs.Fits.{Checked, ◌>>=◌, or_fail, guard, to_option, choose, connected, location_of, amount_of, readable, has_instance, Deeper, deeper, fit, fit_all, field_part, instance_part, add, add_part, Eventually}
use Rattle.vx_types.specs.Premises.{IsTypedProgram}
use Rattle.vx_sound_preds.specs.Bodies.{IsPlain, ArePlain, Rigid, IsPlainBody}
use Rattle.vx_sound_preds.proofs.Typed.{on_left, on_right, good_bodies}
use Rattle.vx_runs.proofs.Rising.{Refuses, after_ok, after_err}
use Rattle.vx_runs.proofs.Framed.{Becomes}
use Rattle.vx_runs.proofs.Up.{next_on}
use Rattle.vx_runs.proofs.Lower.{predicates_induce}

-- it passes in the end, or is refused
abbrev pub IsSettled : {A : Type 0} → (ℕ → Checked A) → Type 0
IsSettled {A = A} c = ((a : A) × Eventually (λ n. c n ≡ Ok a)) ⊎ Refuses c

abbrev pub IsKnown : {A : Type 0} → (ℕ → Option A) → Type 0
IsKnown {A = A} o = ((a : A) × Becomes o a) ⊎ Eventually (λ n. o n ≡ None)

pub settled_always : {A : Type 0} (x : Checked A) → IsSettled (λ n. x)
settled_always (Ok a) = inl (a, (0, λ n le. refl))
settled_always (Err at) = inr (at, (0, λ n le. refl))

pub settled_then : {A B : Type 0} (c : ℕ → Checked A) (f : ℕ → A → Checked B) → IsSettled c → ((a : A) → IsSettled (λ n. f n a)) → IsSettled (λ n. c n >>= f n)
settled_then {A = A} {B = B} c f (inr (at, e)) k = inr (at, after_err c f at e)
settled_then {A = A} {B = B} c f (inl (a, e)) k = last (k a)
  where
    last : IsSettled (λ n. f n a) → IsSettled (λ n. c n >>= f n)
    last (inl (b, x)) = inl (b, after_ok c f a (Ok b) e x)
    last (inr (at, x)) = inr (at, after_ok c f a (Err at) e x)

settled_option : {A : Type 0} (at : Place) (o : ℕ → Option A) → IsKnown o → IsSettled (λ n. or_fail at (o n))
settled_option at o (inl (a, e)) = inl (a, (e.0, λ n le. ap (or_fail at) (e.1 n le)))
settled_option at o (inr e) = inr (at, (e.0, λ n le. ap (or_fail at) (e.1 n le)))

pub settled_chosen : {A : Type 0} (at : Place) (v : Value) (x y : ℕ → Checked A) → IsSettled x → IsSettled y → IsSettled (λ n. choose at v (x n) (y n))
settled_chosen at (BoolValue true) x y h k = h
settled_chosen at (BoolValue false) x y h k = k
settled_chosen at (IntValue z) x y h k = settled_always (Err at)
settled_chosen at (RefValue r) x y h k = settled_always (Err at)
settled_chosen at (PermValue q) x y h k = settled_always (Err at)

settled_connected : (at : Place) (c : Connective) (v : Value) (x : ℕ → Checked Value) → IsSettled x → IsSettled (λ n. connected at c v (x n))
settled_connected at c (BoolValue a) x h = go (needs_right c a)
  where
    go : (b : Bool) → IsSettled (λ n. cond b (x n) (Ok (BoolValue (without_right c))))
    go true = h
    go false = settled_always (Ok (BoolValue (without_right c)))
settled_connected at c (IntValue z) x h = settled_always (Err at)
settled_connected at c (RefValue r) x h = settled_always (Err at)
settled_connected at c (PermValue q) x h = settled_always (Err at)

module _ (p : Program) (Lower : Name → Type 0) (opens : (i : Instance) → Lower i.predicate → (q : Fraction) (s : State) → IsKnown (λ n. let d : Deeper = deeper p n in d.opened i q s)) where
  abbrev Only : List Name → Type 0
  Only xs = (x : Name) → Stands x xs → Lower x

  mutual
    pub plain_settled : (s : State) (e : Expr) → IsPlain e → Only (mentioned e) → IsSettled (λ n. fit p (deeper p n) s e)
    plain_settled s (Number at n) k l = settled_always (Ok _)
    plain_settled s (Truth at b) k l = settled_always (Ok _)
    plain_settled s (Null at) k l = settled_always (Ok _)
    plain_settled s (Part at n m) k l = settled_always (Ok _)
    plain_settled s (Variable at x) k l = settled_always (or_fail at (lookup x s.store))
    plain_settled s (Not at a) k l = settled_then (λ n. fit p (deeper p n) s a) (λ n v. or_fail at (negated v)) (plain_settled s a k l) (λ v. settled_always (or_fail at (negated v)))
    plain_settled s (Operate at op a b) k l =
        settled_then (λ n. fit p (deeper p n) s a) (λ n v. fit p (deeper p n) s b >>= λ w. or_fail at (operated op v w)) (plain_settled s a k.0 (λ x t. l x (on_left x (mentioned a) (mentioned b) t)))
        (λ v. settled_then (λ n. fit p (deeper p n) s b) (λ n w. or_fail at (operated op v w)) (plain_settled s b k.1 (λ x t. l x (on_right x (mentioned a) (mentioned b) t))) (λ w. settled_always (or_fail at (operated op v w))))
    plain_settled s (Divide at op a b) k l =
        settled_then (λ n. fit p (deeper p n) s a) (λ n v. fit p (deeper p n) s b >>= λ w. or_fail at (divided op v w)) (plain_settled s a k.0 (λ x t. l x (on_left x (mentioned a) (mentioned b) t)))
        (λ v. settled_then (λ n. fit p (deeper p n) s b) (λ n w. or_fail at (divided op v w)) (plain_settled s b k.1 (λ x t. l x (on_right x (mentioned a) (mentioned b) t))) (λ w. settled_always (or_fail at (divided op v w))))
    plain_settled s (Connect at c a b) k l =
        settled_then (λ n. fit p (deeper p n) s a) (λ n v. connected at c v (fit p (deeper p n) s b)) (plain_settled s a k.0 (λ x t. l x (on_left x (mentioned a) (mentioned b) t)))
        (λ v. settled_connected at c v (λ n. fit p (deeper p n) s b) (plain_settled s b k.1 (λ x t. l x (on_right x (mentioned a) (mentioned b) t))))
    plain_settled s (Choose at c a b) k l =
        settled_then (λ n. fit p (deeper p n) s c) (λ n v. choose at v (fit p (deeper p n) s a) (fit p (deeper p n) s b)) (plain_settled s c k.0 (λ x t. l x (on_left x (mentioned c ++ mentioned a) (mentioned b) (on_left x (mentioned c) (mentioned a) t))))
        (λ v. settled_chosen at v (λ n. fit p (deeper p n) s a) (λ n. fit p (deeper p n) s b) (plain_settled s a k.1 (λ x t. l x (on_left x (mentioned c ++ mentioned a) (mentioned b) (on_right x (mentioned c) (mentioned a) t))))
        (plain_settled s b k.2 (λ x t. l x (on_right x (mentioned c ++ mentioned a) (mentioned b) t))))
    plain_settled s (Read at a f) k l =
        settled_then (λ n. fit p (deeper p n) s a) (λ n r. or_fail at (location_of f r) >>= λ l. or_fail at (readable p s l)) (plain_settled s a k l) (λ r. settled_always (or_fail at (location_of f r) >>= λ l. or_fail at (readable p s l)))
    plain_settled s (Old at a) k l = absurd k
    plain_settled s (Apply at f es) k l = absurd k
    plain_settled s (Unfolding at i es share a) k l =
        let inst = λ (vs : List Value). let k : Instance = record { predicate = i; arguments = vs } in k in
        let opening = λ (n : ℕ) (q : Fraction) (vs : List Value). let d : Deeper = deeper p n in or_fail at (d.opened (inst vs) q s) >>= λ t. fit p (deeper p n) t a in
        let held = λ (n : ℕ) (q : Fraction) (vs : List Value). guard at (has_instance s (inst vs) q) >>= λ _. opening n q vs in
        let arguments = λ (n : ℕ) (q : Fraction). guard at (is_positive q) >>= λ _. fit_all p (deeper p n) s es >>= held n q in
        let inner = λ (x : Name) (t : Stands x (mentioned_in es ++ mentioned share ++ mentioned a)). l x (inr t) in
        settled_then (λ n. fit p (deeper p n) s share) (λ n v. or_fail at (amount_of v) >>= arguments n) (plain_settled s share k.1 (λ x t. inner x (on_left x (mentioned_in es ++ mentioned share) (mentioned a) (on_right x (mentioned_in es) (mentioned share) t))))
        (λ v. settled_then (λ n. or_fail at (amount_of v)) arguments (settled_always (or_fail at (amount_of v)))
        (λ q. settled_then (λ n. guard at (is_positive q)) (λ n _. fit_all p (deeper p n) s es >>= held n q) (settled_always (guard at (is_positive q)))
        (λ _. settled_then (λ n. fit_all p (deeper p n) s es) (λ n. held n q) (all_settled s es k.0 (λ x t. inner x (on_left x (mentioned_in es ++ mentioned share) (mentioned a) (on_left x (mentioned_in es) (mentioned share) t))))
        (λ vs. settled_then (λ n. guard at (has_instance s (inst vs) q)) (λ n _. opening n q vs) (settled_always (guard at (has_instance s (inst vs) q)))
        (λ _. settled_then (λ n. let d : Deeper = deeper p n in or_fail at (d.opened (inst vs) q s)) (λ n t. fit p (deeper p n) t a)
        (settled_option at (λ n. let d : Deeper = deeper p n in d.opened (inst vs) q s) (opens (inst vs) (l i (inl refl)) q s)) (λ t. plain_settled t a k.2 (λ x t. inner x (on_right x (mentioned_in es ++ mentioned share) (mentioned a) t))))))))

    pub all_settled : (s : State) (es : Exprs) → ArePlain es → Only (mentioned_in es) → IsSettled (λ n. fit_all p (deeper p n) s es)
    all_settled s NoMore k l = settled_always (Ok _)
    all_settled s (More a es) k l =
        settled_then (λ n. fit p (deeper p n) s a) (λ n v. fit_all p (deeper p n) s es >>= λ vs. Ok (v ∷ vs)) (plain_settled s a k.0 (λ x t. l x (on_left x (mentioned a) (mentioned_in es) t)))
        (λ v. settled_then (λ n. fit_all p (deeper p n) s es) (λ n vs. Ok (v ∷ vs)) (all_settled s es k.1 (λ x t. l x (on_right x (mentioned a) (mentioned_in es) t))) (λ vs. settled_always (Ok (v ∷ vs))))

  pub field_settled : (s : State) (at : Place) (e : Expr) (f : Name) (share : Expr) → IsPlain e → IsPlain share → Only (mentioned e ++ mentioned share) → IsSettled (λ n. field_part p (deeper p n) s at e f share)
  field_settled s at e f share k j l =
      let last = λ (r v : Value). or_fail at (location_of f r) >>= λ l. or_fail at (amount_of v) >>= λ q. guard at (at_most none q) >>= λ _. let part : Resource × Fraction = (At l, q) in Ok part in
      settled_then (λ n. fit p (deeper p n) s e) (λ n r. fit p (deeper p n) s share >>= λ v. last r v) (plain_settled s e k (λ x t. l x (on_left x (mentioned e) (mentioned share) t)))
      (λ r. settled_then (λ n. fit p (deeper p n) s share) (λ n v. last r v) (plain_settled s share j (λ x t. l x (on_right x (mentioned e) (mentioned share) t))) (λ v. settled_always (last r v)))

  pub instance_settled : (s : State) (at : Place) (i : Name) (es : Exprs) (share : Expr) → ArePlain es → IsPlain share → Only (mentioned_in es ++ mentioned share) → IsSettled (λ n. instance_part p (deeper p n) s at i es share)
  instance_settled s at i es share k j l =
      let last = λ (vs : List Value) (v : Value). or_fail at (amount_of v) >>= λ q. guard at (at_most none q) >>= λ _. let part : Resource × Fraction = (Folded record { predicate = i; arguments = vs }, q) in Ok part in
      settled_then (λ n. fit_all p (deeper p n) s es) (λ n vs. fit p (deeper p n) s share >>= λ v. last vs v) (all_settled s es k (λ x t. l x (on_left x (mentioned_in es) (mentioned share) t)))
      (λ vs. settled_then (λ n. fit p (deeper p n) s share) (λ n v. last vs v) (plain_settled s share j (λ x t. l x (on_right x (mentioned_in es) (mentioned share) t))) (λ v. settled_always (last vs v)))

  pub add_settled : (q : Fraction) (a : Assertion) (s : State) → IsPlainBody p Rigid a → Only (entered_by a) → IsSettled (λ n. add p (deeper p n) q a s)
  add_settled q (Pure e) s k l = settled_then (λ n. fit p (deeper p n) s e) (λ n _. Ok s) (plain_settled s e k l) (λ v. settled_always (Ok s))
  add_settled q (Points at e f share) s k l = settled_then (λ n. field_part p (deeper p n) s at e f share) (λ n. add_part p (deeper p n) q s) (field_settled s at e f share k.0 k.1.plain l) (λ part. settled_always (add_part p (deeper p 0) q s part))
  add_settled q (syntax.Instance at i es share) s k l = settled_then (λ n. instance_part p (deeper p n) s at i es share) (λ n. add_part p (deeper p n) q s) (instance_settled s at i es share k.0 k.1.plain l) (λ part. settled_always (add_part p (deeper p 0) q s part))
  add_settled q (Both a b) s k l =
      settled_then (λ n. add p (deeper p n) q a s) (λ n t. add p (deeper p n) q b t) (add_settled q a s k.0 (λ x t. l x (on_left x (entered_by a) (entered_by b) t))) (λ t. add_settled q b t k.1 (λ x t. l x (on_right x (entered_by a) (entered_by b) t)))
  add_settled q (Implied c a) s k l =
      settled_then (λ n. fit p (deeper p n) s c) (λ n v. choose (place_of c) v (add p (deeper p n) q a s) (Ok s)) (plain_settled s c k.0 (λ x t. l x (on_left x (mentioned c) (entered_by a) t)))
      (λ v. settled_chosen (place_of c) v (λ n. add p (deeper p n) q a s) (λ n. Ok s) (add_settled q a s k.1 (λ x t. l x (on_right x (mentioned c) (entered_by a) t))) (settled_always (Ok s)))
  add_settled q (Chosen c a b) s k l =
      settled_then (λ n. fit p (deeper p n) s c) (λ n v. choose (place_of c) v (add p (deeper p n) q a s) (add p (deeper p n) q b s)) (plain_settled s c k.0 (λ x t. l x (on_left x (mentioned c ++ entered_by a) (entered_by b) (on_left x (mentioned c) (entered_by a) t))))
      (λ v. settled_chosen (place_of c) v (λ n. add p (deeper p n) q a s) (λ n. add p (deeper p n) q b s) (add_settled q a s k.1 (λ x t. l x (on_left x (mentioned c ++ entered_by a) (entered_by b) (on_right x (mentioned c) (entered_by a) t))))
      (add_settled q b s k.2 (λ x t. l x (on_right x (mentioned c ++ entered_by a) (entered_by b) t))))

-- Exchanges

stands_either : (x : Name) (xs ys : List Name) → Stands x (xs ++ ys) → Stands x xs ⊎ Stands x ys
stands_either x [] ys t = inr t
stands_either x (y ∷ xs) ys (inl e) = inl (inl e)
stands_either x (y ∷ xs) ys (inr t) = go (stands_either x xs ys t)
  where
    go : Stands x xs ⊎ Stands x ys → Stands x (y ∷ xs) ⊎ Stands x ys
    go (inl u) = inl (inr u)
    go (inr u) = inr u

-- what is entered is mentioned
entered_mentioned : (x : Name) (a : Assertion) → Stands x (entered_by a) → Stands x (mentioned_by a)
entered_mentioned x (Pure e) t = t
entered_mentioned x (Points at e f share) t = t
entered_mentioned x (syntax.Instance at i es share) t = inr t
entered_mentioned x (Both a b) t = go (entered_mentioned x a) (entered_mentioned x b) (stands_either x (entered_by a) (entered_by b) t)
  where
    go : (Stands x (entered_by a) → Stands x (mentioned_by a)) → (Stands x (entered_by b) → Stands x (mentioned_by b)) → Stands x (entered_by a) ⊎ Stands x (entered_by b) → Stands x (mentioned_by a ++ mentioned_by b)
    go f g (inl u) = on_left x (mentioned_by a) (mentioned_by b) (f u)
    go f g (inr u) = on_right x (mentioned_by a) (mentioned_by b) (g u)
entered_mentioned x (Implied c a) t = go (entered_mentioned x a) (stands_either x (mentioned c) (entered_by a) t)
  where
    go : (Stands x (entered_by a) → Stands x (mentioned_by a)) → Stands x (mentioned c) ⊎ Stands x (entered_by a) → Stands x (mentioned c ++ mentioned_by a)
    go f (inl u) = on_left x (mentioned c) (mentioned_by a) u
    go f (inr u) = on_right x (mentioned c) (mentioned_by a) (f u)
entered_mentioned x (Chosen c a b) t = go (entered_mentioned x a) (entered_mentioned x b) (stands_either x (mentioned c ++ entered_by a) (entered_by b) t)
  where
    go : (Stands x (entered_by a) → Stands x (mentioned_by a)) → (Stands x (entered_by b) → Stands x (mentioned_by b)) → Stands x (mentioned c ++ entered_by a) ⊎ Stands x (entered_by b) → Stands x (mentioned c ++ mentioned_by a ++ mentioned_by b)
    go f g (inr u) = on_right x (mentioned c ++ mentioned_by a) (mentioned_by b) (g u)
    go f g (inl u) = on_left x (mentioned c ++ mentioned_by a) (mentioned_by b) (first f (stands_either x (mentioned c) (entered_by a) u))
      where
        first : (Stands x (entered_by a) → Stands x (mentioned_by a)) → Stands x (mentioned c) ⊎ Stands x (entered_by a) → Stands x (mentioned c ++ mentioned_by a)
        first f (inl v) = on_left x (mentioned c) (mentioned_by a) v
        first f (inr v) = on_right x (mentioned c) (mentioned_by a) (f v)

module _ (p : Program) (typed : IsTypedProgram p) where
  -- exchanges of all instances of a predicate are known in the end
  abbrev Opens : Name → Type 0
  Opens x = (i : Instance) → i.predicate ≡ x → (q : Fraction) (s : State) → IsKnown (λ n. let d : Deeper = deeper p n in d.opened i q s)

  module _ (i : Instance) (q : Fraction) (s : State) where
    -- what an exchange does, by its predicate
    abbrev after_body : ℕ → Predicate → Option Assertion → Option State
    after_body n d None = None
    after_body n d (Some e) = to_option (add p (deeper p n) q e (with_store (bind d.parameters i.arguments) (with_holdings (lost (Folded i) q s.holdings) s)) >>= λ u. Ok (with_store s.store u))

    abbrev after_named : ℕ → Option Predicate → Option State
    after_named n None = None
    after_named n (Some d) = after_body n d d.body

    never_opens : ((n : ℕ) → after_named n (predicate_named p i.predicate) ≡ None) → IsKnown (λ n. let d : Deeper = deeper p n in d.opened i q s)
    never_opens h = inr (next_on (λ n. let d : Deeper = deeper p n in d.opened i q s ≡ None) (0, λ n le. h n))

    unnamed : predicate_named p i.predicate ≡ None → IsKnown (λ n. let d : Deeper = deeper p n in d.opened i q s)
    unnamed is = never_opens (λ n. ap (after_named n) is)

    by_body : (d : Predicate) (a : Assertion) → predicate_named p i.predicate ≡ Some d → d.body ≡ Some a → IsSettled (λ n. add p (deeper p n) q a (with_store (bind d.parameters i.arguments) (with_holdings (lost (Folded i) q s.holdings) s))) → IsKnown (λ n. let d : Deeper = deeper p n in d.opened i q s)
    by_body d a is body (inl (v, h)) = inl (
      with_store s.store v,
      next_on (λ n. let d : Deeper = deeper p n in d.opened i q s ≡ Some (with_store s.store v))
          (h.0, λ n le. ap (after_named n) is ∙ ap (after_body n d) body ∙ ap (λ (x : Checked State). to_option (x >>= λ u. Ok (with_store s.store u))) (h.1 n le)),
    )
    by_body d a is body (inr (at, h)) = inr (next_on (λ n. let d : Deeper = deeper p n in d.opened i q s ≡ None)
        (h.0, λ n le. ap (after_named n) is ∙ ap (after_body n d) body ∙ ap (λ (x : Checked State). to_option (x >>= λ u. Ok (with_store s.store u))) (h.1 n le)))

  -- of names of no predicate too
  named_or_not : (x : Name) → ((d : Predicate) → predicate_named p x ≡ Some d → Opens x) → Opens x
  named_or_not x f i e q s = go (predicate_named p x) refl
    where
      go : (o : Option Predicate) → predicate_named p x ≡ o → IsKnown (λ n. let d : Deeper = deeper p n in d.opened i q s)
      go None is = unnamed i q s (subst (λ (y : Name). predicate_named p y ≡ None) (sym e) is)
      go (Some d) is = f d is i e q s

  opens_from_lower : (x : Name) (d : Predicate) → predicate_named p x ≡ Some d → ((y : Name) (e : Predicate) → predicate_named p y ≡ Some e → Reaches p x y → (Reaches p y x → ⊥) → Opens y) → Opens x
  opens_from_lower x d is lower i e q s = go d.body refl
    where
      named : predicate_named p i.predicate ≡ Some d
      named = ap (predicate_named p) e ∙ is

      lower_still : (a : Assertion) → d.body ≡ Some a → (y : Name) → Stands y (entered_by a) → Opens y
      lower_still a body y t = named_or_not y (λ b by. lower y b by
          (1, inl (on_right y (mentions_of (function_named p x)) (mentioned_by_predicate (predicate_named p x)) (subst (λ (o : Option Predicate). Stands y (mentioned_by_predicate o)) (sym is) (subst (λ (o : Option Assertion). Stands y (mentioned_by_body o)) (sym body) (entered_mentioned y a t)))))
          (typed.apart.unfolding_body x d y is (subst (λ (o : Option Assertion). Stands y (entered_by_body o)) (sym body) t)))

      go : (o : Option Assertion) → d.body ≡ o → IsKnown (λ n. let d : Deeper = deeper p n in d.opened i q s)
      go None body = never_opens i q s (λ n. ap (after_named i q s n) named ∙ ap (after_body i q s n d) body)
      go (Some a) body = by_body i q s d a named body (add_settled p Opens (λ j l. l j refl) q a (with_store (bind d.parameters i.arguments) (with_holdings (lost (Folded i) q s.holdings) s)) (let k = good_bodies p typed in k.plain x d a is body) (lower_still a body))

  pub opens_known : (i : Instance) (q : Fraction) (s : State) → IsKnown (λ n. let d : Deeper = deeper p n in d.opened i q s)
  opens_known i = named_or_not i.predicate (λ d is. predicates_induce p Opens opens_from_lower i.predicate d is) i refl
