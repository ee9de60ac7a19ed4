-- What keeps groups apart enters no member within itself.
use Rattle.std.proofs.Common.{◌≡◌, ◌⊎◌, inl, inr, ℕ, zero, suc, List, [], ◌∷◌, ◌++◌, Option, Some, None, refl, sym, ap, ◌∙◌, subst, true≢false, is_some}
use Rattle.std.specs.Prelude.{flat_map}
use Rattle.vx_ast.specs.Syntax.{Name, Program, Predicate, Function, Assertion, Pure, Points, Instance, Both, Implied, Chosen, predicate_named, function_named, joined, joined_with}
use Rattle.vx_ast.specs.Mentions.{mentioned, mentioned_by}
use Rattle.vx_ast.specs.Mentions.{mentions_of}
use Rattle.vx_depth.specs.Entering.{entered_by_function, entered_by_predicate, entered_from, LeadsBy, NoneWithinItself}
use Rattle.vx_ast.specs.Apart.{entered_by, entered_by_measure, entered_by_body, Stands}
use Rattle.vx_ast.specs.Apart.{mentioned_by_body, mentioned_by_predicate, mentioned_from, Reaches, KeepsApart}

-- Names in lists

on_left : (x : Name) (xs ys : List Name) → Stands x xs → Stands x (xs ++ ys)
on_left x [] ys h = absurd h
on_left x (z ∷ xs) ys (inl e) = inl e
on_left x (z ∷ xs) ys (inr h) = inr (on_left x xs ys h)

on_right : (x : Name) (xs ys : List Name) → Stands x ys → Stands x (xs ++ ys)
on_right x [] ys h = h
on_right x (z ∷ xs) ys h = inr (on_right x xs ys h)

inr_left : (x z : Name) (xs ys : List Name) → Stands x xs ⊎ Stands x ys → Stands x (z ∷ xs) ⊎ Stands x ys
inr_left x z xs ys (inl h) = inl (inr h)
inr_left x z xs ys (inr h) = inr h

either_side : (x : Name) (xs ys : List Name) → Stands x (xs ++ ys) → Stands x xs ⊎ Stands x ys
either_side x [] ys h = inr h
either_side x (z ∷ xs) ys (inl e) = inl (inl e)
either_side x (z ∷ xs) ys (inr h) = inr_left x z xs ys (either_side x xs ys h)

both_sides : (x : Name) (xs ys xs' ys' : List Name) → (Stands x xs → Stands x xs') → (Stands x ys → Stands x ys') → Stands x (xs ++ ys) → Stands x (xs' ++ ys')
both_sides x xs ys xs' ys' f g h = go (either_side x xs ys h)
  where
    go : Stands x xs ⊎ Stands x ys → Stands x (xs' ++ ys')
    go (inl k) = on_left x xs' ys' (f k)
    go (inr k) = on_right x xs' ys' (g k)

-- What is entered is mentioned

is_mentioned : (x : Name) (a : Assertion) → Stands x (entered_by a) → Stands x (mentioned_by a)
is_mentioned x (Pure e) h = h
is_mentioned x (Points at e f share) h = h
is_mentioned x (Instance at i es share) h = inr h
is_mentioned x (Both a b) h = both_sides x (entered_by a) (entered_by b) (mentioned_by a) (mentioned_by b) (is_mentioned x a) (is_mentioned x b) h
is_mentioned x (Implied c a) h = both_sides x (mentioned c) (entered_by a) (mentioned c) (mentioned_by a) (λ k. k) (is_mentioned x a) h
is_mentioned x (Chosen c a b) h =
    both_sides x (mentioned c ++ entered_by a) (entered_by b) (mentioned c ++ mentioned_by a) (mentioned_by b)
    (both_sides x (mentioned c) (entered_by a) (mentioned c) (mentioned_by a) (λ k. k) (is_mentioned x a)) (is_mentioned x b) h

in_clauses : (x : Name) (a : Assertion) (rest : List Assertion) → Stands x (entered_by (joined_with a rest)) → Stands x (mentioned_by a) ⊎ Stands x (flat_map mentioned_by rest)
in_clauses x a [] h = inl (is_mentioned x a h)
in_clauses x a (b ∷ rest) h = go (in_clauses x (Both a b) rest h)
  where
    first : Stands x (mentioned_by a) ⊎ Stands x (mentioned_by b) → Stands x (mentioned_by a) ⊎ Stands x (flat_map mentioned_by (b ∷ rest))
    first (inl k) = inl k
    first (inr k) = inr (on_left x (mentioned_by b) (flat_map mentioned_by rest) k)

    go : Stands x (mentioned_by a ++ mentioned_by b) ⊎ Stands x (flat_map mentioned_by rest) → Stands x (mentioned_by a) ⊎ Stands x (flat_map mentioned_by (b ∷ rest))
    go (inl k) = first (either_side x (mentioned_by a) (mentioned_by b) k)
    go (inr k) = inr (on_right x (mentioned_by b) (flat_map mentioned_by rest) k)

in_precondition : (x : Name) (g : Function) → Stands x (entered_by (joined g.place g.requires)) → Stands x (flat_map mentioned_by g.requires)
in_precondition x g h = go g.requires h
  where
    go : (as' : List Assertion) → Stands x (entered_by (joined g.place as')) → Stands x (flat_map mentioned_by as')
    go [] k = absurd k
    go (a ∷ rest) k = joined_up (in_clauses x a rest k)
      where
        joined_up : Stands x (mentioned_by a) ⊎ Stands x (flat_map mentioned_by rest) → Stands x (flat_map mentioned_by (a ∷ rest))
        joined_up (inl m) = on_left x (mentioned_by a) (flat_map mentioned_by rest) m
        joined_up (inr m) = on_right x (mentioned_by a) (flat_map mentioned_by rest) m

-- Entering

data Edge (p : Program) (x z : Name) : Type 0 where
  of_precondition : (g : Function) → function_named p x ≡ Some g → Stands z (entered_by (joined g.place g.requires)) → Edge p x z
  of_measure : (g : Function) → function_named p x ≡ Some g → Stands z (entered_by_measure g.decreases) → Edge p x z
  of_body : (d : Predicate) → predicate_named p x ≡ Some d → Stands z (entered_by_body d.body) → Edge p x z

none_is : {A : Type 0} {B : Type 0} {a : A} {m : Option A} → m ≡ None → m ≡ Some a → B
none_is e f = absurd (true≢false (ap is_some (sym f ∙ e)))

module _ (p : Program) where
  edge : (x z : Name) → Stands z (entered_from p x) → Edge p x z
  edge x z h = go (function_named p x) refl (predicate_named p x) refl (either_side z (entered_by_function (function_named p x)) (entered_by_predicate (predicate_named p x)) h)
    where
      of_function : (g : Function) → function_named p x ≡ Some g → Stands z (entered_by (joined g.place g.requires)) ⊎ Stands z (entered_by_measure g.decreases) → Edge p x z
      of_function g e (inl k) = of_precondition g e k
      of_function g e (inr k) = of_measure g e k

      go : (f : Option Function) → function_named p x ≡ f → (d : Option Predicate) → predicate_named p x ≡ d → Stands z (entered_by_function f) ⊎ Stands z (entered_by_predicate d) → Edge p x z
      go (Some g) e d q (inl k) = of_function g e (either_side z (entered_by (joined g.place g.requires)) (entered_by_measure g.decreases) k)
      go None e d q (inl k) = absurd k
      go f e (Some d) q (inr k) = of_body d q k
      go f e None q (inr k) = absurd k

  by_precondition : (x z : Name) (g : Function) → function_named p x ≡ Some g → Stands z (entered_by (joined g.place g.requires)) → Stands z (mentioned_from p x)
  by_precondition x z g e h =
      on_left z (mentions_of (function_named p x)) (mentioned_by_predicate (predicate_named p x))
      (subst (λ o. Stands z (mentions_of o)) (sym e)
      (on_left z (mentioned g.body ++ flat_map mentioned_by g.requires) (flat_map mentioned g.ensures) (on_right z (mentioned g.body) (flat_map mentioned_by g.requires) (in_precondition z g h))))

  in_body : (z : Name) (b : Option Assertion) → Stands z (entered_by_body b) → Stands z (mentioned_by_body b)
  in_body z None h = h
  in_body z (Some a) h = is_mentioned z a h

  by_body : (x z : Name) (d : Predicate) → predicate_named p x ≡ Some d → Stands z (entered_by_body d.body) → Stands z (mentioned_from p x)
  by_body x z d e h =
      on_right z (mentions_of (function_named p x)) (mentioned_by_predicate (predicate_named p x)) (subst (λ o. Stands z (mentioned_by_predicate o)) (sym e) (in_body z d.body h))

none : (o : Option Function) → ((g : Function) → o ≡ Some g → ⊥) → o ≡ None
none None h = refl
none (Some g) h = absurd (h g refl)

module _ (p : Program) (apart : KeepsApart p) where
  no_measure : (f : Name) (g : Function) (x : Name) → function_named p f ≡ Some g → Stands x (entered_by_measure g.decreases) → function_named p x ≡ None
  no_measure f g x e h = none (function_named p x) (apart.measure f g x e h)

  no_body : (i : Name) (d : Predicate) (x : Name) → predicate_named p i ≡ Some d → Stands x (entered_by_body d.body) → function_named p x ≡ None
  no_body i d x e h = none (function_named p x) (apart.body i d x e h)

  no_function : (x z : Name) → function_named p x ≡ None → Edge p x z → function_named p z ≡ None
  no_function x z n (of_precondition g e h) = none_is n e
  no_function x z n (of_measure g e h) = none_is n e
  no_function x z n (of_body d e h) = no_body x d z e h

  stays : (k : ℕ) (x z : Name) → function_named p x ≡ None → LeadsBy p k x z → function_named p z ≡ None
  stays zero x z n h = absurd h
  stays (suc k) x z n (inl s) = no_function x z n (edge p x z s)
  stays (suc k) x z n (inr (w, s, l)) = stays k w z (no_function x w n (edge p x w s)) l

  one_step : (x z : Name) → Stands z (mentioned_from p x) → Reaches p x z
  one_step x z m = (1, inl m)

  one_more_step : (x w z : Name) → Stands w (mentioned_from p x) → Reaches p w z → Reaches p x z
  one_more_step x w z m r = (suc r.0, inr (w, m, r.1))

  to_function : (k : ℕ) (x z : Name) (g : Function) → function_named p z ≡ Some g → LeadsBy p k x z → Reaches p x z
  to_function zero x z g e h = absurd h
  to_function (suc k) x z g e (inl s) = go (edge p x z s)
    where
      go : Edge p x z → Reaches p x z
      go (of_precondition f q h) = one_step x z (by_precondition p x z f q h)
      go (of_measure f q h) = none_is (no_measure x f z q h) e
      go (of_body d q h) = none_is (no_body x d z q h) e
  to_function (suc k) x z g e (inr (w, s, l)) = go (edge p x w s) (to_function k w z g e l)
    where
      go : Edge p x w → Reaches p w z → Reaches p x z
      go (of_precondition f q h) r = one_more_step x w z (by_precondition p x w f q h) r
      go (of_measure f q h) r = none_is (stays k w z (no_measure x f w q h) l) e
      go (of_body d q h) r = one_more_step x w z (by_body p x w d q h) r

  from_predicate : (k : ℕ) (x z : Name) → function_named p x ≡ None → LeadsBy p k x z → Reaches p x z
  from_predicate zero x z n h = absurd h
  from_predicate (suc k) x z n (inl s) = go (edge p x z s)
    where
      go : Edge p x z → Reaches p x z
      go (of_precondition f q h) = none_is n q
      go (of_measure f q h) = none_is n q
      go (of_body d q h) = one_step x z (by_body p x z d q h)
  from_predicate (suc k) x z n (inr (w, s, l)) = go (edge p x w s) (λ m. from_predicate k w z m l)
    where
      go : Edge p x w → (function_named p w ≡ None → Reaches p w z) → Reaches p x z
      go (of_precondition f q h) r = none_is n q
      go (of_measure f q h) r = none_is n q
      go (of_body d q h) r = one_more_step x w z (by_body p x w d q h) (r (no_body x d w q h))

  -- from the first member that x enters back to x
  back_to : (x w : Name) → Edge p x w → ((g : Function) → function_named p x ≡ Some g → Reaches p w x) → (function_named p w ≡ None → Reaches p w x) → (function_named p w ≡ None → function_named p x ≡ None) → ⊥
  back_to x w (of_precondition g e h) r s t = apart.precondition x g w e h (r g e)
  back_to x w (of_measure g e h) r s t = none_is (t (no_measure x g w e h)) e
  back_to x w (of_body d e h) r s t = apart.unfolding_body x d w e h (s (no_body x d w e h))

  pub none_within_itself : NoneWithinItself p
  none_within_itself zero x h = h
  none_within_itself (suc k) x (inl s) =
      let m = edge p x x s in back_to x x m (λ g e. to_function (suc k) x x g e (inl s)) (λ n. from_predicate (suc k) x x n (inl s)) (λ n. n)
  none_within_itself (suc k) x (inr (w, s, l)) =
      back_to x w (edge p x w s) (λ g e. to_function k w x g e l) (λ n. from_predicate k w x n l) (λ n. stays k w x n l)
