-- What a precondition applies is of a lower group than its function.
use Rattle.std.proofs.Common.{◌≡◌, ◌⊎◌, inl, inr, ℕ, zero, suc, List, [], ◌∷◌, ◌++◌, Option, Some, sym, subst}
use Rattle.std.specs.Prelude.{flat_map}
use Rattle.vx_ast.specs.declared.Place.{Place}
use Rattle.vx_ast.specs.Syntax.{Name, Program, Function, function_named, Assertion, Pure, Points, Both, Implied, Chosen, joined, joined_with, predicate_named}
use Rattle.vx_ast.specs.Syntax as syntax
use Rattle.vx_ast.specs.Mentions.{mentioned, mentioned_by, mentioned_by_function, mentions_of}
use Rattle.vx_ast.specs.Apart.{Stands, entered_by, mentioned_by_predicate}
use Rattle.vx_ast.specs.Apart as apart
use Rattle.vx_types.specs.Premises.{IsTypedProgram}
use Rattle.vx_meaning.specs.Group.{Reaches, ReachesBy}
use Rattle.vx_sound_preds.proofs.Typed.{on_left, on_right}
use Rattle.vx_law.specs.Measures.{lower_group, PreconditionsAskBelow}
use Rattle.vx_law.proofs.Groups.{contained, contains}

split : (y : Name) (xs ys : List Name) → Stands y (xs ++ ys) → Stands y xs ⊎ Stands y ys
split y [] ys s = inr s
split y (x ∷ xs) ys (inl e) = inl (inl e)
split y (x ∷ xs) ys (inr s) = go (split y xs ys s)
  where
    go : Stands y xs ⊎ Stands y ys → Stands y (x ∷ xs) ⊎ Stands y ys
    go (inl k) = inl (inr k)
    go (inr k) = inr k

either_stands : (y : Name) (xs ys xs' ys' : List Name) → (Stands y xs → Stands y xs') → (Stands y ys → Stands y ys') → Stands y (xs ++ ys) → Stands y (xs' ++ ys')
either_stands y xs ys xs' ys' f g s = go (split y xs ys s)
  where
    go : Stands y xs ⊎ Stands y ys → Stands y (xs' ++ ys')
    go (inl k) = on_left y xs' ys' (f k)
    go (inr k) = on_right y xs' ys' (g k)

-- what is entered is mentioned
entered_mentioned : (y : Name) (a : Assertion) → Stands y (entered_by a) → Stands y (mentioned_by a)
entered_mentioned y (Pure e) s = s
entered_mentioned y (Points at e f share) s = s
entered_mentioned y (syntax.Instance at i es share) s = inr s
entered_mentioned y (Both a b) s = either_stands y (entered_by a) (entered_by b) (mentioned_by a) (mentioned_by b) (entered_mentioned y a) (entered_mentioned y b) s
entered_mentioned y (Implied c a) s = either_stands y (mentioned c) (entered_by a) (mentioned c) (mentioned_by a) (λ k. k) (entered_mentioned y a) s
entered_mentioned y (Chosen c a b) s =
    either_stands y (mentioned c ++ entered_by a) (entered_by b) (mentioned c ++ mentioned_by a) (mentioned_by b)
    (either_stands y (mentioned c) (entered_by a) (mentioned c) (mentioned_by a) (λ k. k) (entered_mentioned y a)) (entered_mentioned y b) s

joined_with_mentioned : (y : Name) (a : Assertion) (rest : List Assertion) → Stands y (entered_by (joined_with a rest)) → Stands y (mentioned_by a ++ flat_map mentioned_by rest)
joined_with_mentioned y a [] s = on_left y (mentioned_by a) [] (entered_mentioned y a s)
joined_with_mentioned y a (b ∷ rest) s = go (split y (mentioned_by a ++ mentioned_by b) (flat_map mentioned_by rest) (joined_with_mentioned y (Both a b) rest s))
  where
    in_pair : Stands y (mentioned_by a) ⊎ Stands y (mentioned_by b) → Stands y (mentioned_by a ++ (mentioned_by b ++ flat_map mentioned_by rest))
    in_pair (inl k) = on_left y (mentioned_by a) (mentioned_by b ++ flat_map mentioned_by rest) k
    in_pair (inr k) = on_right y (mentioned_by a) (mentioned_by b ++ flat_map mentioned_by rest) (on_left y (mentioned_by b) (flat_map mentioned_by rest) k)

    go : Stands y (mentioned_by a ++ mentioned_by b) ⊎ Stands y (flat_map mentioned_by rest) → Stands y (mentioned_by a ++ (mentioned_by b ++ flat_map mentioned_by rest))
    go (inl k) = in_pair (split y (mentioned_by a) (mentioned_by b) k)
    go (inr k) = on_right y (mentioned_by a) (mentioned_by b ++ flat_map mentioned_by rest) (on_right y (mentioned_by b) (flat_map mentioned_by rest) k)

joined_mentioned : (y : Name) (at : Place) (rest : List Assertion) → Stands y (entered_by (joined at rest)) → Stands y (flat_map mentioned_by rest)
joined_mentioned y at [] s = absurd s
joined_mentioned y at (a ∷ rest) s = joined_with_mentioned y a rest s

module _ (p : Program) where
  -- ways by functions alone are ways
  step_leads : (x y : Name) (d : Function) → function_named p x ≡ Some d → Stands y (mentioned_by_function d) → apart.Mentions p x y
  step_leads x y d named s = on_left y (mentions_of (function_named p x)) (mentioned_by_predicate (predicate_named p x)) (subst (λ (o : Option Function). Stands y (mentions_of o)) (sym named) s)

  leads : (n : ℕ) (x y : Name) → ReachesBy p n x y → apart.ReachesBy p n x y
  leads zero x y r = absurd r
  leads (suc n) x y (inl (d, named, c)) = inl (step_leads x y d named (contained (mentioned_by_function d) y c))
  leads (suc n) x y (inr (z, (d, named, c), r)) = inr (z, step_leads x z d named (contained (mentioned_by_function d) z c), leads n z y r)

  -- what a precondition applies is reached, and doesn't lead back
  pub asked_mentioned : (g : Function) (y : Name) → Stands y (entered_by (joined g.place g.requires)) → Stands y (mentioned_by_function g)
  asked_mentioned g y s = on_left y (mentioned g.body ++ flat_map mentioned_by g.requires) (flat_map mentioned g.ensures) (on_right y (mentioned g.body) (flat_map mentioned_by g.requires) (joined_mentioned y g.place g.requires s))

  pub asked_lower : IsTypedProgram p → (f : Name) (g : Function) (y : Name) → function_named p f ≡ Some g → Stands y (entered_by (joined g.place g.requires)) → Reaches p f y × (Reaches p y f → ⊥)
  asked_lower typed f g y named s =
      let apart_is = typed.apart in
      ((1, inl (g, named, contains (mentioned_by_function g) y (asked_mentioned g y s))), λ r. apart_is.precondition f g y named s (r.0, leads r.0 y f r.1))

  pub ask_below : IsTypedProgram p → PreconditionsAskBelow p
  ask_below typed f g f' named s h vs vs' = let k = asked_lower typed f g f' named s in lower_group k.0 k.1
