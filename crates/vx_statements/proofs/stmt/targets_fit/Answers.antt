use Rattle.std.proofs.Common.{◌≡◌, ◌∙◌, ◌⊎◌, inl, inr, refl, ap, List, [], ◌∷◌, length, Ok, arith}
use Rattle.vx_ast.specs.declared.Place.{Place}
use Rattle.vx_ast.specs.declared.ValueType.{ValueType}
use Rattle.vx_ast.specs.declared.Declaration.{Declaration}
use Rattle.vx_statements.specs.StatementFaults.{targets_fit}
use Rattle.vx_expressions.specs.Views.{types_of}
use Rattle.vx_statements.proofs.stmt.targets_fit.Goals as goal

empty : {X : Type 0} (xs : List X) → length xs ≡ 0 → xs ≡ []
empty [] h = refl
empty (x ∷ xs) h = absurd (omega arith)

none_left : (at : Place) (ts : List ValueType) → targets_fit at ts [] ≡ Ok tt
none_left at [] = refl
none_left at (t ∷ ts) = refl

over : (at : Place) (ts : List ValueType) (ds : List Declaration) → (length ts ≡ 0) ⊎ (length ds ≡ 0) → targets_fit at ts (types_of ds) ≡ Ok tt
over at ts ds (inl h) = ap (λ ts. targets_fit at ts (types_of ds)) (empty ts h)
over at ts ds (inr h) = ap (λ ds. targets_fit at ts (types_of ds)) (empty ds h) ∙ none_left at ts

pub returns : goal.returns
returns c = c.loop-t.invariant ∙ over c.args.at c.loop-t.t-iterator.a.rest.now c.loop-t.t-iterator.b.rest.now (go c.in-None.ensures.steps)
  where
    go : {A B : Type 0} {P : A → Type 0} {Q : B → Type 0} → ((x : A) × ((length c.loop-t.t-iterator.a.rest.now ≡ 0) × P x)) ⊎ ((x : B) × ((length c.loop-t.t-iterator.b.rest.now ≡ 0) × Q x)) →
        (length c.loop-t.t-iterator.a.rest.now ≡ 0) ⊎ (length c.loop-t.t-iterator.b.rest.now ≡ 0)
    go (inl x) = inl x.1.0
    go (inr x) = inr x.1.0
