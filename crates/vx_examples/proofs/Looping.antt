-- An instance with none of itself within it, by whatever fuel.
use Rattle.std.proofs.Common.{◌≡◌, ℕ, zero, suc, IsTrue, [], ◌∷◌, ◌++◌, Option, Some, None, sym, ◌∙◌, ap, subst, refl}
use Rattle.std.specs.Prelude.{option_and_then, unwrap_or, false}
use Rattle.vx_frac.specs.Fractions.{Fraction, full, none, is_positive}
use Rattle.vx_meaning.specs.States.{Heap, Holdings, At, Folded, amount, scaled}
use Rattle.vx_meaning.specs.Flatten.{flat, IsGrounded}
use Rattle.vx_meaning.specs.Consistent.{total, IsHeld}
use Rattle.vx_examples.specs.Scenes.{x_f}
use Rattle.vx_examples.specs.Refused.{loops, P_one, all_of_P}

loops_flat : (n : ℕ) (h : Heap) → flat loops n h P_one ≡ None
loops_flat zero h = refl
loops_flat (suc n) h = rw (loops_flat n h) refl

some_not_none : (xs : Holdings) → (let o : Option Holdings = None in o) ≡ Some xs → ⊥
some_not_none xs e = cc

pub not_grounded : (h : Heap) → IsGrounded loops h P_one → ⊥
not_grounded h g = some_not_none g.1 (sym (loops_flat g.0 h) ∙ g.2)

no_total : (n : ℕ) (h : Heap) → total loops n h all_of_P x_f ≡ none
no_total n h = ap (λ (o : Option Holdings). amount ((Folded P_one, full) ∷ (unwrap_or (option_and_then (λ inner. Some (scaled full inner)) o) [] ++ [])) (At x_f)) (loops_flat n h)

not_true : IsTrue false → ⊥
not_true h = cc

pub not_held : (h : Heap) → IsHeld loops h all_of_P x_f → ⊥
not_held h held = not_true (subst (λ (q : Fraction). IsTrue (is_positive q)) (no_total held.0 h) held.1)
