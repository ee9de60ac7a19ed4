-- What the bodies of the examples do to what is held.
use Rattle.std.proofs.Common.{◌≡◌, ℕ, zero, suc, true, false, [], ◌∷◌, ◌++◌, Option, Some, None, refl, sym, ◌∙◌, ap}
use Rattle.std.specs.Prelude.{option_and_then, unwrap_or}
use Rattle.vx_frac.specs.Fractions.{none, full, at_most, is_positive}
use Rattle.vx_meaning.specs.States.{Heap, Holdings, Location, At, Folded, amount, scaled}
use Rattle.vx_meaning.specs.Flatten.{flat, IsGrounded}
use Rattle.vx_meaning.specs.Consistent.{total}
use Rattle.vx_sound_preds.specs.Examples.{f, x, instance_of, loops, owes, owing}

-- no fuel suffices for an instance that has none of itself within it
pub never : (n : ℕ) (h : Heap) (r : ℕ) → flat loops n h (instance_of r) ≡ None
never zero h r = refl
never (suc n) h r =
    ap (λ (o : Option Holdings). option_and_then (λ more. Some ((At record { receiver = r; field = f }, full) ∷ more)) (option_and_then (λ inner. Some ((Folded (instance_of r), none) ∷ (inner ++ []))) (option_and_then (λ inner. Some (scaled none inner)) o))) (never n h r)

pub never_grounded : (h : Heap) (r : ℕ) → IsGrounded loops h (instance_of r) → ⊥
never_grounded h r (n, x, e) = clash x (sym (never n h r) ∙ e)
  where
    clash : (x : Holdings) → None ≡ Some x → ⊥
    clash x e = cc

-- so nothing is held in it, and a change may change 1.f though a fold has taken all of it
pub nothing_held : (n : ℕ) (h : Heap) (l : Location) → total loops n h ((Folded (instance_of 1), full) ∷ []) l ≡ none
nothing_held n h l = ap (λ (o : Option Holdings). amount ((Folded (instance_of 1), full) ∷ (unwrap_or (option_and_then (λ inner. Some (scaled full inner)) o) [] ++ [])) (At l)) (never n h 1)

-- a debt hides what is held of 1.f
pub hidden : is_positive (total owes 1 [] owing record { receiver = 1; field = f }) ≡ false
hidden = refl

pub null_is_fine : at_most (total owes 1 [] owing record { receiver = 0; field = f }) none ≡ true
null_is_fine = refl
