-- What joined assertions come to: each in turn.
use Rattle.std.proofs.Common.{◌≡◌, ℕ, List, [], ◌∷◌, refl, sym, ◌∙◌, ap, Bool, true}
use Rattle.vx_ast.specs.declared.Place.{Place}
use Rattle.vx_ast.specs.Syntax.{Program, Assertion, Both, joined, joined_with}
use Rattle.vx_run.specs.Going.{Going, ◌>>=◌, gives}
use Rattle.vx_run.specs.Widths.{Width}
use Rattle.vx_run.specs.Evaluated.{Deeper, Visit, visit}
use Rattle.vx_run.specs.Joined.{each}
use Rattle.vx_run.proofs.Steps.{bracketed, given_on}

module _ (p : Program) (w : Width) (d : Deeper ℕ) {X : Type 0} (v : Visit ℕ X) where
  abbrev visited : Assertion → X → Going ℕ X
  visited a x = visit p w d v a x

  joined_on : (a : Assertion) (more : List Assertion) (x : X) → visited (joined_with a more) x ≡ (visited a x >>= each visited more)
  joined_on a [] x = λ i l. sym (given_on (visited a x l)) i
  joined_on a (b ∷ more) x = joined_on (Both a b) more x ∙ bracketed (visited a x) (visited b) (each visited more)

  -- where what is true passes
  pub joined_each : (at : Place) (as' : List Assertion) (x : X) → ((place : Place) → v.pure place true ≡ gives tt) → visited (joined at as') x ≡ each visited as' x
  joined_each at [] x h = ap (λ (m : Going ℕ (Unit {0})). m >>= λ _. gives x) (h at)
  joined_each at (a ∷ more) x h = joined_on a more x
