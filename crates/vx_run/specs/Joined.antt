-- Assertions that are visited one after the other.
use Rattle.std.specs.Prelude.{ℕ, List, [], ◌∷◌}
use Rattle.vx_ast.specs.Syntax.{Assertion}
use Rattle.vx_run.specs.Going.{Going, ◌>>=◌, gives}

abbrev pub each : {X : Type 0} → (Assertion → X → Going ℕ X) → List Assertion → X → Going ℕ X
each visited [] x = gives x
each visited (a ∷ more) x = visited a x >>= each visited more
