-- How a failure within something counts.
use Rattle.std.specs.Prelude.{ℕ, Result, Ok, Err}
use Rattle.vx_ast.specs.declared.Place.{Place}
use Rattle.vx_run.specs.Going.{Going, Outcome, Supply, Stopped, Failed}
use Rattle.vx_run.specs.declared.blame.Blame.{Blame}
use Rattle.vx_run.specs.declared.blame.Blame.TheVariants as blame

abbrev pub counted : Blame → Outcome → Outcome
counted (blame.Fails at) (Failed place) = Failed at
counted (blame.Stops at) (Failed place) = Stopped at
counted b o = o

-- where a failure counts as that outcome
abbrev pub failed_as : Outcome → Outcome → Outcome
failed_as e (Failed at) = e
failed_as e o = o

abbrev pub ended_within : {A : Type 0} → Blame → Result (A × Supply ℕ) Outcome → Result (A × Supply ℕ) Outcome
ended_within b (Ok r) = Ok r
ended_within b (Err o) = Err (counted b o)

abbrev pub within : {A : Type 0} → Blame → Going ℕ A → Going ℕ A
within b m = λ l. ended_within b (m l)
