-- Heaps and totals while values are chosen.
use Rattle.std.specs.Prelude.{◌≡◌, ℕ, Result, Ok, Err, ⊤}
use Rattle.vx_run.specs.Going.{Outcome, Supply}
use Rattle.vx_run.specs.Given.{Filling}
use Rattle.vx_run.specs.Held.{heap}
use Rattle.vx_run.specs.Holding.{holdings}
use Rattle.vx_run.specs.Views.{outcome}
use Rattle.vx_run.specs.declared.filling.Filling.{Filling as Filling'}
use Rattle.vx_run.specs.declared.halt.Halt.{Halt}
use Rattle.vx_run.specs.declared.halt.Halt.TheVariants as halt

abbrev pub filling : Filling' → Filling
filling w = record { heap = heap w.heap.value; totals = holdings w.totals }

-- what a part of a run came to with its supply; where memory ran out nothing is said
abbrev pub TellsFrom : {A B : Type 0} → (A → B) → Result A Halt → Supply ℕ → Result (B × Supply ℕ) Outcome → Type 0
TellsFrom view (Ok a) l m = Ok (view a, l) ≡ m
TellsFrom view (Err (halt.Over end)) l m = Err (outcome end) ≡ m
TellsFrom view (Err halt.Want) l m = ⊤
