-- The holdings that the code's stand for.
use Rattle.std.specs.Prelude.{◌≡◌, ℕ, Result, Ok, Err, ⊤}
use Rattle.vx_meaning.specs.States.{Holdings}
use Rattle.vx_run.specs.Going.{Going, Outcome, Supply, gives, ends_with}
use Rattle.vx_run.specs.Blame.{counted}
use Rattle.vx_run.specs.Held.{entries}
use Rattle.vx_run.specs.Views.{outcome}
use Rattle.vx_run.specs.declared.blame.Blame.{Blame}
use Rattle.vx_run.specs.declared.halt.Halt.{Halt}
use Rattle.vx_run.specs.declared.halt.Halt.TheVariants as halt
use Rattle.vx_run.specs.declared.holdings.Holdings.{Holdings as Holdings'}

abbrev pub holdings : Holdings' → Holdings
holdings h = entries h.entries.value

-- what a part of a run that draws came to: something, or its end; where memory ran out nothing is said
abbrev pub Tells : {A B : Type 0} → (A → B) → Result A Halt → Going ℕ B → Type 0
Tells view (Ok a) m = gives (view a) ≡ m
Tells view (Err (halt.Over end)) m = ends_with (outcome end) ≡ m
Tells view (Err halt.Want) m = ⊤

-- how a part of a run ends; where memory ran out nothing is said
abbrev pub Ends : {A : Type 0} → Halt → Result (A × Supply ℕ) Outcome → Type 0
Ends (halt.Over end) m = Err (outcome end) ≡ m
Ends halt.Want m = ⊤

-- it ends as that does within this
abbrev pub IsBlamed : Blame → Halt → Halt → Type 0
IsBlamed b (halt.Over end) (halt.Over other) = outcome other ≡ counted b (outcome end)
IsBlamed b halt.Want halt.Want = ⊤
IsBlamed b x y = ⊥
