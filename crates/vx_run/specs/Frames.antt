-- What is still to be done of a run, from where it is.
use Rattle.std.specs.Prelude.{◌≡◌, ℕ, List, [], ◌∷◌, Result, Ok, Err, ⊤}
use Rattle.vx_run.specs.Going.{Going, Outcome, Supply, ◌>>=◌, gives}
use Rattle.vx_run.specs.Views.{outcome}
use Rattle.vx_run.specs.Configs.{Setting, Config}
use Rattle.vx_run.specs.Pending as pending
use Rattle.vx_run.specs.Visits as visits
use Rattle.vx_run.specs.Tasks as tasks
use Rattle.vx_run.specs.Changes as changes
use Rattle.vx_run.specs.declared.halt.Halt.{Halt}
use Rattle.vx_run.specs.declared.halt.Halt.TheVariants as halt
use Rattle.vx_run.specs.declared.frame.Frame.{Frame}
use Rattle.vx_run.specs.declared.frame.Frame.TheVariants as frame'

module _ (t : Setting) where
  abbrev pub act : Frame → Config → Going ℕ Config
  act (frame'.Evaluate f) = pending.act t f
  act (frame'.Visit f) = visits.act t f
  act (frame'.Execute f) = tasks.act t f
  act (frame'.Change f) = changes.act f

  -- of a list, the last first
  abbrev pub rest : List Frame → Config → Going ℕ Config
  rest [] c = gives c
  rest (f ∷ fs) c = rest fs c >>= act f

-- one after the other
abbrev pub before : {A B C : Type 0} → (A → Going ℕ B) → (B → Going ℕ C) → A → Going ℕ C
before f g a = f a >>= g

-- what a part of a run comes to
abbrev pub Come : Type 0
Come = Result (Config × Supply ℕ) Outcome

-- a step goes on to the same end, or ends as that does; where memory ran out nothing is said
abbrev pub Follows : Result (Unit {0}) Halt → Come → Come → Type 0
Follows (Ok u) new old = new ≡ old
Follows (Err (halt.Over end)) new old = Err (outcome end) ≡ old
Follows (Err halt.Want) new old = ⊤
