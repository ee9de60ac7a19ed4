-- What an exit hands on.
use Rattle.std.proofs.Common.{◌≡◌, ℕ, Result, Ok, Err, sym, ◌∙◌, ap, subst}
use Rattle.std.specs.Result.{IsErrAnd}
use Rattle.vx_run.specs.Going.{Going, continued}
use Rattle.vx_run.specs.Configs.{Config}
use Rattle.vx_run.specs.Frames.{Come, Follows}
use Rattle.vx_run.specs.Runs.{Turned}
use Rattle.vx_run.specs.declared.halt.Halt.{Halt}
use Rattle.vx_run.specs.declared.halt.Halt.TheVariants as halt

pub handed_on : {T : Type 0} (r : Result T Halt) (x : Halt) (P : Result T Halt → Type 0) → IsErrAnd r (λ e. e ≡ x) → P (Err x) → P r
handed_on (Ok t) x P h p = absurd h
handed_on (Err e) x P h p = subst (λ (y : Halt). P (Err y)) (sym h) p

-- and all that follows ends there
pub ended_on : (x : Halt) (first new old : Come) (k : Config → Going ℕ Config) → Follows (Err x) first old → Follows (Err x) new (continued old k)
ended_on (halt.Over end) first new old k e = ap (λ (m : Come). continued m k) e
ended_on halt.Want first new old k e = tt

-- an end of what comes next is that of a turn
pub turned_on : (x : Halt) (first new mid old : Come) → Follows (Err x) first mid → mid ≡ old → Turned (Err x) new old
turned_on (halt.Over end) first new mid old e q = e ∙ q
turned_on halt.Want first new mid old e q = tt
