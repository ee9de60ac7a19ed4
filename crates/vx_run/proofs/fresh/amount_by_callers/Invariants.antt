use Rattle.std.proofs.Common.{◌≡◌, take}
use Rattle.vx_frac.specs.Fraction.{fraction}
use Rattle.vx_frac.specs.Fractions.{lowest}
use Rattle.vx_meaning.specs.States.{amount}
use Rattle.vx_run.specs.Configs.{around}
use Rattle.vx_run.specs.Held.{resource}
use Rattle.vx_run.specs.Referenced.{waiting}
use Rattle.vx_run.proofs.fresh.amount_by_callers.Given as goal

abbrev pub invariant-loop-w : goal.invariant-loop-w
invariant-loop-w l = fraction l.sum ≡ lowest (amount (around (waiting (take l.w-index l.callers))).holdings (resource l.r))
