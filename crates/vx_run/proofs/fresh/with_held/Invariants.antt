use Rattle.std.proofs.Common.{◌≡◌, ◌∷◌, take}
use Rattle.vx_run.specs.Fresh.{largest}
use Rattle.vx_run.specs.Given.{held_by_all}
use Rattle.vx_run.specs.Configs.{around}
use Rattle.vx_run.specs.ConfigViews.{config_of}
use Rattle.vx_run.specs.Referenced.{waiting, in_part}
use Rattle.vx_run.proofs.fresh.with_held.Given as goal

abbrev pub invariant-loop-w : goal.invariant-loop-w
invariant-loop-w l =
    l.most ≡ largest (l.fn.most ∷ in_part (held_by_all (around (config_of l.fn.of).callers) (config_of l.fn.of).state) (around (waiting (take l.w-index l.fn.of.callers.items))).holdings)
