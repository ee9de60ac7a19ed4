use Rattle.std.proofs.Common.{◌≡◌, ◌∷◌}
use Rattle.vx_run.specs.Fresh.{largest}
use Rattle.vx_run.specs.Given.{held_by_all}
use Rattle.vx_run.specs.Configs.{around}
use Rattle.vx_run.specs.ConfigViews.{config_of}
use Rattle.vx_run.specs.Held.{entries}
use Rattle.vx_run.specs.Referenced.{in_part}
use Rattle.vx_run.proofs.fresh.with_entries.Given as goal

abbrev pub invariant-loop-left : goal.invariant-loop-left
invariant-loop-left l =
    let all = held_by_all (around (config_of l.of).callers) (config_of l.of).state in
    largest (l.most ∷ in_part all (entries l.left)) ≡ largest (l.fn.most ∷ in_part all (entries l.fn.all))
