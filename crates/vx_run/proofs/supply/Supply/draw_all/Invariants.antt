use Rattle.std.proofs.Common.{◌≡◌, map, drop}
use Rattle.vx_resolved.specs.Resolved.{declaration}
use Rattle.vx_run.specs.Draws.{by_draws}
use Rattle.vx_run.specs.Going.{chosen_for}
use Rattle.vx_run.specs.Views.{value}
use Rattle.vx_run.specs.Supplies.{supply, behind}
use Rattle.vx_run.proofs.supply.Supply.draw_all.Given as goal

abbrev pub invariant-loop-d : goal.invariant-loop-d
invariant-loop-d l =
    chosen_for by_draws (map declaration l.declarations) (supply l.fn.self)
    ≡ behind (map value l.values.items) (chosen_for by_draws (map declaration (drop l.d-index l.declarations)) (supply l.self))
