use Rattle.std.proofs.Common.{◌≡◌}
use Rattle.std.specs.List.{list_all}
use Rattle.vx_run.specs.Given.{bounded}
use Rattle.vx_run.specs.Held.{entries}
use Rattle.vx_run.specs.Holding.{holdings}
use Rattle.vx_run.proofs.possible.are_bounded.Given as goal

abbrev pub invariant-loop-left : goal.invariant-loop-left
invariant-loop-left l = list_all (λ e. bounded (holdings l.all) e.0) (entries l.left) ≡ list_all (λ e. bounded (holdings l.all) e.0) (holdings l.all)
