use Rattle.std.proofs.Common.{◌≡◌, ◌++◌, length}
use Rattle.vx_run.specs.Flattening.{found}
use Rattle.vx_run.specs.Holding.{holdings}
use Rattle.vx_run.proofs.possible.as_holdings.Given as goal

abbrev pub invariant-loop-e : goal.invariant-loop-e
invariant-loop-e l = found l.left.items ++ holdings l.held ≡ found l.fn.all.items

abbrev pub decreases-loop-e : goal.decreases-loop-e
decreases-loop-e l = length l.left.items
