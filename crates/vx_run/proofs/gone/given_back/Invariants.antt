use Rattle.std.proofs.Common.{◌≡◌, ◌++◌, map, length}
use Rattle.vx_run.specs.Holding.{holdings}
use Rattle.vx_run.specs.Taken.{taken}
use Rattle.vx_run.specs.Whole.{given_back}
use Rattle.vx_run.proofs.gone.given_back.Given as goal

abbrev pub invariant-loop-e : goal.invariant-loop-e
invariant-loop-e l = given_back (map taken l.found.items) ++ holdings l.given ≡ given_back (map taken l.fn.found.items)

abbrev pub decreases-loop-e : goal.decreases-loop-e
decreases-loop-e l = length l.found.items
