use Rattle.std.proofs.Common.{◌≡◌, ◌++◌, map, drop}
use Rattle.vx_run.specs.ConfigViews.{caller_of}
use Rattle.vx_run.specs.Flattening.{found}
use Rattle.vx_run.proofs.Spread.{lefts}
use Rattle.vx_run.proofs.possible.held_by_all.Given as goal

abbrev pub invariant-loop-caller : goal.invariant-loop-caller
invariant-loop-caller l = found l.all.items ++ lefts (map caller_of (drop l.caller-index l.callers)) ≡ lefts (map caller_of l.callers)
