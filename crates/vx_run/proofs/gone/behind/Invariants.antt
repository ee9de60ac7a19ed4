use Rattle.std.proofs.Common.{◌≡◌, ◌-◌, length}
use Rattle.vx_run.specs.Held.{entries}
use Rattle.vx_run.proofs.gone.behind.Given as goal

abbrev pub invariant-loop-left : goal.invariant-loop-left
invariant-loop-left l = length (entries l.rest) - length (entries l.left) ≡ length (entries l.fn.after) - length (entries l.fn.before)
