use Rattle.std.proofs.Common.{◌≡◌, ◌++◌}
use Rattle.vx_run.specs.Flattening.{found}
use Rattle.vx_run.specs.Held.{entries}
use Rattle.vx_run.proofs.possible.add_entries.Given as goal

abbrev pub invariant-loop-left : goal.invariant-loop-left
invariant-loop-left l = found l.all.items ++ entries l.left ≡ found l.fn.all.items ++ entries l.fn.of
