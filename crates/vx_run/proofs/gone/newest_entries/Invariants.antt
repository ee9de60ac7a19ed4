use Rattle.std.proofs.Common.{◌≡◌, ◌++◌, length, map, take}
use Rattle.vx_run.specs.Held.{entries}
use Rattle.vx_run.specs.Taken.{taken}
use Rattle.vx_run.proofs.gone.newest_entries.Given as goal

abbrev pub invariant-loop-left : goal.invariant-loop-left
invariant-loop-left l = map taken l.found.items ++ take (length (entries l.left)) (entries l.rest) ≡ take (length (entries l.fn.count)) (entries l.fn.all)
