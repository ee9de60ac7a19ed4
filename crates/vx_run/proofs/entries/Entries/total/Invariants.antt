use Rattle.std.proofs.Common.{◌≡◌}
use Rattle.vx_run.specs.Held.{resource, told_total}
use Rattle.vx_run.proofs.entries.Entries.total.Given as goal

abbrev pub invariant-loop-left : goal.invariant-loop-left
invariant-loop-left l = told_total l.fn.self (resource l.r) ≡ told_total l.left (resource l.r)
