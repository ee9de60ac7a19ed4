use Rattle.std.proofs.Common.{◌≡◌, take, true}
use Rattle.std.specs.List.{list_all}
use Rattle.vx_resting.specs.Resting.{has_passed}
use Rattle.vx_resting.proofs.held.have_passed.Given as goal

abbrev pub invariant-loop-run : goal.invariant-loop-run
invariant-loop-run l = list_all (λ r. has_passed r.verdict) (take l.run-index l.runs) ≡ true
