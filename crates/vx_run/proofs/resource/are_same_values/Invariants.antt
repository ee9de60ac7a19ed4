use Rattle.std.proofs.Common.{◌≡◌, map, length}
use Rattle.vx_meaning.specs.Values.{same_values}
use Rattle.vx_run.specs.Views.{value}
use Rattle.vx_run.proofs.resource.are_same_values.Given as goal

abbrev pub invariant-loop-left : goal.invariant-loop-left
invariant-loop-left l = same_values (map value l.vs) (map value l.ws) ≡ same_values (map value l.left) (map value l.right)

abbrev pub decreases-loop-left : goal.decreases-loop-left
decreases-loop-left l = length l.left
