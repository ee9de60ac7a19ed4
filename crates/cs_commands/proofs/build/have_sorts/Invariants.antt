use Rattle.std.proofs.Common.{◌≡◌, length, map}
use Rattle.vx_terms.specs.Views.{term, sort}
use Rattle.cs_commands.specs.Building.{have_sorts}
use Rattle.cs_commands.proofs.build.have_sorts.Given as goal

abbrev pub invariant-loop-part : goal.invariant-loop-part
invariant-loop-part l = have_sorts (map (λ x. term x.value) l.left) (map sort l.right) ≡ have_sorts (map (λ x. term x.value) l.fn.parts) (map sort l.fn.sorts)

abbrev pub decreases-loop-part : goal.decreases-loop-part
decreases-loop-part l = length l.left
