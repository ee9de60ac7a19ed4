use Rattle.std.proofs.Common.{◌≡◌, ◌≤◌, map, take}
use Rattle.vx_terms.specs.Views.{term}
use Rattle.cs_answer.specs.Few as clean
use Rattle.cs_answer.proofs.few.bool_count.Given as goal

abbrev pub invariant-loop-t : goal.invariant-loop-t
invariant-loop-t l = (l.count ≡ clean.bool_count (map (λ x. term x.value) (take l.t-index l.all))) × (l.count ≤ l.t-index)
