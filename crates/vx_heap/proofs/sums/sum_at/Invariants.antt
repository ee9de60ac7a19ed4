use Rattle.std.proofs.Common.{◌≡◌, drop}
use Rattle.vx_rules.specs.Chunks.{sum_at, sum_onto}
use Rattle.vx_heap.specs.Views.{candidates_of, held_term}
use Rattle.vx_heap.proofs.sums.sum_at.Given as goal

abbrev pub invariant-loop-candidate : goal.invariant-loop-candidate
invariant-loop-candidate l =
    sum_onto (held_term l.sum) (held_term l.receiver) (candidates_of (drop l.candidate-index l.candidates)) ≡ sum_at (held_term l.receiver) (candidates_of l.candidates)
