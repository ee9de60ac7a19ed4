use Rattle.std.proofs.Common.{◌≡◌, ◌++◌, drop}
use Rattle.vx_rules.specs.Chunks.{value_facts}
use Rattle.vx_heap.specs.Views.{candidates_of, held_term, terms_of}
use Rattle.vx_heap.proofs.sums.value_facts.Given as goal

abbrev pub invariant-loop-candidate : goal.invariant-loop-candidate
invariant-loop-candidate l =
    terms_of l.facts.items ++ value_facts (held_term l.receiver) (held_term l.value) (candidates_of (drop l.candidate-index l.candidates)) ≡ value_facts (held_term l.receiver) (held_term l.value) (candidates_of l.candidates)
