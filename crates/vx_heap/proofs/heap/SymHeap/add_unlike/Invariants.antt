use Rattle.std.proofs.Common.{◌≡◌, ◌++◌, List, map, drop}
use Rattle.vx_terms.specs.Terms.{Term}
use Rattle.vx_rules.specs.Members.{unlike_held}
use Rattle.vx_heap.specs.Views.{heap, shared, terms_of, held_term}
use Rattle.vx_heap.proofs.heap.SymHeap.add_unlike.Given as goal

abbrev pub invariant-loop-chunk : goal.invariant-loop-chunk
invariant-loop-chunk l = (rest : List Term) →
    terms_of l.facts.items ++ (unlike_held (held_term l.x) (map shared (drop l.chunk-index l.chunk-items)) ++ rest) ≡ terms_of l.initial.facts.items ++ (unlike_held (held_term l.x) (heap l.self) ++ rest)
