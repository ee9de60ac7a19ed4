use Rattle.std.proofs.Common.{◌≡◌, ◌++◌, List, drop}
use Rattle.vx_terms.specs.Terms.{Term}
use Rattle.vx_heap.specs.Heaps.{apart_onto}
use Rattle.vx_heap.specs.Views.{candidates_of, chunk, terms_of}
use Rattle.vx_heap.proofs.facts.add_apart.Given as goal

abbrev pub invariant-loop-other : goal.invariant-loop-other
invariant-loop-other l = (rest : List Term) →
    terms_of l.facts.items ++ apart_onto l.summed l.bounded (chunk l.whole) (candidates_of (drop l.other-index l.others)) rest ≡ terms_of l.initial.facts.items ++ apart_onto l.summed l.bounded (chunk l.whole) (candidates_of l.others) rest
