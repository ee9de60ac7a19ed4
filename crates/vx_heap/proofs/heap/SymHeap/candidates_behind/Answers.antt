use Rattle.std.proofs.Common.{◌≡◌, ◌∙◌, ◌∷◌, ◌++◌, ap, true, false}
use Rattle.std.proofs.lemmas.List.{map-append}
use Rattle.vx_terms.specs.Build.{zero_amount, unit}
use Rattle.vx_rules.specs.Chunks.{chosen}
use Rattle.vx_heap.specs.Heaps.{rest_of}
use Rattle.vx_heap.specs.Views.{candidate, candidates_of, heap, key, shared}
use Rattle.vx_heap.proofs.Heaps.{chosen_by_key}
use Rattle.vx_heap.proofs.heap.SymHeap.candidates_behind.Goals as goal

pub returns : goal.returns
returns c =
    let whole = c.args.whole in
    let w = shared whole.chunk in
    let h = heap c.args.self.now in
    let own : candidates_of c.in_ok-own.own.items ≡ chosen true w 0 h =
    c.in_ok-own.ensures
    ∙ ap (λ y. chosen true (key y.resource c.deref-3.result.now) 0 h) c.deref.ensures
    ∙ ap (λ ts. chosen true (key whole.chunk.value.resource ts) 0 h) (c.deref-3.ensures.value ∙ ap (λ y. y.arguments.items) c.deref-2.ensures)
    ∙ chosen_by_key true w zero_amount unit false false 0 h in
    ap candidates_of c.in_ok-append.ensures.items
    ∙ map-append candidate c.in_ok-all.all.items c.args.others.items
    ∙ ap (λ l. l ++ candidates_of c.args.others.items) (c.in_ok-all.ensures ∙ ap (λ l. candidate whole ∷ rest_of l) own)
