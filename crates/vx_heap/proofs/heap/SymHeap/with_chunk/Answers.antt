use Rattle.std.proofs.Common.{map, ap, ◌∙◌}
use Rattle.std.specs.Prelude.{slice_set}
use Rattle.std.proofs.lemmas.List.{map-set}
use Rattle.std.proofs.lemmas.Result.{IfOk-weaker}
use Rattle.vx_heap.specs.Views.{shared}
use Rattle.vx_heap.proofs.heap.SymHeap.with_chunk.Goals as goal

pub returns : goal.returns
returns c =
    let at = c.args.at in
    let new = c.args.chunk in
    IfOk-weaker c.of.result _ _
    (λ other h.
    h
    ∙ ap (map shared) c.deref-2.ensures.value
    ∙ map-set shared c.in_ok-chunks.chunks.items at new
    ∙ ap (λ l. slice_set l at (shared new)) (c.in_ok-chunks.ensures ∙ ap (map shared) c.deref.ensures.value))
    c.of.ensures
