use Rattle.std.proofs.Common.{◌∙◌, ap}
use Rattle.std.specs.Prelude.{slice_set}
use Rattle.vx_heap.specs.Views.{chunk, heap}
use Rattle.vx_heap.proofs.heap.SymHeap.put_into.Goals as goal

pub returns-clause-ok : goal.returns-clause-ok
returns-clause-ok c =
    let e = c.in_ok-replace.ensures.ok ∙ ap (λ y. slice_set (heap c.args.self.now) c.args.at (chunk y)) c.in_ok-whole.ensures.ok ∙ ap (λ k. slice_set (heap c.args.self.now) c.args.at k) c.in_ok-merged.ensures in
    rw c.chunk-old.ensures (c.in_ok-facts.ensures, e)
