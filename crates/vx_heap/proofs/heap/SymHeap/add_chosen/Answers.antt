use Rattle.std.proofs.Common.{◌∙◌, ◌+◌, ◌++◌, ap, append-nil, drop, sym}
use Rattle.std.proofs.lemmas.List.{drop_all}
use Rattle.vx_heap.specs.Names.{name}
use Rattle.vx_heap.specs.Picked.{picked}
use Rattle.vx_heap.specs.Places.{row_of, under}
use Rattle.vx_heap.specs.Views.{candidates_of, heap, key, shared}
use Rattle.vx_heap.proofs.Tests.{drop_next}
use Rattle.vx_heap.proofs.Picked.{chosen_picked}
use Rattle.vx_heap.proofs.heap.SymHeap.add_chosen.Goals as goal

pub loop-number-init : goal.loop-number-init
loop-number-init c =
    let k = key c.args.resource.now c.args.arguments.now in
    ap (λ l. candidates_of c.args.found.now.items ++ l) (
    ap (picked c.args.identical k (heap c.args.self.now)) (c.under-number-items.ensures ∙ ap (under c.args.self.now.rows) c.row.ensures ∙ c.args.self.now.listed (row_of (name c.args.resource.now)))
    ∙ chosen_picked shared c.args.identical k c.args.self.now.chunks.items
    )

pub loop-number-preserved : goal.loop-number-preserved
loop-number-preserved c =
    let k = key c.args.resource.now c.args.arguments.now in
    let h = heap c.args.self.now in
    let items = c.under-number-items.result.now in
    let i = c.loop-number.number-index in
    c.in_ok-add_at.ensures (drop (i + 1) items)
    ∙ ap (λ l. candidates_of c.loop-number.found.items ++ picked c.args.identical k h l) (sym (drop_next items i c.loop-number-test.true))
    ∙ c.loop-number.invariant

pub returns : goal.returns
returns c =
    let k = key c.args.resource.now c.args.arguments.now in
    let found = candidates_of c.loop-number.found.items in
    sym (ap (λ l. found ++ picked c.args.identical k (heap c.args.self.now) l) (drop_all _ c.under-number-items.result.now c.loop-number-test.false) ∙ append-nil found)
    ∙ c.loop-number.invariant
