use Rattle.std.proofs.Common.{◌∙◌, ◌+◌, ap, drop, get_or, subst, sym, true, Some}
use Rattle.std.proofs.lemmas.List.{drop_all}
use Rattle.vx_heap.specs.Heaps.{IsFirst}
use Rattle.vx_heap.specs.Names.{name}
use Rattle.vx_heap.specs.Picked.{picked}
use Rattle.vx_heap.specs.Places.{row_of, under}
use Rattle.vx_heap.specs.Views.{heap, key, shared}
use Rattle.vx_heap.proofs.Tests.{drop_next}
use Rattle.vx_heap.proofs.Picked.{chosen_picked, first_behind, first_here}
use Rattle.vx_heap.proofs.heap.SymHeap.find.Goals as goal

pub loop-at-init : goal.loop-at-init
loop-at-init c =
    let k = key c.args.resource.now c.args.arguments.now in
    ap (picked true k (heap c.args.self.now)) (c.under-at-items.ensures ∙ ap (under c.args.self.now.rows) c.row.ensures ∙ c.args.self.now.listed (row_of (name c.args.resource.now)))
    ∙ chosen_picked shared true k c.args.self.now.chunks.items

pub loop-at-preserved : goal.loop-at-preserved
loop-at-preserved c =
    let k = key c.args.resource.now c.args.arguments.now in
    let h = heap c.args.self.now in
    let items = c.under-at-items.result.now in
    let i = c.loop-at.at-index in
    sym (first_behind k h (get_or items i 0) (drop (i + 1) items) (sym c.is_chosen_at.ensures ∙ c.if-is_chosen_at.false))
    ∙ ap (picked true k h) (sym (drop_next items i c.loop-at-test.true))
    ∙ c.loop-at.invariant

pub returns-then-is_chosen_at : goal.returns-then-is_chosen_at
returns-then-is_chosen_at c =
    let k = key c.args.resource.now c.args.arguments.now in
    let h = heap c.args.self.now in
    let items = c.under-at-items.result.now in
    let i = c.loop-at.at-index in
    let n = get_or items i 0 in
    subst (λ cs. IsFirst (Some n) h cs) (ap (picked true k h) (sym (drop_next items i c.loop-at-test.true)) ∙ c.loop-at.invariant)
    (first_here k h n (drop (i + 1) items) (sym c.is_chosen_at.ensures ∙ c.if-is_chosen_at.true))

pub returns : goal.returns
returns c =
    let k = key c.args.resource.now c.args.arguments.now in
    sym c.loop-at.invariant ∙ ap (picked true k (heap c.args.self.now)) (drop_all _ c.under-at-items.result.now c.loop-at-test.false)
