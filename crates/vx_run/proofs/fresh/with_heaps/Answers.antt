use Rattle.std.proofs.Common.{◌≡◌, ℕ, ◌<◌, ◌≤◌, ◌∷◌, List, length, map, take, get_or, sym, ◌∙◌, ap, subst, arith}
use Rattle.std.proofs.lemmas.List.{take_all}
use Rattle.std.specs.Prelude.{flat_map}
use Rattle.vx_run.specs.Configs.{Caller, around}
use Rattle.vx_run.specs.Fresh.{largest, in_heap}
use Rattle.vx_run.specs.Held.{heap}
use Rattle.vx_run.specs.Referenced.{waiting}
use Rattle.vx_run.specs.declared.state.Caller.{Caller as Caller'}
use Rattle.vx_run.specs.declared.heap.Heap.{Heap as Heap'}
use Rattle.vx_run.proofs.ByAll.{one_waits}
use Rattle.vx_run.proofs.Largest.{largest_in_front}
use Rattle.vx_run.proofs.fresh.with_heaps.Goals as goal

pub loop-w-preserved : goal.loop-w-preserved
loop-w-preserved c =
    let ws = c.args.of.now.callers.items in
    let i = c.loop-w.w-index in
    let w = c.w-item.result in
    let test = subst (λ (us : List Caller'). i < length us) c.deref-w-items.ensures.value c.loop-w-test.true in
    let item = subst (λ (us : List Caller'). w ≡ get_or us i w) c.deref-w-items.ensures.value c.w-item.is in
    let h = heap w.state.old_heap.value in
    c.with_heap-most.ensures
    ∙ ap (λ (x : Heap'). largest (c.loop-w.most ∷ in_heap (heap x))) c.deref.ensures
    ∙ ap (λ (n : ℕ). largest (n ∷ in_heap h)) c.loop-w.invariant
    ∙ largest_in_front in_heap c.args.most h (map (λ o. o.0) (around (waiting (take i ws))).olds)
    ∙ ap (λ (cs : List Caller). largest (c.args.most ∷ flat_map in_heap (map (λ o. o.0) (around cs).olds))) (sym (one_waits ws i w test item))

pub returns : goal.returns
returns c =
    let ws = c.args.of.now.callers.items in
    let now = heap c.args.of.now.state.heap.value in
    let old = heap c.args.of.now.state.old_heap.value in
    let past : length ws ≤ c.loop-w.w-index = (let h = c.loop-w-test.false in let e = ap length c.deref-w-items.ensures.value in omega (h, e, arith)) in
    let rest = map (λ o. o.0) (around (waiting ws)).olds in
    c.with_heap-2.ensures
    ∙ ap (λ (x : Heap'). largest (c.with_heap.result ∷ in_heap (heap x))) c.deref-3.ensures
    ∙ ap (λ (n : ℕ). largest (n ∷ in_heap now)) (c.with_heap.ensures
    ∙ ap (λ (x : Heap'). largest (c.loop-w.most ∷ in_heap (heap x))) c.deref-2.ensures
    ∙ ap (λ (n : ℕ). largest (n ∷ in_heap old)) (c.loop-w.invariant ∙ ap (λ (us : List Caller'). largest (c.args.most ∷ flat_map in_heap (map (λ o. o.0) (around (waiting us)).olds))) (take_all c.loop-w.w-index ws past))
    ∙ largest_in_front in_heap c.args.most old rest)
    ∙ largest_in_front in_heap c.args.most now (old ∷ rest)
