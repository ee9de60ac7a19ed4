use Rattle.std.proofs.Common.{◌≡◌, ℕ, ◌<◌, ◌≤◌, ◌∷◌, List, length, take, get_or, sym, ◌∙◌, ap, subst, arith}
use Rattle.std.proofs.lemmas.List.{take_all}
use Rattle.std.specs.Prelude.{flat_map}
use Rattle.vx_run.specs.Configs.{Caller, around}
use Rattle.vx_run.specs.Fresh.{largest, in_store}
use Rattle.vx_run.specs.Referenced.{waiting}
use Rattle.vx_run.specs.Stores.{store}
use Rattle.vx_run.specs.declared.state.Caller.{Caller as Caller'}
use Rattle.vx_run.specs.declared.store.Variable.{Variable}
use Rattle.vx_run.proofs.ByAll.{one_waits}
use Rattle.vx_run.proofs.Largest.{largest_in_front}
use Rattle.vx_run.proofs.fresh.with_stores.Goals as goal

pub loop-w-preserved : goal.loop-w-preserved
loop-w-preserved c =
    let ws = c.args.of.now.callers.items in
    let i = c.loop-w.w-index in
    let w = c.w-item.result in
    let test = subst (λ (us : List Caller'). i < length us) c.deref-w-items.ensures.value c.loop-w-test.true in
    let item = subst (λ (us : List Caller'). w ≡ get_or us i w) c.deref-w-items.ensures.value c.w-item.is in
    let s = store w.state.store.items in
    c.with_store-most.ensures
    ∙ ap (λ (xs : List Variable). largest (c.loop-w.most ∷ in_store (store xs))) c.deref.ensures.value
    ∙ ap (λ (n : ℕ). largest (n ∷ in_store s)) c.loop-w.invariant
    ∙ largest_in_front in_store c.args.most s (around (waiting (take i ws))).stores
    ∙ ap (λ (cs : List Caller). largest (c.args.most ∷ flat_map in_store (around cs).stores)) (sym (one_waits ws i w test item))

pub returns : goal.returns
returns c =
    let ws = c.args.of.now.callers.items in
    let s = store c.args.of.now.state.store.items in
    let past : length ws ≤ c.loop-w.w-index = (let h = c.loop-w-test.false in let e = ap length c.deref-w-items.ensures.value in omega (h, e, arith)) in
    c.with_store.ensures
    ∙ ap (λ (xs : List Variable). largest (c.loop-w.most ∷ in_store (store xs))) c.deref-2.ensures.value
    ∙ ap (λ (n : ℕ). largest (n ∷ in_store s)) (c.loop-w.invariant ∙ ap (λ (us : List Caller'). largest (c.args.most ∷ flat_map in_store (around (waiting us)).stores)) (take_all c.loop-w.w-index ws past))
    ∙ largest_in_front in_store c.args.most s (around (waiting ws)).stores
