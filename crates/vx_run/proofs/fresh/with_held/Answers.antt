use Rattle.std.proofs.Common.{◌≡◌, ℕ, ◌<◌, ◌≤◌, ◌∷◌, List, length, take, get_or, sym, ◌∙◌, ap, subst, arith}
use Rattle.std.proofs.lemmas.List.{take_all}
use Rattle.vx_run.specs.Configs.{Caller, around}
use Rattle.vx_run.specs.ConfigViews.{config_of}
use Rattle.vx_run.specs.Fresh.{largest}
use Rattle.vx_run.specs.Given.{held_by_all}
use Rattle.vx_run.specs.Held.{entries}
use Rattle.vx_run.specs.Holding.{holdings}
use Rattle.vx_run.specs.declared.entries.Entries.{Entries}
use Rattle.vx_run.specs.Referenced.{waiting, in_part}
use Rattle.vx_run.specs.declared.state.Caller.{Caller as Caller'}
use Rattle.vx_run.proofs.ByAll.{one_waits, part_on}
use Rattle.vx_run.proofs.Largest.{largest_on}
use Rattle.vx_run.proofs.fresh.with_held.Goals as goal

pub loop-w-preserved : goal.loop-w-preserved
loop-w-preserved c =
    let ws = c.args.of.now.callers.items in
    let all = held_by_all (around (config_of c.args.of.now).callers) (config_of c.args.of.now).state in
    let i = c.loop-w.w-index in
    let w = c.w-item.result in
    let test = subst (λ (us : List Caller'). i < length us) c.deref-w-items.ensures.value c.loop-w-test.true in
    let item = subst (λ (us : List Caller'). w ≡ get_or us i w) c.deref-w-items.ensures.value c.w-item.is in
    let h = holdings w.left in
    let so_far = (around (waiting (take i ws))).holdings in
    c.in_ok-most.ensures
    ∙ ap (λ (e : Entries). largest (c.loop-w.most ∷ in_part all (entries e))) c.deref.ensures
    ∙ ap (λ (n : ℕ). largest (n ∷ in_part all h)) c.loop-w.invariant
    ∙ largest_on c.args.most (in_part all so_far) (in_part all h)
    ∙ ap (λ (l : List ℕ). largest (c.args.most ∷ l)) (sym (part_on all so_far h))
    ∙ ap (λ (cs : List Caller). largest (c.args.most ∷ in_part all (around cs).holdings)) (sym (one_waits ws i w test item))

pub returns : goal.returns
returns c =
    let ws = c.args.of.now.callers.items in
    let all = held_by_all (around (config_of c.args.of.now).callers) (config_of c.args.of.now).state in
    let so_far = (around (waiting ws)).holdings in
    let now = holdings c.args.of.now.state.holdings in
    let past : length ws ≤ c.loop-w.w-index = (let h = c.loop-w-test.false in let e = ap length c.deref-w-items.ensures.value in omega (h, e, arith)) in
    c.in_ok-last.ensures
    ∙ ap (λ (e : Entries). largest (c.loop-w.most ∷ in_part all (entries e))) c.deref-2.ensures
    ∙ ap (λ (n : ℕ). largest (n ∷ in_part all now))
    (c.loop-w.invariant ∙ ap (λ (us : List Caller'). largest (c.args.most ∷ in_part all (around (waiting us)).holdings)) (take_all c.loop-w.w-index ws past))
    ∙ largest_on c.args.most (in_part all so_far) (in_part all now)
    ∙ ap (λ (l : List ℕ). largest (c.args.most ∷ l)) (sym (part_on all so_far now))
