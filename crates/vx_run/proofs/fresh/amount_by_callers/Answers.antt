use Rattle.std.proofs.Common.{◌≤◌, pos, List, length, take, sym, ◌∙◌, ap, ap₂, arith}
use Rattle.std.proofs.lemmas.List.{take_all}
use Rattle.vx_frac.specs.Fractions.{Fraction, lowest, sum}
use Rattle.vx_frac.proofs.Whole.{lowest_whole}
use Rattle.vx_meaning.specs.States.{amount}
use Rattle.vx_run.specs.Configs.{Caller, around}
use Rattle.vx_run.specs.Held.{resource}
use Rattle.vx_run.specs.Holding.{holdings}
use Rattle.vx_run.specs.Referenced.{waiting}
use Rattle.vx_run.specs.declared.state.Caller.{Caller as Caller'}
use Rattle.vx_run.proofs.ByAll.{both_held, one_waits}
use Rattle.vx_run.proofs.fresh.amount_by_callers.Goals as goal

pub loop-w-init : goal.loop-w-init
loop-w-init c = c.whole-sum.ensures ∙ sym (lowest_whole (pos 0))

pub loop-w-preserved : goal.loop-w-preserved
loop-w-preserved c =
    let ws = c.args.callers.now in
    let r = resource c.args.r.now in
    let i = c.loop-w.w-index in
    let w = c.w-item.result in
    let so_far = (around (waiting (take i ws))).holdings in
    c.in-Ok.ensures.value
    ∙ ap₂ (λ (a b : Fraction). lowest (sum a b)) c.loop-w.invariant c.amount.ensures
    ∙ both_held so_far (holdings w.left) r
    ∙ ap (λ (cs : List Caller). lowest (amount (around cs).holdings r)) (sym (one_waits ws i w c.loop-w-test.true c.w-item.is))

pub returns : goal.returns
returns c =
    let ws = c.args.callers.now in
    let past : length ws ≤ c.loop-w.w-index = (let h = c.loop-w-test.false in omega (h, arith)) in
    c.loop-w.invariant ∙ ap (λ (us : List Caller'). lowest (amount (around (waiting us)).holdings (resource c.args.r.now))) (take_all c.loop-w.w-index ws past)
