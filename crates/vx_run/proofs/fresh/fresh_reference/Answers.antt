use Rattle.std.proofs.Common.{◌≡◌, ℕ, suc, ◌++◌, ◌∷◌, ◌∙◌, ap, arith}
use Rattle.vx_run.specs.Configs.{around}
use Rattle.vx_run.specs.ConfigViews.{config_of}
use Rattle.vx_run.specs.Fresh.{largest, in_holdings, references}
use Rattle.vx_run.specs.Given.{held_by_all}
use Rattle.vx_run.specs.Referenced.{in_stores, in_heaps}
use Rattle.vx_run.proofs.Largest.{largest_on, from_none}
use Rattle.vx_run.proofs.fresh.fresh_reference.Goals as goal

pub returns-in-Some : goal.returns-in-Some
returns-in-Some c =
    let d = config_of c.args.of.now in
    let stores = in_stores d.callers d.state in
    let heaps = in_heaps d.callers d.state in
    let held = in_holdings (held_by_all (around d.callers) d.state) in
    let next : c.in-Some.r ≡ suc c.in_ok-most.most = (let e = c.in-Some.ensures in omega (e, arith)) in
    next
    ∙ ap suc (c.in_ok-most.ensures
    ∙ ap (λ (n : ℕ). largest (n ∷ held)) (c.with_heaps.ensures ∙ ap (λ (n : ℕ). largest (n ∷ heaps)) c.with_stores.ensures ∙ largest_on 0 stores heaps)
    ∙ largest_on 0 (stores ++ heaps) held
    ∙ from_none (references (around d.callers) d.state))
