use Rattle.std.proofs.Common.{List, ◌∙◌, ap, ap₂}
use Rattle.vx_frac.specs.Fractions.{Fraction, lowest, sum}
use Rattle.vx_meaning.specs.States.{amount}
use Rattle.vx_run.specs.Configs.{around}
use Rattle.vx_run.specs.Held.{resource}
use Rattle.vx_run.specs.Holding.{holdings}
use Rattle.vx_run.specs.Referenced.{waiting}
use Rattle.vx_run.specs.declared.state.Caller.{Caller}
use Rattle.vx_run.proofs.ByAll.{both_held}
use Rattle.vx_run.proofs.fresh.amount_by_all.Goals as goal

pub returns-in-Ok : goal.returns-in-Ok
returns-in-Ok c =
    let r = resource c.args.r.now in
    c.in-Ok.ensures.value
    ∙ ap₂ (λ (a b : Fraction). lowest (sum a b))
    (c.in_ok-amount_by_callers.ensures ∙ ap (λ (ws : List Caller). lowest (amount (around (waiting ws)).holdings r)) c.deref.ensures.value) c.amount.ensures
    ∙ both_held (around (waiting c.args.of.now.callers.items)).holdings (holdings c.args.of.now.state.holdings) r
