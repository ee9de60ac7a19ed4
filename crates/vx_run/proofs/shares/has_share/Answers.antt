use Rattle.std.proofs.Common.{Bool, ◌&&◌, sym, ◌∙◌, ap, ap₂}
use Rattle.vx_frac.specs.Fraction.{fraction}
use Rattle.vx_frac.specs.Fractions.{at_most, lowest}
use Rattle.vx_frac.proofs.Reduced.{lowest_fraction}
use Rattle.vx_meaning.specs.States.{Holdings, Instance, Folded, amount}
use Rattle.vx_run.specs.ConfigViews.{state_of}
use Rattle.vx_run.specs.Held.{instance}
use Rattle.vx_run.specs.Pending.{state_at}
use Rattle.vx_run.proofs.Totals.{at_most_lowest}
use Rattle.vx_run.proofs.shares.has_share.Goals as goal

pub returns-then-is_above_none : goal.returns-then-is_above_none
returns-then-is_above_none c =
    let q = fraction c.args.q in
    let t = amount (state_at c.args.when (state_of c.args.state.now)).holdings (Folded (instance c.args.i.now)) in
    let total = c.amount-held.ensures ∙ ap₂ (λ (h : Holdings) (i : Instance). lowest (amount h (Folded i))) c.holdings_at.ensures c.in_ok-copy.ensures in
    c.is_at_most.ensures
    ∙ sym (at_most_lowest q t ∙ ap₂ at_most (lowest_fraction c.args.q) (sym total))
    ∙ ap (λ (b : Bool). b && at_most q t) (sym c.if-is_above_none.true ∙ c.is_above_none.ensures)
