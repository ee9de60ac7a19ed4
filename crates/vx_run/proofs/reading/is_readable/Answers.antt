use Rattle.std.proofs.Common.{Bool, Some, None, sym, ◌∙◌, ap, ap₂}
use Rattle.std.specs.Prelude.{if◌then◌else◌}
use Rattle.vx_frac.specs.Fractions.{lowest, is_positive}
use Rattle.vx_meaning.specs.States.{Holdings, Location, At, amount, value_at}
use Rattle.vx_run.specs.Evaluated.{read}
use Rattle.vx_run.specs.Held.{location}
use Rattle.vx_run.specs.ConfigViews.{state_of}
use Rattle.vx_run.specs.Pending.{reading, state_at}
use Rattle.vx_run.specs.declared.context.Reading.{Reading}
use Rattle.vx_run.proofs.Totals.{positive_lowest}
use Rattle.vx_run.proofs.reading.is_readable.Goals as goal

pub returns-in_ok-copy-in-Permitted : goal.returns-in_ok-copy-in-Permitted
returns-in_ok-copy-in-Permitted c = λ p.
    let s = state_at c.args.when (state_of c.args.state.now) in
    let l = location c.args.l.now in
    let held = c.amount-held.ensures ∙ ap₂ (λ (h : Holdings) (m : Location). lowest (amount h (At m))) c.holdings_at.ensures c.in_ok-copy-in-Permitted.ensures in
    ap (λ (r : Reading). read p (reading r) s l) c.in-Permitted.is
    ∙ ap (λ (b : Bool). if b then Some (value_at p s.heap l) else None) (positive_lowest (amount s.holdings (At l)) ∙ ap is_positive (sym held) ∙ sym c.is_above_none.ensures)
