use Rattle.std.proofs.Common.{ℕ, Bool, true, false, not, ◌&&◌, Result, Err, sym, ◌∙◌, ap, subst}
use Rattle.vx_frac.specs.Fraction.{fraction}
use Rattle.vx_frac.specs.Fractions.{at_most, is_positive, lowest}
use Rattle.vx_meaning.specs.States.{Heap, Holdings, Resource, At, amount}
use Rattle.vx_resolved.specs.Settled.{settled}
use Rattle.vx_run.specs.Draws.{by_draws}
use Rattle.vx_run.specs.Given as given
use Rattle.vx_run.specs.Given.{Filling}
use Rattle.vx_run.specs.Going.{Going, Outcome, Supply, ◌>>=◌, continued, gives, require, Failed}
use Rattle.vx_run.specs.Held as held
use Rattle.vx_run.specs.Holding.{holdings, Tells}
use Rattle.vx_run.specs.Fillings.{filling, TellsFrom}
use Rattle.vx_run.specs.Supplies.{supply}
use Rattle.vx_run.specs.Widths as widths
use Rattle.vx_run.specs.Widths.{within_128_bits}
use Rattle.vx_run.proofs.Permitted.{bounded, tells_from_end}
use Rattle.vx_run.proofs.Totals.{positive_lowest}
use Rattle.vx_run.proofs.Exits.{handed_on}
use Rattle.vx_run.proofs.filling.fill_location.Goals as goal

pub returns-in_err-totals : goal.returns-in_err-totals
returns-in_err-totals c =
    let p = settled c.args.program.now in
    let w = filling c.args.w.now in
    let l = held.location c.args.l.now in
    let q = fraction c.args.q in
    let at = c.args.at in
    let last = λ (totals : Holdings). require (at_most (amount totals (At l)) (given.most_of l)) (Failed at) >>= λ u.
    given.valued p by_draws within_128_bits (is_positive q && not (is_positive (amount w.totals (At l)))) l w.heap >>= λ h. (let g : Going ℕ Filling = gives record { heap = h; totals = totals } in g) in
    let s = supply c.args.from.now in
    let first = widths.more {S = ℕ} within_128_bits at (At l) q w.totals in
    handed_on c.from_residual-in_err-totals.result c.in_err-totals.field-0.0 (λ y. TellsFrom filling y s ((first >>= last) s)) c.from_residual-in_err-totals.ensures.1
    (tells_from_end holdings filling c.in_err-totals.field-0.0 first last s s
    (subst (λ (r : Resource). Tells holdings (Err c.in_err-totals.field-0.0) (widths.more within_128_bits at r q w.totals)) (ap At c.in_ok-copy.ensures) c.in_err-totals.ensures))

pub returns-then-is_less : goal.returns-then-is_less
returns-then-is_less c =
    let p = settled c.args.program.now in
    let w = filling c.args.w.now in
    let l = held.location c.args.l.now in
    let q = fraction c.args.q in
    let at = c.args.at in
    let s = supply c.args.from.now in
    let more = holdings c.in_ok-totals.totals in
    let given_more = ap (λ (r : Resource). widths.more {S = ℕ} within_128_bits at r q w.totals) (ap At c.in_ok-copy.ensures) in
    let rest = λ (totals : Holdings). given.valued p by_draws within_128_bits (is_positive q && not (is_positive (amount w.totals (At l)))) l w.heap >>= λ h. (let g : Going ℕ Filling = gives record { heap = h; totals = totals } in g) in
    let fits = ap not (sym c.if-is_less.true ∙ c.is_less.ensures) ∙ sym (bounded c.most_of.result c.amount.result (amount more (At l)) (c.amount.ensures ∙ ap (λ (r : Resource). lowest (amount more r)) (ap At c.in_ok-copy.ensures)))
    ∙ ap (at_most (amount more (At l))) c.most_of.ensures in
    ap (λ (y : Bool). (require y (Failed at) >>= λ u. rest more) s) fits
    ∙ ap (λ (m : Going ℕ Holdings). (m >>= λ totals. require (at_most (amount totals (At l)) (given.most_of l)) (Failed at) >>= λ u. rest totals) s) (c.in_ok-totals.ensures ∙ given_more)

pub returns : goal.returns
returns c =
    let p = settled c.args.program.now in
    let w = filling c.args.w.now in
    let l = held.location c.args.l.now in
    let q = fraction c.args.q in
    let at = c.args.at in
    let s = supply c.args.from.now in
    let more = holdings c.in_ok-totals.totals in
    let given_more = ap (λ (r : Resource). widths.more {S = ℕ} within_128_bits at r q w.totals) (ap At c.in_ok-copy.ensures) in
    let put = λ (totals : Holdings) (h : Heap). (let g : Going ℕ Filling = gives record { heap = h; totals = totals } in g) in
    let is_first = is_positive q && not (is_positive (amount w.totals (At l))) in
    let first = c.is_new-is_first.ensures ∙ ap (λ (y : Bool). is_positive q && not y) (ap is_positive (c.amount-2.ensures ∙ ap (λ (r : Resource). lowest (amount w.totals r)) (ap At c.in_ok-copy.ensures)) ∙ sym (positive_lowest (amount w.totals (At l)))) in
    let fits = ap not (sym c.if-is_less.false ∙ c.is_less.ensures) ∙ sym (bounded c.most_of.result c.amount.result (amount more (At l)) (c.amount.ensures ∙ ap (λ (r : Resource). lowest (amount more r)) (ap At c.in_ok-copy.ensures)))
    ∙ ap (at_most (amount more (At l))) c.most_of.ensures in
    ap (λ (x : Result (Heap × Supply ℕ) Outcome). continued x (put more)) (sym c.in_ok-heap.ensures ∙ ap (λ (y : Bool). given.valued p by_draws within_128_bits y l w.heap s) first)
    ∙ ap (λ (y : Bool). (require y (Failed at) >>= λ u. given.valued p by_draws within_128_bits is_first l w.heap >>= put more) s) fits
    ∙ ap (λ (m : Going ℕ Holdings). (m >>= λ totals. require (at_most (amount totals (At l)) (given.most_of l)) (Failed at) >>= λ u. given.valued p by_draws within_128_bits is_first l w.heap >>= put totals) s)
    (c.in_ok-totals.ensures ∙ given_more)
