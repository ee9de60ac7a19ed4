use Rattle.std.proofs.Common.{ℕ, Bool, true, false, not, sym, ◌∙◌, ap, subst}
use Rattle.vx_frac.specs.Fraction.{fraction}
use Rattle.vx_frac.specs.Fractions.{Fraction, at_most}
use Rattle.vx_meaning.specs.States.{Holdings, amount}
use Rattle.vx_run.specs.Going.{Going, ◌>>=◌, require, Failed}
use Rattle.vx_run.specs.Widths.{within_128_bits, times, less}
use Rattle.vx_run.specs.Held.{resource}
use Rattle.vx_run.specs.Holding.{holdings, Tells}
use Rattle.vx_run.proofs.Permitted.{tells_end, tells_then, enough}
use Rattle.vx_run.proofs.Exits.{handed_on}
use Rattle.vx_run.proofs.permissions.taken.Goals as goal

pub returns-in_err-b : goal.returns-in_err-b
returns-in_err-b c = λ t k s.
    let h = holdings c.args.from.now in
    let r = resource c.args.r.now in
    let first = times {S = ℕ} within_128_bits c.args.at (fraction c.args.q) (fraction c.args.a) in
    let on : Fraction → Going ℕ Holdings = λ x. require (at_most x (amount h r)) (Failed c.args.at) >>= λ u. less within_128_bits c.args.at r x h in
    handed_on c.from_residual.result c.in_err-b.field-0.0 (λ y. Tells holdings y (first >>= on)) c.from_residual.ensures.1
    (tells_end fraction holdings c.in_err-b.field-0.0 first on c.in_err-b.ensures)

pub returns-then-is_less : goal.returns-then-is_less
returns-then-is_less c = λ t k s.
    let h = holdings c.args.from.now in
    let r = resource c.args.r.now in
    let b = fraction c.in_ok-b.b in
    let on : Fraction → Going ℕ Holdings = λ x. require (at_most x (amount h r)) (Failed c.args.at) >>= λ u. less within_128_bits c.args.at r x h in
    let by : Bool → Going ℕ Holdings = λ y. require y (Failed c.args.at) >>= λ u. less within_128_bits c.args.at r b h in
    ap by (ap not (sym c.if-is_less.true ∙ c.is_less.ensures) ∙ sym (enough c.amount.result c.in_ok-b.b (amount h r) c.amount.ensures))
    ∙ ap (λ (m : Going ℕ Fraction). m >>= on) c.in_ok-b.ensures

pub returns : goal.returns
returns c = λ t k s.
    let h = holdings c.args.from.now in
    let r = resource c.args.r.now in
    let b = fraction c.in_ok-b.b in
    tells_then holdings _ _ b (λ x. require (at_most x (amount h r)) (Failed c.args.at) >>= λ u. less within_128_bits c.args.at r x h) c.in_ok-b.ensures
    (subst (λ (y : Bool). Tells holdings c.less.result (require y (Failed c.args.at) >>= λ u. less within_128_bits c.args.at r b h))
    (ap not (sym c.if-is_less.false ∙ c.is_less.ensures) ∙ sym (enough c.amount.result c.in_ok-b.b (amount h r) c.amount.ensures)) c.less.ensures)
