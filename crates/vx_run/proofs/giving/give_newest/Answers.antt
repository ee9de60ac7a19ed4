use Rattle.std.proofs.Common.{ℕ, sym, ◌∙◌, ap, subst}
use Rattle.vx_frac.specs.Fraction.{fraction}
use Rattle.vx_frac.specs.Fractions.{Fraction}
use Rattle.vx_meaning.specs.States.{State, Holdings, with_heap, with_holdings}
use Rattle.vx_run.specs.Blame.{within}
use Rattle.vx_resolved.specs.Settled.{settled}
use Rattle.vx_run.specs.Draws.{by_draws}
use Rattle.vx_run.specs.Given.{all_held, filled}
use Rattle.vx_run.specs.Going.{Going, ◌>>=◌, failing_as, Stopped}
use Rattle.vx_run.specs.Configs.{Setting, Config, around, put_state}
use Rattle.vx_run.specs.ConfigViews.{config_of}
use Rattle.vx_run.specs.Frames.{Come, rest}
use Rattle.vx_run.specs.Held.{resource}
use Rattle.vx_run.specs.Holding.{holdings, Ends}
use Rattle.vx_run.specs.Pending.{deeper_by}
use Rattle.vx_run.specs.Supplies.{supply}
use Rattle.vx_run.specs.Visits.{possible_or_stop}
use Rattle.vx_run.specs.Widths.{within_128_bits, times, more, written_all}
use Rattle.vx_run.proofs.Steps.{follows_as}
use Rattle.vx_run.proofs.Permitted.{ends_follow, ends_on, tells_ends, blamed_then, put_then}
use Rattle.vx_run.proofs.giving.give_newest.Goals as goal

pub returns-in-Ok-more : goal.returns-in-Ok-more
returns-in-Ok-more c =
    let t : Setting = record { program = settled c.args.program.now; steps = c.args.steps } in
    let k = c.args.k in
    let at = c.args.at in
    let r = resource c.args.r in
    let old = config_of c.args.of.now in
    let b = fraction c.in-Ok.b in
    let l = supply c.args.from.now in
    let g = rest t c.args.frames.now.items in
    let after = λ (x : Fraction) (h : Holdings). failing_as (Stopped at) (filled t.program by_draws within_128_bits (deeper_by t k.level) t.steps (around old.callers) k.level at r x
    (record { heap = old.state.heap; totals = written_all within_128_bits (all_held t.program t.steps (around old.callers) old.state) })) >>= λ w. possible_or_stop t at old (with_holdings h (with_heap w.heap old.state)) in
    follows_as _ _ _ _ c.give_held.ensures
    (ap (λ (m : Going ℕ Holdings). (put_state k.blame old (m >>= after b) >>= g) l) c.in-Ok-more.ensures
    ∙ ap (λ (m : Going ℕ Fraction). (put_state k.blame old (m >>= λ x. more within_128_bits at r x old.state.holdings >>= after x) >>= g) l) c.in-Ok.ensures)

pub returns-in-Err : goal.returns-in-Err
returns-in-Err c =
    let t : Setting = record { program = settled c.args.program.now; steps = c.args.steps } in
    let k = c.args.k in
    let at = c.args.at in
    let r = resource c.args.r in
    let old = config_of c.args.of.now in
    let l = supply c.args.from.now in
    let g = rest t c.args.frames.now.items in
    let after : Fraction → Holdings → Going ℕ State = λ x h. failing_as (Stopped at) (filled t.program by_draws within_128_bits (deeper_by t k.level) t.steps (around old.callers) k.level at r x
    (record { heap = old.state.heap; totals = written_all within_128_bits (all_held t.program t.steps (around old.callers) old.state) })) >>= λ w. possible_or_stop t at old (with_holdings h (with_heap w.heap old.state)) in
    let m : Going ℕ Fraction = times within_128_bits at (fraction c.args.q) (fraction c.args.a) in
    let f : Fraction → Going ℕ State = λ x. more within_128_bits at r x old.state.holdings >>= after x in
    ends_follow c.blamed.result _ _
    (ends_on c.blamed.result (put_state k.blame old (m >>= f) l) g
    (subst (λ (n : Come). Ends c.blamed.result n) (ap (λ (n : Going ℕ Config). n l) (sym (put_then k.blame old m f)))
    (blamed_then c.in-Err.halt c.blamed.result k.blame c.blamed.ensures m (λ x. put_state k.blame old (f x)) l (tells_ends fraction c.in-Err.halt m l c.in-Err.ensures))))

pub returns-in-Err-more : goal.returns-in-Err-more
returns-in-Err-more c =
    let t : Setting = record { program = settled c.args.program.now; steps = c.args.steps } in
    let k = c.args.k in
    let at = c.args.at in
    let r = resource c.args.r in
    let old = config_of c.args.of.now in
    let l = supply c.args.from.now in
    let g = rest t c.args.frames.now.items in
    let after : Fraction → Holdings → Going ℕ State = λ x h. failing_as (Stopped at) (filled t.program by_draws within_128_bits (deeper_by t k.level) t.steps (around old.callers) k.level at r x
    (record { heap = old.state.heap; totals = written_all within_128_bits (all_held t.program t.steps (around old.callers) old.state) })) >>= λ w. possible_or_stop t at old (with_holdings h (with_heap w.heap old.state)) in
    let b = fraction c.in-Ok.b in
    let m : Going ℕ Holdings = more within_128_bits at r b old.state.holdings in
    let y = c.blamed-in-Err-more.result in
    ends_follow y _ _
    (subst (λ (n : Come). Ends y n)
    (ap (λ (n : Going ℕ Config). (n >>= g) l) (sym (put_then k.blame old m (after b)))
    ∙ ap (λ (n : Going ℕ Fraction). (put_state k.blame old (n >>= λ x. more within_128_bits at r x old.state.holdings >>= after x) >>= g) l) c.in-Ok.ensures)
    (ends_on y ((within k.blame m >>= λ h. put_state k.blame old (after b h)) l) g
    (blamed_then c.in-Err-more.halt y k.blame c.blamed-in-Err-more.ensures m (λ h. put_state k.blame old (after b h)) l (tells_ends holdings c.in-Err-more.halt m l c.in-Err-more.ensures))))
