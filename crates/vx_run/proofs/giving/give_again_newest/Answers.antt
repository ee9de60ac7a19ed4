use Rattle.std.proofs.Common.{ℕ, sym, ◌∙◌, ap, subst}
use Rattle.vx_frac.specs.Fraction.{fraction}
use Rattle.vx_meaning.specs.States.{Holdings, with_holdings}
use Rattle.vx_resolved.specs.Settled.{settled}
use Rattle.vx_run.specs.Going.{Going, ◌>>=◌}
use Rattle.vx_run.specs.Configs.{Setting, Config, put_state}
use Rattle.vx_run.specs.ConfigViews.{config_of}
use Rattle.vx_run.specs.Frames.{Come}
use Rattle.vx_run.specs.Held.{resource}
use Rattle.vx_run.specs.Holding.{holdings, Ends}
use Rattle.vx_run.specs.Visits.{more_of, possible_or_stop}
use Rattle.vx_run.specs.Widths.{within_128_bits, times, more}
use Rattle.vx_run.proofs.Steps.{bracketed, follows_as}
use Rattle.vx_run.proofs.Permitted.{ends_follow, tells_ends, blamed_then, put_then}
use Rattle.vx_run.proofs.giving.give_again_newest.Goals as goal

pub returns-in-Ok : goal.returns-in-Ok
returns-in-Ok c = λ l.
    let t : Setting = record { program = settled c.args.program.now; steps = c.args.steps } in
    let b = c.args.k.blame in
    let at = c.args.at in
    let q = fraction c.args.q in
    let r = resource c.args.r.now in
    let a = fraction c.args.a in
    let old = config_of c.args.of.now in
    follows_as _ _ _ _ (c.stop_unless_possible.ensures l)
    (ap (λ (x : Config). put_state b x (possible_or_stop t at x x.state) l) c.put_holdings.ensures
    ∙ ap (λ (n : Going ℕ Holdings). put_state b old (n >>= λ h. possible_or_stop t at old (with_holdings h old.state)) l) c.in-Ok.ensures
    ∙ ap (λ n. put_state b old n l) (bracketed (times within_128_bits at q a) (λ x. more within_128_bits at r x old.state.holdings) (λ h. possible_or_stop t at old (with_holdings h old.state))))

pub returns-in-Err : goal.returns-in-Err
returns-in-Err c = λ l.
    let t : Setting = record { program = settled c.args.program.now; steps = c.args.steps } in
    let b = c.args.k.blame in
    let at = c.args.at in
    let q = fraction c.args.q in
    let r = resource c.args.r.now in
    let a = fraction c.args.a in
    let old = config_of c.args.of.now in
    let m = more_of at q (r, a) old.state.holdings in
    let same = sym (put_then b old m (λ h. possible_or_stop t at old (with_holdings h old.state)))
    ∙ ap (λ n. put_state b old n) (bracketed (times within_128_bits at q a) (λ x. more within_128_bits at r x old.state.holdings) (λ h. possible_or_stop t at old (with_holdings h old.state))) in
    ends_follow c.blamed.result _ _
    (subst (λ (n : Come). Ends c.blamed.result n) (ap (λ (n : Going ℕ Config). n l) same)
    (blamed_then c.in-Err.halt c.blamed.result b c.blamed.ensures m (λ h. put_state b old (possible_or_stop t at old (with_holdings h old.state))) l (tells_ends holdings c.in-Err.halt m l c.in-Err.ensures)))
