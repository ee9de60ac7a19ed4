use Rattle.std.proofs.Common.{ℕ, sym, ◌∙◌, ap, subst}
use Rattle.vx_frac.specs.Fraction.{fraction}
use Rattle.vx_meaning.specs.States.{Holdings, with_holdings}
use Rattle.vx_run.specs.Going.{Going, ◌>>=◌, gives}
use Rattle.vx_run.specs.Configs.{Config, in_state, put_state}
use Rattle.vx_run.specs.ConfigViews.{config_of}
use Rattle.vx_run.specs.Frames.{Come}
use Rattle.vx_run.specs.Held.{resource}
use Rattle.vx_run.specs.Holding.{holdings, Ends}
use Rattle.vx_run.specs.Visits.{more_of}
use Rattle.vx_run.specs.Widths.{within_128_bits, times, more}
use Rattle.vx_run.proofs.Steps.{bracketed}
use Rattle.vx_run.proofs.Permitted.{ends_follow, tells_ends, blamed_then, put_after}
use Rattle.vx_run.proofs.giving.add_newest.Goals as goal

pub returns-in-Ok : goal.returns-in-Ok
returns-in-Ok c = λ t l.
    let b = c.args.k.blame in
    let at = c.args.at in
    let q = fraction c.args.q in
    let r = resource c.args.r.now in
    let a = fraction c.args.a in
    let old = config_of c.args.of.now in
    ap (λ (x : Config). let g : Going ℕ Config = gives x in g l) c.put_holdings.ensures
    ∙ ap (λ (n : Going ℕ Holdings). put_state b old (n >>= λ h. gives (with_holdings h old.state)) l) c.in-Ok.ensures
    ∙ ap (λ n. put_state b old n l) (bracketed (times within_128_bits at q a) (λ x. more within_128_bits at r x old.state.holdings) (λ h. gives (with_holdings h old.state)))

pub returns-in-Err : goal.returns-in-Err
returns-in-Err c = λ t l.
    let b = c.args.k.blame in
    let at = c.args.at in
    let q = fraction c.args.q in
    let r = resource c.args.r.now in
    let a = fraction c.args.a in
    let old = config_of c.args.of.now in
    let m = more_of at q (r, a) old.state.holdings in
    let same = sym (put_after b old m (λ h. with_holdings h old.state))
    ∙ ap (λ n. put_state b old n) (bracketed (times within_128_bits at q a) (λ x. more within_128_bits at r x old.state.holdings) (λ h. gives (with_holdings h old.state))) in
    ends_follow c.blamed.result _ _
    (subst (λ (n : Come). Ends c.blamed.result n) (ap (λ (n : Going ℕ Config). n l) same)
    (blamed_then c.in-Err.halt c.blamed.result b c.blamed.ensures m (λ h. gives (in_state (with_holdings h old.state) old)) l (tells_ends holdings c.in-Err.halt m l c.in-Err.ensures)))
