use Rattle.std.proofs.Common.{ℕ, Err, sym, ◌∙◌, ap}
use Rattle.vx_frac.specs.Fraction.{fraction}
use Rattle.vx_meaning.specs.States.{State, Holdings, Folded, with_holdings}
use Rattle.vx_run.specs.Widths.{within_128_bits, more}
use Rattle.vx_run.specs.Held.{instance}
use Rattle.vx_run.proofs.Steps.{bracketed, follows_as}
use Rattle.vx_run.specs.Going.{Going, ◌>>=◌, gives}
use Rattle.vx_run.specs.Configs.{Config, in_state}
use Rattle.vx_run.specs.ConfigViews.{config_of}
use Rattle.vx_run.specs.Frames.{Come}
use Rattle.vx_run.specs.Holding.{holdings}
use Rattle.vx_run.proofs.Parts.{told_on}
use Rattle.vx_run.proofs.folding.hold.Goals as goal

pub returns-in-Err : goal.returns-in-Err
returns-in-Err c = λ l.
    let d = config_of c.args.of.now in
    let m = more within_128_bits c.args.at (Folded (instance c.args.i)) (fraction c.args.q) (holdings c.args.left.now) in
    let with_it : Holdings → Going ℕ State = λ h. gives (with_holdings h d.state) in
    let put : State → Going ℕ Config = λ s. gives (in_state s d) in
    follows_as (Err c.in-Err.end) (gives d l) _ _ (told_on holdings c.in-Err.end m (λ h. with_it h >>= put) (gives d l) l c.in-Err.ensures)
    (ap (λ (o : Going ℕ Config). o l) (sym (bracketed m with_it put)))

pub returns : goal.returns
returns c = λ l.
    let d = config_of c.args.of.now in
    ap (λ (e : Config). let m : Come = gives e l in m) c.put_holdings.ensures
    ∙ ap (λ (o : Going ℕ Holdings). ((o >>= λ h. gives (with_holdings h d.state)) >>= λ s. gives (in_state s d)) l) c.in-Ok.ensures
