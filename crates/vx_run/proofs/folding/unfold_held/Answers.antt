use Rattle.std.proofs.Common.{Err, ℕ, map, sym, ◌∙◌, ap}
use Rattle.vx_frac.specs.Fraction.{fraction}
use Rattle.vx_meaning.specs.States.{Holdings, bind}
use Rattle.vx_resolved.specs.Resolved.{assertion, declaration}
use Rattle.vx_run.specs.Going.{Going, ◌>>=◌}
use Rattle.vx_run.specs.Configs.{Config}
use Rattle.vx_run.specs.ConfigViews.{config_of}
use Rattle.vx_run.specs.Frames.{rest, before}
use Rattle.vx_run.specs.Held.{resource}
use Rattle.vx_run.specs.Holding.{holdings}
use Rattle.vx_run.specs.Tasks.{body_given}
use Rattle.vx_run.specs.Views.{value}
use Rattle.vx_run.specs.Widths.{within_128_bits, less}
use Rattle.vx_run.proofs.Steps.{bracketed, follows_as}
use Rattle.vx_run.proofs.Parts.{told_on}
use Rattle.vx_run.proofs.folding.unfold_held.Goals as goal

pub returns-in-Err : goal.returns-in-Err
returns-in-Err c = λ t l.
    let d = config_of c.args.of.now in
    let k = rest t c.args.frames.now.items in
    let x = bind (map declaration c.args.parameters.now) (map value c.args.vs.now) in
    let given : Holdings → Config → Going ℕ Config = λ h. body_given t c.args.level c.args.at (fraction c.args.q) x (assertion c.args.body.now) h in
    let m = less within_128_bits c.args.at (resource c.args.r.now) (fraction c.args.q) d.state.holdings in
    follows_as (Err c.in-Err.end) (rest t c.args.frames.now.items d l) _ _ (told_on holdings c.in-Err.end m (λ h. before (given h) k d) (rest t c.args.frames.now.items d l) l c.in-Err.ensures)
    (ap (λ (o : Going ℕ Config). o l) (sym (bracketed m (λ h. given h d) k)))

pub returns-in_ok-give_body-in-Ok : goal.returns-in_ok-give_body-in-Ok
returns-in_ok-give_body-in-Ok c = λ t l.
    let d = config_of c.args.of.now in
    let k = rest t c.args.frames.now.items in
    let x = bind (map declaration c.args.parameters.now) (map value c.args.vs.now) in
    let given : Holdings → Config → Going ℕ Config = λ h. body_given t c.args.level c.args.at (fraction c.args.q) x (assertion c.args.body.now) h in
    c.in_ok-give_body-in-Ok.ensures t l ∙ ap (λ (o : Going ℕ Holdings). ((o >>= λ h. given h d) >>= k) l) c.in-Ok.ensures
