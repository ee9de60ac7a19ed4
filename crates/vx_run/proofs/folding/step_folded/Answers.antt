use Rattle.std.proofs.Common.{ℕ, List, map, sym, ◌∙◌, ap}
use Rattle.std.specs.Prelude.{string_bytes}
use Rattle.vx_frac.specs.Fraction.{fraction}
use Rattle.vx_meaning.specs.Values.{Value}
use Rattle.vx_meaning.specs.States.{Holdings, Instance}
use Rattle.vx_run.specs.Going.{Going}
use Rattle.vx_run.specs.Configs.{Config, with_taking}
use Rattle.vx_run.specs.ConfigViews.{config_of}
use Rattle.vx_run.specs.Holding.{holdings}
use Rattle.vx_run.specs.Tasks.{put, held_with}
use Rattle.vx_run.specs.Views.{value}
use Rattle.vx_run.proofs.Steps.{follows_as}
use Rattle.vx_run.proofs.folding.step_folded.Goals as goal

pub returns-in_ok-held-in-Some-take_taking : goal.returns-in_ok-held-in-Some-take_taking
returns-in_ok-held-in-Some-take_taking c = λ l.
    let d = config_of c.take_taking.new.of in
    let i = string_bytes c.args.i.now.value in
    let q = fraction c.args.q in
    let h = holdings c.in-Some-take_taking.left in
    let vs = map value c.in-Some.vs.items in
    let second : List Value → Holdings → Config → Going ℕ Config = λ us g e. put e (held_with c.args.at (record { predicate = i; arguments = us }) q g e.state) in
    let first : List Value → Config → Going ℕ Config = λ us e. with_taking e (second us) in
    follows_as _ _ _ _ (c.hold.ensures l)
    (ap (λ (x : Instance). put d (held_with c.args.at x q h d.state) l) c.in_ok-held-in-Some-take_taking.ensures
    ∙ ap (λ (o : Going ℕ Config). o l) (sym (c.in-Some.ensures.some first ∙ c.in-Some-take_taking.ensures.some (second vs))))
