use Rattle.std.proofs.Common.{ℕ, List, map, sym, ◌∙◌, ap}
use Rattle.vx_meaning.specs.Values.{Value}
use Rattle.vx_meaning.specs.States.{Holdings}
use Rattle.vx_resolved.specs.Resolved.{method, names_of}
use Rattle.vx_run.specs.Going.{Going, ◌>>=◌}
use Rattle.vx_run.specs.Configs.{Config, Caller, around, with_taking}
use Rattle.vx_run.specs.Frames.{rest}
use Rattle.vx_run.specs.Holding.{holdings}
use Rattle.vx_run.specs.Supplies.{supply}
use Rattle.vx_run.specs.Tasks.{put, run_by, with_caller}
use Rattle.vx_run.specs.Views.{value}
use Rattle.vx_run.proofs.calls.step_enter.Goals as goal

pub returns-in_ok-enter-in-Some-take_caller : goal.returns-in_ok-enter-in-Some-take_caller
returns-in_ok-enter-in-Some-take_caller c = λ t.
    let k = rest t c.args.frames.now.items in
    let m = method c.args.site.method.now in
    let third : List Value → Holdings → Caller → Config → Going ℕ Config = λ vs h w f.
    put f (run_by t c.args.site.level (around f.callers) m.body c.args.site.place w.state (names_of c.args.site.targets.now) m vs h) in
    let second : List Value → Holdings → Config → Going ℕ Config = λ vs h e. with_caller e (third vs h) in
    let first : List Value → Config → Going ℕ Config = λ vs d. with_taking d (second vs) in
    let vs = map value c.in-Some.vs.items in
    c.in_ok-enter-in-Some-take_caller.ensures t
    ∙ ap (λ (o : Going ℕ Config). (o >>= k) (supply c.args.supply.now))
    (sym (c.in-Some.ensures.some first ∙ c.in-Some-take_taking.ensures.some (second vs) ∙ c.in-Some-take_caller.ensures.some (third vs (holdings c.in-Some-take_taking.left))))
