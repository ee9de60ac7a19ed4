use Rattle.std.proofs.Common.{ℕ, List, map, ◌∙◌, ap}
use Rattle.vx_meaning.specs.Values.{Value}
use Rattle.vx_meaning.specs.States.{State, bind, with_store}
use Rattle.vx_resolved.specs.Resolved.{function, declaration}
use Rattle.vx_resolved.specs.declared.Declaration as declared
use Rattle.vx_run.specs.Going.{Going, gives}
use Rattle.vx_run.specs.Views.{value}
use Rattle.vx_run.specs.Configs.{Config, in_state, put_value}
use Rattle.vx_run.specs.ConfigViews.{config_of}
use Rattle.vx_run.specs.Frames.{rest, before}
use Rattle.vx_run.specs.Pending.{reading, applied, state_at}
use Rattle.vx_run.proofs.Insides.{back}
use Rattle.vx_run.proofs.applying.enter_function.Goals as goal

pub returns : goal.returns
returns c = λ t l.
    let k = rest t c.args.frames.now.items in
    let b = c.args.k.blame in
    let d = config_of c.args.of.now in
    let part : State → Going ℕ Value = λ s. applied t c.args.k.level (reading c.args.r) (function c.args.f.now) s in
    let parting : Config → Going ℕ Config = λ e. put_value b e (part e.state) in
    let inner = with_store (bind (function c.args.f.now).parameters (map value c.args.vs.now)) (state_at c.args.when d.state) in
    let returning : State → Config → Going ℕ Config = λ s e. gives (in_state s e) in
    ap (λ (f : Config → Going ℕ Config). f (config_of c.enter-outer.new.self) l)
    (c.in_ok-put_function.ensures t
    ∙ ap (λ (g : Config → Going ℕ Config). before parting g) (c.in_ok-put_off.ensures t ∙ ap (λ (s : State). before (returning s) k) c.enter-outer.ensures.before))
    ∙ ap (λ (e : Config). before parting (before (returning d.state) k) e l) (c.enter-outer.ensures.after
    ∙ ap (λ (s : State). in_state s d) (c.in_ok-inner.ensures
    ∙ ap (λ (ds : List declared.Declaration). with_store (bind (map declaration ds) (map value c.args.vs.now)) (state_at c.args.when d.state)) c.deref.ensures.value))
    ∙ ap (λ (m : Going ℕ Config). m l) (back b d inner (part inner) k)
