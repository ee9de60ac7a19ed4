use Rattle.std.proofs.Common.{ℕ, ◌∙◌, ap}
use Rattle.vx_frac.specs.Fraction.{fraction}
use Rattle.vx_meaning.specs.Values.{Value}
use Rattle.vx_meaning.specs.States.{State, Store, with_store}
use Rattle.vx_resolved.specs.Resolved.{assertion, expr}
use Rattle.vx_run.specs.Evaluated.{Permitted, add}
use Rattle.vx_run.specs.Going.{Going, gives}
use Rattle.vx_run.specs.Widths.{within_128_bits}
use Rattle.vx_run.specs.Configs.{Config, in_state, put_value, put_state}
use Rattle.vx_run.specs.ConfigViews.{config_of, state_of}
use Rattle.vx_run.specs.Frames.{rest, before}
use Rattle.vx_run.specs.Pending.{evaluate, deeper_by}
use Rattle.vx_run.specs.Stores.{store}
use Rattle.vx_run.proofs.Insides.{added_first}
use Rattle.vx_run.proofs.unfolding.enter_body.Goals as goal

pub returns : goal.returns
returns c = λ t l.
    let k = rest t c.args.frames.now.items in
    let b = c.args.k.blame in
    let inner = c.args.inner in
    let d = config_of c.args.of.now in
    let s = state_of c.args.state in
    let value : State → Going ℕ Value = λ u. evaluate t c.args.k.level Permitted u (expr c.args.e.now) in
    let adding : State → Going ℕ State = λ u. add t.program within_128_bits (deeper_by t inner.level) (fraction c.args.q) (assertion c.args.body.now) u in
    let added : Config → Going ℕ Config = λ e. put_state inner.blame e (adding e.state) in
    let stored : Store → Config → Going ℕ Config = λ x e. gives (in_state (with_store x e.state) e) in
    let valued : Config → Going ℕ Config = λ e. put_value b e (value e.state) in
    let returning : State → Config → Going ℕ Config = λ u e. gives (in_state u e) in
    ap (λ (f : Config → Going ℕ Config). f (config_of c.enter-outer.new.self) l)
    (c.in_ok-put_off-2.ensures t
    ∙ ap (λ (g : Config → Going ℕ Config). before added g)
    (c.in_ok-put_off_two.ensures t
    ∙ ap (λ (g : Config → Going ℕ Config). before (stored (store c.in_ok-store.store.items)) (before valued g)) (c.in_ok-put_off.ensures t ∙ ap (λ (u : State). before (returning u) k) c.enter-outer.ensures.before)
    ∙ ap (λ (x : Store). before (stored x) (before valued (before (returning d.state) k))) (c.in_ok-store.ensures ∙ ap store c.deref.ensures.value)))
    ∙ ap (λ (e : Config). before added (before (stored d.state.store) (before valued (before (returning d.state) k))) e l) c.enter-outer.ensures.after
    ∙ ap (λ (m : Going ℕ Config). m l) (added_first inner.blame b d s adding value k)
