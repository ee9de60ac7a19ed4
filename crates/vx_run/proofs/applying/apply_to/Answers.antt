use Rattle.std.proofs.Common.{ℕ, ◌-◌, Err, map, sym, ◌∙◌, ap}
use Rattle.std.specs.Prelude.{string_bytes}
use Rattle.vx_meaning.specs.States.{with_store, bind}
use Rattle.vx_resolved.specs.Resolved.{function}
use Rattle.vx_resolved.specs.Settled.{settled}
use Rattle.vx_resolved.specs.declared.Function as code
use Rattle.vx_run.specs.Going.{Going, Outcome}
use Rattle.vx_run.specs.Views.{value}
use Rattle.vx_run.specs.Configs.{Setting, Config, put_value}
use Rattle.vx_run.specs.ConfigViews.{config_of}
use Rattle.vx_run.specs.Frames.{Come, rest, before}
use Rattle.vx_run.specs.Pending.{reading, state_at, applied}
use Rattle.vx_run.proofs.Applied.{no_level, no_function, the_function}
use Rattle.vx_run.proofs.applying.apply_to.Goals as goal

pub returns-then-k-eq0 : goal.returns-then-k-eq0
returns-then-k-eq0 c = λ steps l.
    let t : Setting = record { program = settled c.args.program.now; steps = steps } in
    let d = config_of c.args.of.now in
    no_level t c.args.k.blame c.args.k.level (reading c.args.r) c.args.at (string_bytes c.args.name.now.value) (map value c.args.vs.now) d (state_at c.args.when d.state)
    (rest t c.args.frames.now.items) l c.if-k-eq0.true

pub returns-in-None : goal.returns-in-None
returns-in-None c = λ steps l.
    let t : Setting = record { program = settled c.args.program.now; steps = steps } in
    let d = config_of c.args.of.now in
    ap (λ (o : Outcome). let x : Come = Err o in x) c.counted.ensures
    ∙ no_function t c.args.k.blame c.args.k.level (reading c.args.r) c.args.at (string_bytes c.args.name.now.value) (map value c.args.vs.now) d (state_at c.args.when d.state)
    (rest t c.args.frames.now.items) l c.fails.result c.if-k-eq0.false c.fails.ensures (sym c.in-None.ensures)

pub returns-in_ok-enter_function-in-Some : goal.returns-in_ok-enter_function-in-Some
returns-in_ok-enter_function-in-Some c = λ steps l.
    let t : Setting = record { program = settled c.args.program.now; steps = steps } in
    let d = config_of c.args.of.now in
    let vs = map value c.args.vs.now in
    let entering : code.Function → Config → Going ℕ Config =
    λ g e. put_value c.fails.result e (applied t (c.args.k.level - 1) (reading c.args.r) (function g) (with_store (bind (function g).parameters vs) (state_at c.args.when e.state))) in
    c.in_ok-enter_function-in-Some.ensures t l
    ∙ ap (λ (g : code.Function). before (entering g) (rest t c.args.frames.now.items) d l) c.deref.ensures
    ∙ the_function t c.args.k.blame c.args.k.level (reading c.args.r) c.args.at (string_bytes c.args.name.now.value) (map value c.args.vs.now) d (state_at c.args.when d.state)
    (rest t c.args.frames.now.items) l c.fails.result c.if-k-eq0.false c.fails.ensures (function c.in-Some.f.now.value) (sym c.in-Some.ensures)
