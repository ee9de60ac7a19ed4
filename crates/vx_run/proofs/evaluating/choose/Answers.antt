use Rattle.std.proofs.Common.{ℕ, sym, ◌∙◌, ap}
use Rattle.vx_meaning.specs.Values.{Value}
use Rattle.vx_resolved.specs.Resolved.{expr}
use Rattle.vx_run.specs.Going.{Going}
use Rattle.vx_run.specs.Views.{value}
use Rattle.vx_run.specs.Configs.{Config, put_value}
use Rattle.vx_run.specs.Frames.{rest, before}
use Rattle.vx_run.specs.Pending.{reading, state_at, side, evaluate}
use Rattle.vx_run.specs.declared.values.Value.{Value as Value'}
use Rattle.vx_run.specs.declared.values.Value.TheVariants as value'
use Rattle.vx_run.proofs.evaluating.choose.Goals as goal

pub returns-in_ok-put_off-in-Bool-true : goal.returns-in_ok-put_off-in-Bool-true
returns-in_ok-put_off-in-Bool-true c = λ t d l.
    let k = rest t c.args.frames.now.items in
    let left : Config → Going ℕ Value = λ d. evaluate t c.args.k.level (reading c.args.r) (state_at c.args.when d.state) (expr c.args.x.now) in
    let right : Config → Going ℕ Value = λ d. evaluate t c.args.k.level (reading c.args.r) (state_at c.args.when d.state) (expr c.args.y.now) in
    ap (λ (f : Config → Going ℕ Config). f d l) (c.in_ok-put_off-in-Bool-true.ensures t)
    ∙ ap (λ (v : Value'). before (λ d. put_value c.args.k.blame d (side c.args.at (value v) (left d) (right d))) k d l) (sym (c.in-Bool-true.is ∙ ap value'.Bool c.in-Bool-true.field-0-test))

pub returns-in_ok-put_off-in-Bool-false : goal.returns-in_ok-put_off-in-Bool-false
returns-in_ok-put_off-in-Bool-false c = λ t d l.
    let k = rest t c.args.frames.now.items in
    let left : Config → Going ℕ Value = λ d. evaluate t c.args.k.level (reading c.args.r) (state_at c.args.when d.state) (expr c.args.x.now) in
    let right : Config → Going ℕ Value = λ d. evaluate t c.args.k.level (reading c.args.r) (state_at c.args.when d.state) (expr c.args.y.now) in
    ap (λ (f : Config → Going ℕ Config). f d l) (c.in_ok-put_off-in-Bool-false.ensures t)
    ∙ ap (λ (v : Value'). before (λ d. put_value c.args.k.blame d (side c.args.at (value v) (left d) (right d))) k d l) (sym (c.in-Bool-false.is ∙ ap value'.Bool c.in-Bool-false.field-0-test))
