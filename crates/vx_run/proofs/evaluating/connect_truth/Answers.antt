use Rattle.std.proofs.Common.{ℕ, Bool, sym, ◌∙◌, ap}
use Rattle.vx_meaning.specs.Values.{Value, BoolValue, without_right}
use Rattle.vx_resolved.specs.Resolved.{expr, connective}
use Rattle.vx_run.specs.Going.{Going, gives, when}
use Rattle.vx_run.specs.Configs.{Config, put_value}
use Rattle.vx_run.specs.ConfigViews.{config_of}
use Rattle.vx_run.specs.Frames.{rest, before}
use Rattle.vx_run.specs.Pending.{reading, state_at, evaluate}
use Rattle.vx_run.proofs.Steps.{of_none}
use Rattle.vx_run.proofs.evaluating.connect_truth.Goals as goal

pub returns-then-needs_right : goal.returns-then-needs_right
returns-then-needs_right c = λ t at l.
    let k = rest t c.args.frames.now.items in
    let b = c.args.k.blame in
    let right : Config → Going ℕ Value = λ d. evaluate t c.args.k.level (reading c.args.r) (state_at c.args.when d.state) (expr c.args.e.now) in
    ap (λ (f : Config → Going ℕ Config). f (config_of c.args.of.now) l) (c.in_ok-put_off.ensures t)
    ∙ ap (λ (q : Bool). before (λ d. put_value b d (when q (right d) (gives (BoolValue (without_right (connective c.args.c)))))) k (config_of c.args.of.now) l)
    (sym (sym c.needs_right.ensures ∙ c.if-needs_right.true))

pub returns : goal.returns
returns c = λ t at l.
    let right = evaluate t c.args.k.level (reading c.args.r) (state_at c.args.when (config_of c.args.of.now).state) (expr c.args.e.now) in
    of_none _ _ _ _ _ _ _ (rest t c.args.frames.now.items) (c.come_to.ensures l)
    (ap (λ (b : Bool). let g : Going ℕ Value = gives (BoolValue b) in g) c.without_right.ensures
    ∙ ap (λ (t : Bool). when t right (gives (BoolValue (without_right (connective c.args.c))))) (sym (sym c.needs_right.ensures ∙ c.if-needs_right.false)))
