use Rattle.std.proofs.Common.{ℕ, Bool, List, [], sym, ◌∙◌, ap, subst}
use Rattle.vx_resolved.specs.Settled.{settled}
use Rattle.vx_run.specs.Going.{Going, Supply}
use Rattle.vx_run.specs.Configs.{Setting, Config}
use Rattle.vx_run.specs.ConfigViews.{config_of}
use Rattle.vx_run.specs.Flats.{GoesOn}
use Rattle.vx_run.specs.Frames.{act, rest, before}
use Rattle.vx_run.specs.Supplies.{supply}
use Rattle.vx_run.specs.declared.frame.Frame.{Frame}
use Rattle.vx_run.specs.declared.frame.Frame.TheVariants as frame
use Rattle.vx_run.proofs.Steps.{given_on}
use Rattle.vx_run.proofs.valuing.evaluate_to_end.Goals as goal

pub loop-init : goal.loop-init
loop-init c =
    let t : Setting = record { program = settled c.args.program.now; steps = 0 } in
    let d = config_of c.args.of.now in
    let first = act t (frame.Evaluate c.args.first) in
    ap (λ (f : Config → Going ℕ Config). f d (supply c.new-from.result)) (c.in_ok-put_off.ensures t)
    ∙ ap (λ (fs : List Frame). before first (rest t fs) d (supply c.new-from.result)) c.new-frames.ensures.items
    ∙ ap (λ (l : Supply ℕ). before first (rest t []) d l) c.new-from.ensures
    ∙ given_on (first d (record { source = 0; steps = 0 }))

pub returns-then-not-on : goal.returns-then-not-on
returns-then-not-on c =
    let t : Setting = record { program = settled c.args.program.now; steps = 0 } in
    let r = subst (λ (b : Bool). GoesOn b (rest t c.goes_on.new.frames.items (config_of c.goes_on.new.of) (supply c.goes_on.new.from))
    (before (act t c.in-Some.next) (rest t c.take_off.new.frames.items) (config_of c.loop.of) (supply c.loop.from))) c.if-not-on.true c.in_ok-on-in-Some.ensures in
    (r.0, sym c.loop.invariant ∙ ap (λ (f : Config → Going ℕ Config). f (config_of c.loop.of) (supply c.loop.from)) (c.in-Some.ensures.some t) ∙ r.1, r.2)

pub loop-preserved : goal.loop-preserved
loop-preserved c =
    let t : Setting = record { program = settled c.args.program.now; steps = 0 } in
    let r = subst (λ (b : Bool). GoesOn b (rest t c.goes_on.new.frames.items (config_of c.goes_on.new.of) (supply c.goes_on.new.from))
    (before (act t c.in-Some.next) (rest t c.take_off.new.frames.items) (config_of c.loop.of) (supply c.loop.from))) c.if-not-on.false c.in_ok-on-in-Some.ensures in
    r ∙ sym (ap (λ (f : Config → Going ℕ Config). f (config_of c.loop.of) (supply c.loop.from)) (c.in-Some.ensures.some t)) ∙ c.loop.invariant
