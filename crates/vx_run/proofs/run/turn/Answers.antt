use Rattle.std.proofs.Common.{ℕ, sym, ◌∙◌, ap}
use Rattle.vx_resolved.specs.Settled.{settled}
use Rattle.vx_run.specs.Going.{Going}
use Rattle.vx_run.specs.Configs.{Setting, Config}
use Rattle.vx_run.specs.ConfigViews.{config_of}
use Rattle.vx_run.specs.Supplies.{supply}
use Rattle.vx_run.specs.Frames.{Come, act, rest, before}
use Rattle.vx_run.specs.Runs.{end_of, Turned}
use Rattle.vx_run.proofs.Exits.{handed_on, turned_on}
use Rattle.vx_run.proofs.run.turn.Goals as goal

pub returns-in-None : goal.returns-in-None
returns-in-None c =
    let t : Setting = record { program = settled c.args.program.now; steps = c.args.steps } in
    ap (λ (m : Going ℕ Config). end_of (m (supply c.args.supply.now))) (c.in-None.ensures.none t (config_of c.args.of.now))

pub returns-in_ok-step-in-Some : goal.returns-in_ok-step-in-Some
returns-in_ok-step-in-Some c =
    let t : Setting = record { program = settled c.args.program.now; steps = c.args.steps } in
    c.in_ok-step-in-Some.ensures ∙ sym (ap (λ (f : Config → Going ℕ Config). f (config_of c.args.of.now) (supply c.args.supply.now)) (c.in-Some.ensures.some t))

pub returns-in_err-step-in-Some : goal.returns-in_err-step-in-Some
returns-in_err-step-in-Some c =
    let t : Setting = record { program = settled c.args.program.now; steps = c.args.steps } in
    let x = c.in_err-step-in-Some.field-0.0 in
    let d = config_of c.args.of.now in
    let l = supply c.args.supply.now in
    let here : Come = rest t c.step.new.frames.items (config_of c.step.new.of) (supply c.step.new.supply) in
    let mid : Come = before (act t c.in-Some.next) (rest t c.take_off.new.frames.items) d l in
    let old : Come = rest t c.args.frames.now.items d l in
    handed_on c.from_residual.result x (λ y. Turned y here old) c.from_residual.ensures.1
    (turned_on x here here mid old c.in_err-step-in-Some.ensures (sym (ap (λ (f : Config → Going ℕ Config). f d l) (c.in-Some.ensures.some t))))
