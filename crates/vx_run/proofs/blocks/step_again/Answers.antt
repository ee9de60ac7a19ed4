use Rattle.std.proofs.Common.{ℕ, ◌∙◌, ap}
use Rattle.vx_resolved.specs.Resolved.{expr, block}
use Rattle.vx_run.specs.Going.{Going}
use Rattle.vx_run.specs.Configs.{Config}
use Rattle.vx_run.specs.Frames.{rest, before}
use Rattle.vx_run.specs.Supplies.{supply}
use Rattle.vx_run.specs.Tasks.{evaluated}
use Rattle.vx_run.specs.Views.{outcome}
use Rattle.vx_run.proofs.StatementForms.{again_none, again_ends, again_goes}
use Rattle.vx_run.proofs.blocks.step_again.Goals as goal

pub returns-then-rounds-eq0 : goal.returns-then-rounds-eq0
returns-then-rounds-eq0 c = λ t d.
    again_none t c.args.level d (rest t c.args.frames.now.items) c.args.rounds (expr c.args.e.now) (block c.args.b.now) (supply c.args.supply.now) c.if-rounds-eq0.true

pub returns-in-Err : goal.returns-in-Err
returns-in-Err c = λ t d.
    again_ends t c.args.level d (rest t c.args.frames.now.items) c.args.rounds (expr c.args.e.now) (block c.args.b.now) (supply c.args.supply.now) (outcome c.in-Err.end)
    c.if-rounds-eq0.false c.in-Err.ensures

pub returns-in_ok-evaluate_first-in-Ok : goal.returns-in_ok-evaluate_first-in-Ok
returns-in_ok-evaluate_first-in-Ok c = λ t d.
    ap (λ (f : Config → Going ℕ Config). f d (supply c.step.new.self))
    (c.in_ok-evaluate_first-in-Ok.ensures t ∙ ap (λ (g : Config → Going ℕ Config). before (evaluated t c.args.level (expr c.args.e.now)) g) (c.in_ok-put_off-in-Ok.ensures t))
    ∙ again_goes t c.args.level d (rest t c.args.frames.now.items) c.args.rounds (expr c.args.e.now) (block c.args.b.now) (supply c.args.supply.now) (supply c.step.new.self)
    c.if-rounds-eq0.false c.in-Ok.ensures
