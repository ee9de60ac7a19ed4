use Rattle.std.proofs.Common.{◌≢◌, ℕ, sym, ◌∙◌, ap, ap₂}
use Rattle.vx_resolved.specs.Resolved.{stmt, block}
use Rattle.vx_resolved.specs.Settled.{settled}
use Rattle.vx_resolved.specs.declared.Stmt as stmt'
use Rattle.vx_resolved.specs.declared.Block as block'
use Rattle.vx_run.specs.Going.{Going}
use Rattle.vx_run.specs.Configs.{Setting, Config}
use Rattle.vx_run.specs.ConfigViews.{config_of}
use Rattle.vx_run.specs.Frames.{rest, before}
use Rattle.vx_run.specs.Supplies.{supply}
use Rattle.vx_run.specs.Tasks.{begun, body}
use Rattle.vx_run.specs.Views.{outcome}
use Rattle.vx_run.proofs.StatementForms.{body_none, body_done, body_goes, body_stops}
use Rattle.vx_run.proofs.tasks.step_body.Goals as goal

pub returns-then-level-eq0 : goal.returns-then-level-eq0
returns-then-level-eq0 c = λ steps.
    let t : Setting = record { program = settled c.args.program.now; steps = steps } in
    body_none t c.args.level (config_of c.args.of.now) (rest t c.args.frames.now.items) (block c.args.b.now) (supply c.args.supply.now) c.if-level-eq0.true

pub returns-in-Done : goal.returns-in-Done
returns-in-Done c = λ steps.
    let t : Setting = record { program = settled c.args.program.now; steps = steps } in
    let k = rest t c.args.frames.now.items in
    let d = config_of c.args.of.now in
    let l = supply c.args.supply.now in
    let above : c.args.level ≢ 0 = c.if-level-eq0.false in
    body_done t c.args.level d k l above ∙ ap (λ (y : block'.Block). before (body t c.args.level (block y)) k d l) (sym c.in-Done.is)

pub returns-in-Err : goal.returns-in-Err
returns-in-Err c = λ steps.
    let t : Setting = record { program = settled c.args.program.now; steps = steps } in
    let k = rest t c.args.frames.now.items in
    let d = config_of c.args.of.now in
    let l = supply c.args.supply.now in
    let above : c.args.level ≢ 0 = c.if-level-eq0.false in
    body_stops t c.args.level d k (stmt c.in-Then.x.value) (block c.in-Then.more.value) l (outcome c.in-Err.end) above c.in-Err.ensures
    ∙ ap (λ (y : block'.Block). before (body t c.args.level (block y)) k d l) (sym c.in-Then.is)

pub returns-in_ok-begin_statement-in-Ok : goal.returns-in_ok-begin_statement-in-Ok
returns-in_ok-begin_statement-in-Ok c = λ steps.
    let t : Setting = record { program = settled c.args.program.now; steps = steps } in
    let k = rest t c.args.frames.now.items in
    let d = config_of c.args.of.now in
    let n = c.args.level in
    let l = supply c.args.supply.now in
    let l' = supply c.step.new.self in
    let above : n ≢ 0 = c.if-level-eq0.false in
    c.in_ok-begin_statement-in-Ok.ensures steps
    ∙ ap (λ (f : Config → Going ℕ Config). before (begun t n (stmt c.deref-in-Ok.result.now)) f d l') (c.in_ok-put_off-in-Ok.ensures t)
    ∙ ap₂ (λ (x : stmt'.Stmt) (y : block'.Block). before (begun t n (stmt x)) (before (body t n (block y)) k) d l') c.deref-in-Ok.ensures c.deref.ensures
    ∙ body_goes t n d k (stmt c.in-Then.x.value) (block c.in-Then.more.value) l l' above c.in-Ok.ensures
    ∙ ap (λ (y : block'.Block). before (body t n (block y)) k d l) (sym c.in-Then.is)
