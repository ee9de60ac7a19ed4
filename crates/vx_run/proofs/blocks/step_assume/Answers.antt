use Rattle.std.proofs.Common.{ℕ, Result, sym, ◌∙◌, ap}
use Rattle.vx_meaning.specs.Values.{Value, is_true}
use Rattle.vx_run.specs.Going.{Going, Outcome, Supply, ◌>>=◌, continued, gives, require, Stopped}
use Rattle.vx_run.specs.Configs.{Config}
use Rattle.vx_run.specs.ConfigViews.{config_of}
use Rattle.vx_run.proofs.blocks.step_assume.Goals as goal

pub returns-in-Ok : goal.returns-in-Ok
returns-in-Ok c = λ l.
    let d = config_of c.take_one.new.of in
    let on : Value → Config → Going ℕ Config = λ v e. require (is_true v) (Stopped c.args.at) >>= λ _. gives e in
    ap (λ (r : Result (Unit {0} × Supply ℕ) Outcome). continued r (λ _. gives d)) (c.in-Ok.ensures l) ∙ ap (λ (m : Going ℕ Config). m l) (sym (c.in-Some.ensures.some on))

pub returns-in-Err : goal.returns-in-Err
returns-in-Err c = λ l.
    let d = config_of c.take_one.new.of in
    let on : Value → Config → Going ℕ Config = λ v e. require (is_true v) (Stopped c.args.at) >>= λ _. gives e in
    ap (λ (r : Result (Unit {0} × Supply ℕ) Outcome). continued r (λ _. gives d)) (c.in-Err.ensures l) ∙ ap (λ (m : Going ℕ Config). m l) (sym (c.in-Some.ensures.some on))
