use Rattle.std.proofs.Common.{ℕ, sym, ◌∙◌, ap}
use Rattle.std.specs.Prelude.{string_bytes}
use Rattle.vx_frac.specs.Fraction.{fraction}
use Rattle.vx_frac.specs.Fractions.{Fraction}
use Rattle.vx_meaning.specs.Values.{Value}
use Rattle.vx_resolved.specs.Resolved.{exprs}
use Rattle.vx_run.specs.Evaluated.{Permitted}
use Rattle.vx_run.specs.Going.{Going, ◌>>=◌, gives}
use Rattle.vx_run.specs.Configs.{Config, around}
use Rattle.vx_run.specs.ConfigViews.{config_of}
use Rattle.vx_run.specs.Frames.{rest, before}
use Rattle.vx_run.specs.Pending.{evaluate_all}
use Rattle.vx_run.specs.Tasks.{put, instance_of, fold_it, evaluated_all, folding}
use Rattle.vx_run.proofs.StatementForms.{of_parts}
use Rattle.vx_run.proofs.CallForms.{to_fold_with}
use Rattle.vx_run.proofs.folding.step_to_fold.Goals as goal

pub returns-in-Err : goal.returns-in-Err
returns-in-Err c = λ t l.
    let k = rest t c.args.frames.now.items in
    let d = config_of c.take_one.new.of in
    let n = c.args.level in
    let name = string_bytes c.args.i.now.value in
    let on : Value → Config → Going ℕ Config = λ v e. put e (instance_of t n c.args.at name (exprs c.args.es.now) v e.state >>= fold_it t n (around e.callers) c.args.at e.state) in
    ap (λ (o : Going ℕ Fraction). (put d ((o >>= λ q. evaluate_all t n Permitted d.state (exprs c.args.es.now) >>= λ vs. gives (record { predicate = name; arguments = vs }, q)) >>=
    fold_it t n (around d.callers) c.args.at d.state) >>= k) l) c.in-Err.ensures
    ∙ ap (λ (m : Going ℕ Config). (m >>= k) l) (sym (c.in-Some.ensures.some on))

pub returns-in_ok-evaluate_all_first-in-Ok : goal.returns-in_ok-evaluate_all_first-in-Ok
returns-in_ok-evaluate_all_first-in-Ok c = λ t l.
    let k = rest t c.args.frames.now.items in
    let d = config_of c.take_one.new.of in
    let n = c.args.level in
    let name = string_bytes c.args.i.now.value in
    let on : Value → Config → Going ℕ Config = λ v e. put e (instance_of t n c.args.at name (exprs c.args.es.now) v e.state >>= fold_it t n (around e.callers) c.args.at e.state) in
    let first : Config → Going ℕ Config = evaluated_all t n (exprs c.args.es.now) in
    let second : Config → Going ℕ Config = folding t n c.args.at name (fraction c.in-Ok.q) in
    ap (λ (f : Config → Going ℕ Config). f d l) (c.in_ok-evaluate_all_first-in-Ok.ensures t ∙ ap (λ (f : Config → Going ℕ Config). before first f) (c.in_ok-put_off-in-Ok.ensures t))
    ∙ of_parts first second k d l _ (to_fold_with t n c.args.at name (exprs c.args.es.now) (fraction c.in-Ok.q) d)
    ∙ ap (λ (o : Going ℕ Fraction). (put d ((o >>= λ q. evaluate_all t n Permitted d.state (exprs c.args.es.now) >>= λ vs. gives (record { predicate = name; arguments = vs }, q)) >>=
    fold_it t n (around d.callers) c.args.at d.state) >>= k) l) c.in-Ok.ensures
    ∙ ap (λ (m : Going ℕ Config). (m >>= k) l) (sym (c.in-Some.ensures.some on))
