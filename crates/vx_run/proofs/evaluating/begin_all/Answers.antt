use Rattle.std.proofs.Common.{ℕ, List, ◌∷◌, refl, sym, ◌∙◌, ap, ap₂}
use Rattle.vx_meaning.specs.States.{State}
use Rattle.vx_resolved.specs.Resolved.{expr, exprs}
use Rattle.vx_resolved.specs.declared.Expr.{Expr}
use Rattle.vx_resolved.specs.declared.Exprs.{Exprs}
use Rattle.vx_run.specs.Going.{Going, ◌>>=◌, gives}
use Rattle.vx_run.specs.Configs.{Config, with_lists, put_value, put_list}
use Rattle.vx_run.specs.ConfigViews.{config_of, newest}
use Rattle.vx_run.specs.Frames.{rest, before}
use Rattle.vx_run.specs.Pending.{act, reading, state_at, evaluate, evaluate_all}
use Rattle.vx_run.specs.declared.pending.Pending.TheVariants as pending
use Rattle.vx_run.specs.declared.values.Value.{Value as Value'}
use Rattle.vx_run.proofs.Forms.{list_of_both}
use Rattle.vx_run.proofs.evaluating.begin_all.Goals as goal

pub returns-in_ok-put_list-in-NoMore : goal.returns-in_ok-put_list-in-NoMore
returns-in_ok-put_list-in-NoMore c = λ t l.
    let k = rest t c.args.frames.now.items in
    let d = config_of c.args.of.now in
    let b = c.args.k.blame in
    ap (λ (e : Config). k e l) (c.in_ok-put_list-in-NoMore.ensures ∙ ap (λ (vs : List Value'). with_lists (newest vs ∷ d.lists) d) c.new.ensures.items)
    ∙ ap (λ (x : Exprs). before (λ e. put_list b e (evaluate_all t c.args.k.level (reading c.args.r) (state_at c.args.when e.state) (exprs x))) k d l) (sym c.in-NoMore.is)

pub returns-in_ok-put_part-in-More : goal.returns-in_ok-put_part-in-More
returns-in_ok-put_part-in-More c = λ t l.
    let k = rest t c.args.frames.now.items in
    let d = config_of c.args.of.now in
    let b = c.args.k.blame in
    let value = λ (x : Expr). evaluate t c.args.k.level (reading c.args.r) (state_at c.args.when d.state) (expr x) in
    let first : Config → Going ℕ Config = λ e. put_value b e (evaluate t c.args.k.level (reading c.args.r) (state_at c.args.when e.state) (expr c.deref-in-More.result.now)) in
    let values = λ (s : State). evaluate_all t c.args.k.level (reading c.args.r) (state_at c.args.when s) (exprs c.deref.result.now) in
    let all = λ (xs : Exprs). evaluate_all t c.args.k.level (reading c.args.r) (state_at c.args.when d.state) (exprs xs) in
    ap (λ (f : Config → Going ℕ Config). f d l)
    (c.in_ok-put_part-in-More.ensures t ∙ ap (λ (g : Config → Going ℕ Config). before first (before (λ e. put_list b e (values e.state)) g)) (c.in_ok-put_off-in-More.ensures t))
    ∙ ap (λ (m : Going ℕ Config). m l)
    (list_of_both b d (value c.deref-in-More.result.now) values (act t pending.Collect) k (λ v vs. refl)
    ∙ ap₂ (λ (x : Expr) (xs : Exprs). put_list b d (value x >>= λ v. all xs >>= λ vs. gives (v ∷ vs)) >>= k) c.deref-in-More.ensures c.deref.ensures
    ∙ ap (λ (x : Exprs). put_list b d (all x) >>= k) (sym c.in-More.is))
