use Rattle.std.proofs.Common.{ℕ, List, Err, sym, ◌∙◌, ap, refl}
use Rattle.std.specs.Prelude.{string_bytes}
use Rattle.vx_frac.specs.Fraction.{fraction}
use Rattle.vx_frac.specs.Fractions.{Fraction}
use Rattle.vx_meaning.specs.Values.{Value}
use Rattle.vx_resolved.specs.Resolved.{expr, exprs}
use Rattle.vx_run.specs.Evaluated.{Permitted}
use Rattle.vx_run.specs.Going.{Going, Outcome, ◌>>=◌}
use Rattle.vx_run.specs.Configs.{Config, put_value}
use Rattle.vx_run.specs.ConfigViews.{config_of}
use Rattle.vx_run.specs.Frames.{Come, rest}
use Rattle.vx_run.specs.Pending.{act, state_at, evaluate_all, open_in, unfold_in}
use Rattle.vx_run.specs.declared.pending.Pending.TheVariants as pending
use Rattle.vx_run.proofs.Forms.{value_of_list}
use Rattle.vx_run.proofs.unfolding.unfold_newest.Goals as goal

pub returns-in-Err : goal.returns-in-Err
returns-in-Err c = λ t l.
    let k = rest t c.args.frames.now.items in
    let b = c.args.k.blame in
    let d = config_of c.take_one.new.of in
    let n = c.args.k.level in
    let name = string_bytes c.args.i.now.value in
    let on : Value → Config → Going ℕ Config = λ v e. put_value b e (unfold_in t n (state_at c.args.when e.state) c.args.at name (exprs c.args.es.now) (expr c.args.e.now) v) in
    let opened : Going ℕ Fraction → Going ℕ Config = λ m. put_value b d (m >>= λ q. evaluate_all t n Permitted (state_at c.args.when d.state) (exprs c.args.es.now) >>= λ vs.
    open_in t n (state_at c.args.when d.state) c.args.at q (expr c.args.e.now) (record { predicate = name; arguments = vs })) >>= k in
    ap (λ (o : Outcome). let x : Come = Err o in x) c.counted.ensures
    ∙ ap (λ (m : Going ℕ Fraction). opened m l) c.in-Err.ensures
    ∙ ap (λ (m : Going ℕ Config). (m >>= k) l) (sym (c.in-Some.ensures.some on))

pub returns-in_ok-put_off_two-in-Ok : goal.returns-in_ok-put_off_two-in-Ok
returns-in_ok-put_off_two-in-Ok c = λ t l.
    let k = rest t c.args.frames.now.items in
    let b = c.args.k.blame in
    let d = config_of c.take_one.new.of in
    let n = c.args.k.level in
    let name = string_bytes c.args.i.now.value in
    let on : Value → Config → Going ℕ Config = λ v e. put_value b e (unfold_in t n (state_at c.args.when e.state) c.args.at name (exprs c.args.es.now) (expr c.args.e.now) v) in
    let opening : List Value → Going ℕ Value = λ vs. open_in t n (state_at c.args.when d.state) c.args.at (fraction c.in-Ok.q) (expr c.args.e.now) (record { predicate = name; arguments = vs }) in
    let opened : Going ℕ Fraction → Going ℕ Config = λ m. put_value b d (m >>= λ q. evaluate_all t n Permitted (state_at c.args.when d.state) (exprs c.args.es.now) >>= λ vs.
    open_in t n (state_at c.args.when d.state) c.args.at q (expr c.args.e.now) (record { predicate = name; arguments = vs })) >>= k in
    ap (λ (f : Config → Going ℕ Config). f d l) (c.in_ok-put_off_two-in-Ok.ensures t)
    ∙ ap (λ (m : Going ℕ Config). m l) (value_of_list b d (evaluate_all t n Permitted (state_at c.args.when d.state) (exprs c.args.es.now)) opening
    (act t (pending.Open c.args.k c.args.at c.args.when c.args.i c.in-Ok.q c.args.e)) k (λ vs. refl))
    ∙ ap (λ (m : Going ℕ Fraction). opened m l) c.in-Ok.ensures
    ∙ ap (λ (m : Going ℕ Config). (m >>= k) l) (sym (c.in-Some.ensures.some on))
