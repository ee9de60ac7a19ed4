use Rattle.std.proofs.Common.{ℕ, sym, ◌∙◌, ap}
use Rattle.std.specs.Prelude.{string_bytes}
use Rattle.vx_ast.specs.Syntax.{Unfolding}
use Rattle.vx_frac.specs.Fractions.{Fraction, is_positive}
use Rattle.vx_meaning.specs.Values.{Value}
use Rattle.vx_meaning.specs.Fits.{amount_of}
use Rattle.vx_resolved.specs.Resolved.{expr, exprs}
use Rattle.vx_run.specs.Evaluated.{Permitted}
use Rattle.vx_run.specs.Going.{Going, ◌>>=◌, expect, require, Failed}
use Rattle.vx_run.specs.Configs.{Config, put_value}
use Rattle.vx_run.specs.Frames.{rest, before}
use Rattle.vx_run.specs.Pending.{act, reading, state_at, evaluate, evaluate_all, open_in}
use Rattle.vx_run.specs.declared.context.Reading.{Reading}
use Rattle.vx_run.specs.declared.pending.Pending.TheVariants as pending
use Rattle.vx_run.proofs.Forms.{value_of_one}
use Rattle.vx_run.proofs.Levels.{share_first}
use Rattle.vx_run.proofs.evaluating.begin_unfolding.Goals as goal

pub returns-in_ok-put_part-in-Permitted : goal.returns-in_ok-put_part-in-Permitted
returns-in_ok-put_part-in-Permitted c = λ t.
    let k = rest t c.args.frames.now.items in
    let b = c.args.k.blame in
    let n = c.args.k.level in
    let at = c.args.at in
    let name = string_bytes c.args.i.now.value in
    let all = Unfolding at name (exprs c.args.es.now) (expr c.args.share.now) (expr c.args.e.now) in
    let then = act t (pending.Unfold c.args.k at c.args.when c.args.i c.args.es c.args.e) in
    let on : Config → Fraction → Going ℕ Value = λ d q. evaluate_all t n Permitted (state_at c.args.when d.state) (exprs c.args.es.now) >>= λ vs.
    open_in t n (state_at c.args.when d.state) at q (expr c.args.e.now) (record { predicate = name; arguments = vs }) in
    c.in_ok-put_part-in-Permitted.ensures t
    ∙ ap (λ (r : Reading). before (λ d. put_value b d (evaluate t n (reading r) (state_at c.args.when d.state) (expr c.args.share.now))) (before then k)) c.in-Permitted.is
    ∙ (λ i d. value_of_one b d (evaluate t n Permitted (state_at c.args.when d.state) (expr c.args.share.now))
    (λ v. expect (amount_of v) (Failed at) >>= λ q. require (is_positive q) (Failed at) >>= λ _. on d q) then k (λ v. ap (λ (m : Going ℕ Value). put_value b d m) (share_first at (on d) v)) i)
    ∙ ap (λ (r : Reading). before (λ d. put_value b d (evaluate t n (reading r) (state_at c.args.when d.state) all)) k) (sym c.in-Permitted.is)

pub returns-in_ok-put_off-in-Free : goal.returns-in_ok-put_off-in-Free
returns-in_ok-put_off-in-Free c = λ t.
    let k = rest t c.args.frames.now.items in
    let b = c.args.k.blame in
    let n = c.args.k.level in
    let all = Unfolding c.args.at (string_bytes c.args.i.now.value) (exprs c.args.es.now) (expr c.args.share.now) (expr c.args.e.now) in
    c.in_ok-put_off-in-Free.ensures t
    ∙ ap (λ (r : Reading). before (λ d. put_value b d (evaluate t n (reading r) (state_at c.args.when d.state) (expr c.args.e.now))) k) c.in-Free.is
    ∙ ap (λ (r : Reading). before (λ d. put_value b d (evaluate t n (reading r) (state_at c.args.when d.state) all)) k) (sym c.in-Free.is)
