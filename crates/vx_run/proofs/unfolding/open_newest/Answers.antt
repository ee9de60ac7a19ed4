use Rattle.std.proofs.Common.{ℕ, List, Err, sym, ◌∙◌, ap}
use Rattle.std.specs.Prelude.{string_bytes}
use Rattle.vx_frac.specs.Fraction.{fraction}
use Rattle.vx_meaning.specs.Values.{Value}
use Rattle.vx_meaning.specs.States.{Instance}
use Rattle.vx_resolved.specs.Resolved.{expr}
use Rattle.vx_resolved.specs.Settled.{settled}
use Rattle.vx_run.specs.Going.{Going, Outcome, ◌>>=◌}
use Rattle.vx_run.specs.Held.{instance}
use Rattle.vx_run.specs.Configs.{Setting, Config, put_value}
use Rattle.vx_run.specs.ConfigViews.{config_of}
use Rattle.vx_run.specs.Frames.{Come, rest}
use Rattle.vx_run.specs.Pending.{state_at, open_in}
use Rattle.vx_run.proofs.Steps.{follows_as}
use Rattle.vx_run.proofs.Opened.{held, not_held}
use Rattle.vx_run.proofs.unfolding.open_newest.Goals as goal

pub returns-then-is_held : goal.returns-then-is_held
returns-then-is_held c = λ steps l.
    let t : Setting = record { program = settled c.args.program.now; steps = steps } in
    let k = rest t c.args.frames.now.items in
    let d = config_of c.take_list.new.of in
    let b = c.args.k.blame in
    let n = c.args.k.level in
    let s = state_at c.args.when d.state in
    let e = expr c.args.e.now in
    let q = fraction c.args.q in
    let name = string_bytes c.args.i.now.value in
    let on : List Value → Config → Going ℕ Config = λ vs d. put_value b d (open_in t n (state_at c.args.when d.state) c.args.at q e (record { predicate = name; arguments = vs })) in
    follows_as _ _ _ _ (c.open_held.ensures steps l)
    (ap (λ (m : Going ℕ Value). (put_value b d m >>= k) l) (held t n c.args.at (instance c.in_ok-all-in-Some.all) q e s (sym c.in_ok-is_held-in-Some.ensures ∙ c.if-is_held.true))
    ∙ ap (λ (i : Instance). (put_value b d (open_in t n s c.args.at q e i) >>= k) l) c.in_ok-all-in-Some.ensures
    ∙ ap (λ (m : Going ℕ Config). (m >>= k) l) (sym (c.in-Some.ensures.some on)))

pub returns-else-is_held : goal.returns-else-is_held
returns-else-is_held c = λ steps l.
    let t : Setting = record { program = settled c.args.program.now; steps = steps } in
    let k = rest t c.args.frames.now.items in
    let d = config_of c.take_list.new.of in
    let b = c.args.k.blame in
    let n = c.args.k.level in
    let s = state_at c.args.when d.state in
    let e = expr c.args.e.now in
    let q = fraction c.args.q in
    let name = string_bytes c.args.i.now.value in
    let on : List Value → Config → Going ℕ Config = λ vs d. put_value b d (open_in t n (state_at c.args.when d.state) c.args.at q e (record { predicate = name; arguments = vs })) in
    ap (λ (o : Outcome). let x : Come = Err o in x) c.counted.ensures
    ∙ ap (λ (m : Going ℕ Value). (put_value b d m >>= k) l) (not_held t n c.args.at (instance c.in_ok-all-in-Some.all) q e s (sym c.in_ok-is_held-in-Some.ensures ∙ c.if-is_held.false))
    ∙ ap (λ (i : Instance). (put_value b d (open_in t n s c.args.at q e i) >>= k) l) c.in_ok-all-in-Some.ensures
    ∙ ap (λ (m : Going ℕ Config). (m >>= k) l) (sym (c.in-Some.ensures.some on))
