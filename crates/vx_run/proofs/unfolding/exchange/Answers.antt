use Rattle.std.proofs.Common.{◌≡◌, ℕ, Err, map, refl, ◌∙◌, ap, subst}
use Rattle.vx_frac.specs.Fraction.{fraction}
use Rattle.vx_meaning.specs.States.{State, Holdings, Resource, Folded, bind, with_store, with_holdings}
use Rattle.vx_resolved.specs.Resolved.{assertion, declaration, expr}
use Rattle.vx_run.specs.Going.{Going, ◌>>=◌, gives}
use Rattle.vx_run.specs.Evaluated.{Permitted, add}
use Rattle.vx_run.specs.Blame.{within}
use Rattle.vx_run.specs.Configs.{Config, put_value}
use Rattle.vx_run.specs.Widths.{within_128_bits, less}
use Rattle.vx_run.specs.Held.{instance}
use Rattle.vx_run.specs.Holding.{holdings, Tells}
use Rattle.vx_run.specs.ConfigViews.{config_of}
use Rattle.vx_run.specs.Frames.{rest}
use Rattle.vx_run.specs.Pending.{state_at, deeper_by, evaluate, body_exchanged}
use Rattle.vx_run.specs.declared.context.When.{When}
use Rattle.vx_run.specs.declared.context.When.TheVariants as when'
use Rattle.vx_run.proofs.Opened.{the_left}
use Rattle.vx_run.proofs.Permitted.{ends_follow, ends_on, tells_ends, blamed_then}
use Rattle.vx_run.proofs.unfolding.exchange.Goals as goal

same_store : (w : When) (s : State) → s.store ≡ (state_at w s).store
same_store when'.Now s = refl
same_store when'.Before s = refl

pub returns-in-Ok : goal.returns-in-Ok
returns-in-Ok c = λ t l.
    let k = rest t c.args.frames.now.items in
    let d = config_of c.args.of.now in
    let i = instance c.args.i.now in
    let s = state_at c.args.when d.state in
    c.in_ok-enter_left-in-Ok.ensures t l
    ∙ the_left t c.args.inner c.args.k c.args.at i (fraction c.args.q) (bind (map declaration c.args.d.now.parameters.items) i.arguments) (assertion c.args.body.now) (expr c.args.e.now) d s k l
    (same_store c.args.when d.state) (holdings c.in-Ok.left)
    (c.in-Ok.ensures ∙ ap (λ (h : Holdings). less within_128_bits c.args.at (Folded (instance c.in_ok-same.same)) (fraction c.args.q) h) c.holdings_at.ensures
    ∙ ap (λ (r : Resource). less within_128_bits c.args.at r (fraction c.args.q) s.holdings) (ap Folded c.in_ok-same.ensures))

pub returns : goal.returns
returns c = λ t l.
    let k = rest t c.args.frames.now.items in
    let d = config_of c.args.of.now in
    let i = instance c.args.i.now in
    let q = fraction c.args.q in
    let s = state_at c.args.when d.state in
    let inner = c.args.inner in
    let body = assertion c.args.body.now in
    let x = bind (map declaration c.args.d.now.parameters.items) i.arguments in
    let halt = c.in-Err.halt in
    let first : Going ℕ Holdings = less within_128_bits c.args.at (Folded i) q s.holdings in
    let on : Holdings → Going ℕ State = λ left.
    add t.program within_128_bits (deeper_by t inner.level) q body (with_store x (with_holdings left s)) >>= λ u. gives (with_store s.store u) in
    let value : State → Going ℕ Config = λ u. put_value c.args.k.blame d (evaluate t c.args.k.level Permitted u (expr c.args.e.now)) in
    let exchanged = body_exchanged t inner c.args.at i q x body s in
    let told = subst (λ (m : Going ℕ Holdings). Tells holdings (Err halt) m)
    (ap (λ (h : Holdings). less within_128_bits c.args.at (Folded (instance c.in_ok-same.same)) q h) c.holdings_at.ensures
    ∙ ap (λ (r : Resource). less within_128_bits c.args.at r q s.holdings) (ap Folded c.in_ok-same.ensures)) c.in-Err.ensures in
    ends_follow c.blamed.result _ _
    (ends_on c.blamed.result ((within inner.blame exchanged >>= value) l) k
    (blamed_then halt c.blamed.result inner.blame c.blamed.ensures exchanged value l (ends_on halt (first l) on (tells_ends holdings halt first l told))))
