use Rattle.std.proofs.Common.{ℕ, ◌∷◌, sym, ◌∙◌, ap, subst}
use Rattle.vx_frac.specs.Fraction.{fraction}
use Rattle.vx_frac.specs.Fractions.{Fraction}
use Rattle.vx_meaning.specs.States.{Holdings}
use Rattle.vx_resolved.specs.Settled.{settled}
use Rattle.vx_run.specs.Draws.{by_draws}
use Rattle.vx_run.specs.Given.{Filling, fill_location, fill}
use Rattle.vx_run.specs.Going.{Going, ◌>>=◌, gives}
use Rattle.vx_meaning.specs.Flatten.{bare}
use Rattle.vx_run.specs.Configs.{Setting, Config, in_state, with_takings, put_filling}
use Rattle.vx_run.specs.ConfigViews.{config_of}
use Rattle.vx_run.specs.Frames.{Come, act, rest, before}
use Rattle.vx_run.specs.Held as held
use Rattle.vx_run.specs.Holding.{holdings, Ends}
use Rattle.vx_run.specs.Pending.{deeper_by}
use Rattle.vx_run.specs.Supplies.{supply}
use Rattle.vx_run.specs.Visits.{filling}
use Rattle.vx_run.specs.Widths.{within_128_bits, times}
use Rattle.vx_run.specs.declared.resource.Resource.{Resource}
use Rattle.vx_run.specs.declared.frame.Frame.TheVariants as frame
use Rattle.vx_run.specs.declared.visit.Visit.TheVariants as visit
use Rattle.vx_run.proofs.Steps.{follows_as, follows_on}
use Rattle.vx_run.proofs.Permitted.{ends_follow, ends_on, tells_ends, blamed_then}
use Rattle.vx_run.proofs.giving.fill_newest.Goals as goal

pub returns-in-At : goal.returns-in-At
returns-in-At c = λ steps.
    let t : Setting = record { program = settled c.args.program.now; steps = steps } in
    let k = c.args.k in
    let q = fraction c.args.q in
    let a = fraction c.args.a in
    let s = supply c.args.from.now in
    let g = rest t c.args.frames.now.items in
    let mid = config_of c.take_taking.new.of in
    let u : Filling = record { heap = mid.state.heap; totals = holdings c.in-Some.totals } in
    let on : Holdings → Config → Going ℕ Config = λ h d.
    put_filling k.blame d ((filling t k q c.args.depth c.args.place d.state.store).part c.args.at (held.resource c.args.r, a) (record { heap = d.state.heap; totals = h })) in
    follows_as _ _ _ _ (follows_on _ _ _ _ g c.fill_field.ensures)
    (ap (λ (m : Going ℕ Fraction). (put_filling k.blame mid (m >>= λ x. fill_location t.program by_draws within_128_bits c.args.at (held.location c.in-At.l) x u) >>= g) s) c.in-Ok.ensures
    ∙ ap (λ (r : Resource). (put_filling k.blame mid ((filling t k q c.args.depth c.args.place mid.state.store).part c.args.at (held.resource r, a) u) >>= g) s) (sym c.in-At.is)
    ∙ sym (ap (λ (n : Going ℕ Config). (n >>= g) s) (c.in-Some.ensures.some on)))

pub returns-in_ok-put_off-in-Folded : goal.returns-in_ok-put_off-in-Folded
returns-in_ok-put_off-in-Folded c = λ steps.
    let t : Setting = record { program = settled c.args.program.now; steps = steps } in
    let k = c.args.k in
    let q = fraction c.args.q in
    let a = fraction c.args.a in
    let s = supply c.args.from.now in
    let g = rest t c.args.frames.now.items in
    let mid = config_of c.take_taking.new.of in
    let u : Filling = record { heap = mid.state.heap; totals = holdings c.in-Some.totals } in
    let inside = fill t.program by_draws within_128_bits (deeper_by t k.level) c.args.depth c.args.place (held.instance c.in-Folded.i) in
    let next = frame.Visit (visit.Fill k c.args.depth c.args.place c.in-Folded.i c.in-Ok.b) in
    let on : Holdings → Config → Going ℕ Config = λ h d.
    put_filling k.blame d ((filling t k q c.args.depth c.args.place d.state.store).part c.args.at (held.resource c.args.r, a) (record { heap = d.state.heap; totals = h })) in
    ap (λ (f : Config → Going ℕ Config). f (config_of c.put_taking.new.of) s) (c.in_ok-put_off-in-Folded.ensures t)
    ∙ ap (λ (x : Config). before (act t next) g x s) c.in_ok-put_taking-in-Folded.ensures
    ∙ ap (λ (m : Going ℕ Fraction). (put_filling k.blame mid (m >>= λ x. inside x u) >>= g) s) c.in-Ok.ensures
    ∙ ap (λ (r : Resource). (put_filling k.blame mid ((filling t k q c.args.depth c.args.place mid.state.store).part c.args.at (held.resource r, a) u) >>= g) s) (sym c.in-Folded.is)
    ∙ sym (ap (λ (n : Going ℕ Config). (n >>= g) s) (c.in-Some.ensures.some on))

pub returns-in-Err : goal.returns-in-Err
returns-in-Err c = λ steps.
    let t : Setting = record { program = settled c.args.program.now; steps = steps } in
    let k = c.args.k in
    let q = fraction c.args.q in
    let a = fraction c.args.a in
    let s = supply c.args.from.now in
    let g = rest t c.args.frames.now.items in
    let mid = config_of c.take_taking.new.of in
    let u : Filling = record { heap = mid.state.heap; totals = holdings c.in-Some.totals } in
    let r = held.resource c.args.r in
    let on : Holdings → Config → Going ℕ Config = λ h d.
    put_filling k.blame d ((filling t k q c.args.depth c.args.place d.state.store).part c.args.at (r, a) (record { heap = d.state.heap; totals = h })) in
    let m : Going ℕ Fraction = times within_128_bits c.args.at q a in
    let put : Filling → Going ℕ Config = λ w. gives (with_takings (w.totals ∷ mid.takings) (in_state (bare mid.state.store w.heap) mid)) in
    let all = (filling t k q c.args.depth c.args.place mid.state.store).part c.args.at (r, a) u in
    ends_follow c.blamed.result _ _
    (subst (λ (n : Come). Ends c.blamed.result n) (sym (ap (λ (n : Going ℕ Config). (n >>= g) s) (c.in-Some.ensures.some on)))
    (ends_on c.blamed.result (put_filling k.blame mid all s) g
    (blamed_then c.in-Err.halt c.blamed.result k.blame c.blamed.ensures all put s (ends_on c.in-Err.halt (m s) _ (tells_ends fraction c.in-Err.halt m s c.in-Err.ensures)))))
