use Rattle.std.proofs.Common.{ℕ, ◌-◌, Err, sym, ◌∙◌, ap}
use Rattle.vx_frac.specs.Fraction.{fraction}
use Rattle.vx_meaning.specs.States.{Holdings}
use Rattle.vx_resolved.specs.Resolved.{predicate}
use Rattle.vx_resolved.specs.Settled.{settled}
use Rattle.vx_resolved.specs.declared.Predicate as code
use Rattle.vx_run.specs.Draws.{by_draws}
use Rattle.vx_run.specs.Given.{fill}
use Rattle.vx_run.specs.Going.{Going, Outcome, ◌>>=◌, continued}
use Rattle.vx_run.specs.Configs.{Setting, Config, with_taking, put_filling}
use Rattle.vx_run.specs.ConfigViews.{config_of}
use Rattle.vx_run.specs.Frames.{Come, Follows, rest}
use Rattle.vx_run.specs.Held as held
use Rattle.vx_run.specs.Pending.{deeper_by}
use Rattle.vx_run.specs.Supplies.{supply}
use Rattle.vx_run.specs.Views.{outcome}
use Rattle.vx_run.specs.Visits.{filling_body}
use Rattle.vx_run.specs.Widths.{within_128_bits}
use Rattle.vx_run.specs.declared.halt.Halt.TheVariants as halt
use Rattle.vx_run.proofs.Steps.{follows_as}
use Rattle.vx_run.proofs.Exits.{handed_on, ended_on}
use Rattle.vx_run.proofs.Filled.{none_deeper, no_step, no_predicate, the_predicate}
use Rattle.vx_run.proofs.asserting.fill_instance.Goals as goal

pub returns-then-depth-eq0 : goal.returns-then-depth-eq0
returns-then-depth-eq0 c = λ steps.
    let t : Setting = record { program = settled c.args.program.now; steps = steps } in
    let k = c.args.k in
    let g = rest t c.args.frames.now.items in
    let i = held.instance c.args.i in
    let q = fraction c.args.q in
    let l = supply c.args.from.now in
    let inside : Holdings → Config → Going ℕ Config = λ h d.
    put_filling k.blame d (fill t.program by_draws within_128_bits (deeper_by t k.level) c.args.depth c.args.at i q (record { heap = d.state.heap; totals = h })) in
    none_deeper t k c.args.at i q g c.args.depth (config_of c.hold_taking.new.of) l c.in_ok-hold_taking.ensures.there c.if-depth-eq0.true
    ∙ ap (λ (x : Come). continued x g) (c.in_ok-hold_taking.ensures.same inside l)

pub returns-in_err-hold_taking : goal.returns-in_err-hold_taking
returns-in_err-hold_taking c = λ steps.
    let t : Setting = record { program = settled c.args.program.now; steps = steps } in
    let k = c.args.k in
    let g = rest t c.args.frames.now.items in
    let i = held.instance c.args.i in
    let q = fraction c.args.q in
    let l = supply c.args.from.now in
    let inside : Holdings → Config → Going ℕ Config = λ h d.
    put_filling k.blame d (fill t.program by_draws within_128_bits (deeper_by t k.level) c.args.depth c.args.at i q (record { heap = d.state.heap; totals = h })) in
    let d = config_of c.args.of.now in
    let e = config_of c.hold_taking.new.of in
    let x = c.in_err-hold_taking.field-0.0 in
    handed_on c.from_residual.result x (λ y. Follows y (g e l) (continued (with_taking d inside l) g)) c.from_residual.ensures.1
    (ended_on x (with_taking e inside l) (g e l) (with_taking d inside l) g (c.in_err-hold_taking.ensures.same inside l))

pub returns-in_err-step : goal.returns-in_err-step
returns-in_err-step c = λ steps.
    let t : Setting = record { program = settled c.args.program.now; steps = steps } in
    let k = c.args.k in
    let g = rest t c.args.frames.now.items in
    let i = held.instance c.args.i in
    let q = fraction c.args.q in
    let l = supply c.args.from.now in
    let inside : Holdings → Config → Going ℕ Config = λ h d.
    put_filling k.blame d (fill t.program by_draws within_128_bits (deeper_by t k.level) c.args.depth c.args.at i q (record { heap = d.state.heap; totals = h })) in
    let d = config_of c.args.of.now in
    let e = config_of c.hold_taking.new.of in
    let end = c.in_err-step.field-0.0 in
    handed_on c.from_residual-in_err-step.result (halt.Over end) (λ y. Follows y (g e (supply c.step.new.self)) (continued (with_taking d inside l) g)) c.from_residual-in_err-step.ensures.1
    (no_step t k c.args.at i q g c.args.depth e l (outcome end) c.in_ok-hold_taking.ensures.there c.if-depth-eq0.false c.in_err-step.ensures
    ∙ ap (λ (x : Come). continued x g) (c.in_ok-hold_taking.ensures.same inside l))

pub returns-in-None : goal.returns-in-None
returns-in-None c = λ steps.
    let t : Setting = record { program = settled c.args.program.now; steps = steps } in
    let k = c.args.k in
    let g = rest t c.args.frames.now.items in
    let i = held.instance c.args.i in
    let q = fraction c.args.q in
    let l = supply c.args.from.now in
    let inside : Holdings → Config → Going ℕ Config = λ h d.
    put_filling k.blame d (fill t.program by_draws within_128_bits (deeper_by t k.level) c.args.depth c.args.at i q (record { heap = d.state.heap; totals = h })) in
    ap (λ (o : Outcome). let x : Come = Err o in x) c.counted.ensures
    ∙ no_predicate t k c.args.at i q g c.args.depth (config_of c.hold_taking.new.of) l (supply c.step.new.self) c.in_ok-hold_taking.ensures.there c.if-depth-eq0.false c.in_ok-step.ensures (sym c.in-None.ensures)
    ∙ ap (λ (x : Come). continued x g) (c.in_ok-hold_taking.ensures.same inside l)

pub returns : goal.returns
returns c = λ steps.
    let t : Setting = record { program = settled c.args.program.now; steps = steps } in
    let k = c.args.k in
    let g = rest t c.args.frames.now.items in
    let i = held.instance c.args.i in
    let q = fraction c.args.q in
    let l = supply c.args.from.now in
    let u = supply c.step.new.self in
    let inside : Holdings → Config → Going ℕ Config = λ h d.
    put_filling k.blame d (fill t.program by_draws within_128_bits (deeper_by t k.level) c.args.depth c.args.at i q (record { heap = d.state.heap; totals = h })) in
    follows_as _ _ _ _ (c.enter_body.ensures t u c.in_ok-hold_taking.ensures.there)
    (ap (λ (e : code.Predicate). (filling_body t k (c.args.depth - 1) c.args.at (predicate e) i q (config_of c.hold_taking.new.of) >>= g) u) c.deref.ensures
    ∙ the_predicate t k c.args.at i q g c.args.depth (config_of c.hold_taking.new.of) l u (predicate c.in-Some.d.now.value) c.in_ok-hold_taking.ensures.there c.if-depth-eq0.false c.in_ok-step.ensures (sym c.in-Some.ensures)
    ∙ ap (λ (x : Come). continued x g) (c.in_ok-hold_taking.ensures.same inside l))
