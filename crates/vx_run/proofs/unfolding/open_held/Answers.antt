use Rattle.std.proofs.Common.{Err, ◌-◌, map, refl, sym, ◌∙◌, ap, ap₂}
use Rattle.vx_frac.specs.Fraction.{fraction}
use Rattle.vx_meaning.specs.States.{bind}
use Rattle.vx_resolved.specs.Resolved.{assertion, declaration, expr, optional_assertion, predicate}
use Rattle.vx_resolved.specs.declared.Assertion.{Assertion as Assertion'}
use Rattle.vx_resolved.specs.declared.Predicate.{Predicate as Predicate'}
use Rattle.vx_resolved.specs.Settled.{settled}
use Rattle.vx_run.specs.Held.{instance}
use Rattle.vx_run.specs.Going.{Outcome}
use Rattle.vx_run.specs.Configs.{Setting}
use Rattle.vx_run.specs.ConfigViews.{config_of}
use Rattle.vx_run.specs.Frames.{Come, rest, before}
use Rattle.vx_run.specs.Pending.{state_at, exchanged_in}
use Rattle.vx_run.specs.declared.context.Within.{Within}
use Rattle.vx_run.proofs.Steps.{follows_as}
use Rattle.vx_run.proofs.Opened.{no_level, no_predicate, no_body, by_body}
use Rattle.vx_run.proofs.unfolding.open_held.Goals as goal

pub returns-then-k-eq0 : goal.returns-then-k-eq0
returns-then-k-eq0 c = λ steps l.
    let t : Setting = record { program = settled c.args.program.now; steps = steps } in
    let d = config_of c.args.of.now in
    ap (λ (o : Outcome). let x : Come = Err o in x) c.counted.ensures
    ∙ no_level t c.args.k c.args.at (instance c.args.i.now) (fraction c.args.q) (expr c.args.e.now) d (state_at c.args.when d.state) (rest t c.args.frames.now.items) l
    c.if-k-eq0.true c.fails-blame.result c.fails-blame.ensures

pub returns-in-None : goal.returns-in-None
returns-in-None c = λ steps l.
    let t : Setting = record { program = settled c.args.program.now; steps = steps } in
    let d = config_of c.args.of.now in
    ap (λ (o : Outcome). let x : Come = Err o in x) c.counted-in-None.ensures
    ∙ no_predicate t c.args.k c.args.at (instance c.args.i.now) (fraction c.args.q) (expr c.args.e.now) d (state_at c.args.when d.state) (rest t c.args.frames.now.items) l
    c.fails-blame.result c.if-k-eq0.false c.fails-blame.ensures (sym c.in-None.ensures)

pub returns-in-None-body : goal.returns-in-None-body
returns-in-None-body c = λ steps l.
    let t : Setting = record { program = settled c.args.program.now; steps = steps } in
    let d = config_of c.args.of.now in
    ap (λ (o : Outcome). let x : Come = Err o in x) c.counted-in-None-body.ensures
    ∙ no_body t c.args.k c.args.at (instance c.args.i.now) (fraction c.args.q) (expr c.args.e.now) d (state_at c.args.when d.state) (rest t c.args.frames.now.items) l
    c.fails-blame.result c.if-k-eq0.false c.fails-blame.ensures (predicate c.in-Some.d.now.value) (sym c.in-Some.ensures) (ap (λ (b : Predicate'). optional_assertion b.body) (sym c.deref.ensures) ∙ ap optional_assertion c.in-None-body.is)

pub returns-in-Some-body : goal.returns-in-Some-body
returns-in-Some-body c = λ steps l.
    let t : Setting = record { program = settled c.args.program.now; steps = steps } in
    let d = config_of c.args.of.now in
    let i = instance c.args.i.now in
    let inner : Within = record { level = c.args.k.level - 1; blame = c.fails-blame.result } in
    follows_as _ _ _ _ (c.exchange.ensures t l)
    (ap₂ (λ (b : Predicate') (x : Assertion'). before (λ e. exchanged_in t inner c.args.k c.args.at i (fraction c.args.q) (bind (map declaration b.parameters.items) i.arguments) (assertion x)
    (expr c.args.e.now) (state_at c.args.when e.state) e) (rest t c.args.frames.now.items) d l) c.deref-in-Some-body.ensures c.deref-in-Some-body-2.ensures
    ∙ by_body t c.args.k c.args.at (instance c.args.i.now) (fraction c.args.q) (expr c.args.e.now) d (state_at c.args.when d.state) (rest t c.args.frames.now.items) l
    c.fails-blame.result c.if-k-eq0.false c.fails-blame.ensures (predicate c.in-Some.d.now.value) (sym c.in-Some.ensures) (assertion c.in-Some-body.body.value) (ap (λ (b : Predicate'). optional_assertion b.body) (sym c.deref.ensures) ∙ ap optional_assertion c.in-Some-body.is) inner refl refl)
