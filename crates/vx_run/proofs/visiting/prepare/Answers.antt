use Rattle.std.proofs.Common.{◌≡◌, refl, sym, ◌∙◌, ap, subst}
use Rattle.std.specs.Prelude.{OnOk}
use Rattle.vx_frac.specs.Fraction.{fraction}
use Rattle.vx_meaning.specs.Flatten.{bare}
use Rattle.vx_run.specs.Configs.{Config, put_taking, put_filling}
use Rattle.vx_run.specs.ConfigViews.{config_of}
use Rattle.vx_run.specs.Frames.{Follows}
use Rattle.vx_run.specs.Visits.{taking, filling, visit_by, visiting, HasTaking, IsReady}
use Rattle.vx_run.specs.declared.visit.Manner.{Manner}
use Rattle.vx_run.specs.declared.visit.Manner.TheVariants as manner
use Rattle.vx_run.proofs.visiting.prepare.Goals as goal

pub returns-in-Take-clause-ready : goal.returns-in-Take-clause-ready
returns-in-Take-clause-ready c =
    subst (λ (m : Manner). OnOk c.hold_taking.result (IsReady m (config_of c.hold_taking.new.of))) (sym c.in-Take.is) c.hold_taking.ensures.there

pub returns-in-Take-clause-same : goal.returns-in-Take-clause-same
returns-in-Take-clause-same c = λ t k a l.
    subst (λ (m : Manner). Follows c.hold_taking.result (visiting t k m a (config_of c.hold_taking.new.of) l) (visiting t k m a (config_of c.args.of.now) l)) (sym c.in-Take.is)
    (c.hold_taking.ensures.same (λ h d. put_taking k.blame d (visit_by t k (taking t k (fraction c.in-Take.field-0) d.state) a h)) l)

pub returns-in_ok-make_bare-in-Fill-clause-ready : goal.returns-in_ok-make_bare-in-Fill-clause-ready
returns-in_ok-make_bare-in-Fill-clause-ready c =
    subst (λ (m : Manner). IsReady m (config_of c.make_bare.new.of)) (sym c.in-Fill.is)
    (subst (λ (x : Config). HasTaking x.takings × (x.state ≡ bare x.state.store x.state.heap)) (sym c.in_ok-make_bare-in-Fill.ensures) (c.in_ok-hold_taking-in-Fill.ensures.there, refl))

pub returns-in_ok-make_bare-in-Fill-clause-same : goal.returns-in_ok-make_bare-in-Fill-clause-same
returns-in_ok-make_bare-in-Fill-clause-same c = λ t k a l.
    let q = fraction c.in-Fill.field-0 in
    let n = c.in-Fill.field-1 in
    let at = c.in-Fill.field-2 in
    subst (λ (m : Manner). visiting t k m a (config_of c.make_bare.new.of) l ≡ visiting t k m a (config_of c.args.of.now) l) (sym c.in-Fill.is)
    (ap (λ (x : Config). visiting t k (manner.Fill c.in-Fill.field-0 n at) a x l) c.in_ok-make_bare-in-Fill.ensures
    ∙ c.in_ok-hold_taking-in-Fill.ensures.same (λ h d. put_filling k.blame d (visit_by t k (filling t k q n at d.state.store) a (record { heap = d.state.heap; totals = h }))) l)
