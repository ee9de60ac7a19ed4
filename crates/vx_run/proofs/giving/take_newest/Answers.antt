use Rattle.std.proofs.Common.{ℕ, ◌∷◌, sym, ◌∙◌, ap, subst}
use Rattle.vx_frac.specs.Fraction.{fraction}
use Rattle.vx_meaning.specs.States.{Holdings}
use Rattle.vx_run.specs.Going.{Going, gives}
use Rattle.vx_run.specs.Configs.{Config, with_takings, put_taking}
use Rattle.vx_run.specs.ConfigViews.{config_of}
use Rattle.vx_run.specs.Frames.{Come}
use Rattle.vx_run.specs.Held.{resource}
use Rattle.vx_run.specs.Holding.{holdings, Ends}
use Rattle.vx_run.specs.Visits.{taking}
use Rattle.vx_run.proofs.Permitted.{ends_follow, tells_ends, blamed_then}
use Rattle.vx_run.proofs.giving.take_newest.Goals as goal

pub returns-in-Ok : goal.returns-in-Ok
returns-in-Ok c = λ t l.
    let k = c.args.k in
    let q = fraction c.args.q in
    let r = resource c.args.r.now in
    let a = fraction c.args.a in
    let mid = config_of c.take_taking.new.of in
    let on : Holdings → Config → Going ℕ Config = λ h d. put_taking k.blame d ((taking t k q d.state).part c.args.at (r, a) h) in
    ap (λ (x : Config). let g : Going ℕ Config = gives x in g l) c.in_ok-put_taking-in-Ok.ensures
    ∙ ap (λ (n : Going ℕ Holdings). put_taking k.blame mid n l) (c.in-Ok.ensures t k mid.state)
    ∙ sym (ap (λ (n : Going ℕ Config). n l) (c.in-Some.ensures.some on))

pub returns : goal.returns
returns c = λ t l.
    let k = c.args.k in
    let q = fraction c.args.q in
    let r = resource c.args.r.now in
    let a = fraction c.args.a in
    let mid = config_of c.take_taking.new.of in
    let on : Holdings → Config → Going ℕ Config = λ h d. put_taking k.blame d ((taking t k q d.state).part c.args.at (r, a) h) in
    let m = (taking t k q mid.state).part c.args.at (r, a) (holdings c.in-Some.from) in
    ends_follow c.blamed.result _ _
    (subst (λ (n : Come). Ends c.blamed.result n) (sym (ap (λ (n : Going ℕ Config). n l) (c.in-Some.ensures.some on)))
    (blamed_then c.in-Err.halt c.blamed.result k.blame c.blamed.ensures m (λ h. gives (with_takings (h ∷ mid.takings) mid)) l (tells_ends holdings c.in-Err.halt m l (c.in-Err.ensures t k mid.state))))
