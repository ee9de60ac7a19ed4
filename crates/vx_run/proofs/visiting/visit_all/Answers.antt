use Rattle.std.proofs.Common.{◌≡◌, ℕ, List, [], ◌∷◌, length, refl, sym, ◌∙◌, ap, arith}
use Rattle.vx_ast.specs.Syntax.{joined}
use Rattle.vx_resolved.specs.Resolved.{assertion, assertions}
use Rattle.vx_resolved.specs.declared.Assertion.{Assertion}
use Rattle.vx_run.specs.Going.{Going, Supply, continued}
use Rattle.vx_run.specs.Configs.{Config}
use Rattle.vx_run.specs.ConfigViews.{config_of}
use Rattle.vx_run.specs.Frames.{rest, before, Come}
use Rattle.vx_run.specs.Visits.{visiting}
use Rattle.vx_run.proofs.Carried.{puts_joined, puts_none}
use Rattle.vx_run.proofs.visiting.visit_all.Goals as goal

none_there : {A : Type 0} (xs : List A) → length xs ≡ 0 → xs ≡ []
none_there [] h = refl
none_there (x ∷ xs) h = absurd (omega (arith, h))

pub returns-in-None : goal.returns-in-None
returns-in-None c = λ t l.
    let g = rest t c.args.frames.now.items in
    let k = c.args.k in
    let m = c.args.m in
    let at = c.args.at in
    let d = config_of c.prepare.new.of in
    ap (λ (n : Supply ℕ → Come). n l) (puts_none t k m g d c.in_ok-prepare.ensures.ready at)
    ∙ ap (λ xs. before (visiting t k m (joined at (assertions xs))) g d l) (sym (none_there c.args.all.now c.in-None.ensures.cases))
    ∙ ap (λ (n : Come). continued n g) (c.in_ok-prepare.ensures.same t k (joined at (assertions c.args.all.now)) l)

pub returns-in_ok-put_off_two-in-Some : goal.returns-in_ok-put_off_two-in-Some
returns-in_ok-put_off_two-in-Some c = λ t l.
    let g = rest t c.args.frames.now.items in
    let k = c.args.k in
    let m = c.args.m in
    let at = c.args.at in
    let others = c.in-Some.others.now in
    let d = config_of c.prepare.new.of in
    ap (λ (f : Config → Going ℕ Config). f d l) (c.in_ok-put_off_two-in-Some.ensures t)
    ∙ ap (λ (x : Assertion). before (visiting t k m (assertion x)) (before (visiting t k m (joined at (assertions others))) g) d l) c.deref.ensures
    ∙ ap (λ (n : Supply ℕ → Come). n l) (puts_joined t k m g d c.in_ok-prepare.ensures.ready at (assertion c.in-Some.a.now.value) (assertions others))
    ∙ ap (λ xs. before (visiting t k m (joined at (assertions xs))) g d l) (sym c.in-Some.ensures.cases.0)
    ∙ ap (λ (n : Come). continued n g) (c.in_ok-prepare.ensures.same t k (joined at (assertions c.args.all.now)) l)
