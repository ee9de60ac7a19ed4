use Rattle.std.proofs.Common.{◌≡◌, List, [], ◌∷◌, length, refl, ◌∙◌, ap, arith}
use Rattle.vx_run.specs.Frames.{rest}
use Rattle.vx_run.specs.declared.frame.Frame.{Frame}
use Rattle.vx_run.proofs.Steps.{rest_more}
use Rattle.vx_run.proofs.frames.take_off.Goals as goal

none_there : (fs : List Frame) → length fs ≡ 0 → fs ≡ []
none_there [] e = refl
none_there (f ∷ fs) e = absurd (omega (arith, e))

pub returns-in-Some-clause-some : goal.returns-in-Some-clause-some
returns-in-Some-clause-some c = λ t. ap (rest t) c.in-Some.ensures.items ∙ rest_more t c.pop.new.self.items c.in-Some.next

pub returns-in-None-clause-none : goal.returns-in-None-clause-none
returns-in-None-clause-none c = λ t d.
    let empty : length c.args.frames.now.items ≡ 0 = omega (arith, c.args.frames.now.ok.0, c.in-None.ensures.cases.0) in
    ap (λ (fs : List Frame). rest t fs d) {x = c.args.frames.now.items} (none_there c.args.frames.now.items empty)
