use Rattle.std.proofs.Common.{ℕ, sym, ◌∙◌, ap, subst}
use Rattle.std.specs.Prelude.{string_bytes}
use Rattle.vx_frac.specs.Fraction.{fraction}
use Rattle.vx_frac.specs.Fractions.{Fraction}
use Rattle.vx_meaning.specs.Values.{Value}
use Rattle.vx_meaning.specs.States.{Resource}
use Rattle.vx_resolved.specs.Settled.{settled}
use Rattle.vx_run.specs.Going.{Going, ◌>>=◌}
use Rattle.vx_run.specs.Blame.{within}
use Rattle.vx_run.specs.Configs.{Setting, Config}
use Rattle.vx_run.specs.ConfigViews.{config_of}
use Rattle.vx_run.specs.Frames.{Come, rest}
use Rattle.vx_run.specs.Held.{resource}
use Rattle.vx_run.specs.Holding.{Ends}
use Rattle.vx_run.specs.Supplies.{supply}
use Rattle.vx_run.specs.Views.{value}
use Rattle.vx_run.specs.Visits.{field_of, doing}
use Rattle.vx_frac.specs.declared.Frac.{Frac}
use Rattle.vx_run.specs.declared.resource.Resource.{Resource as Resource'}
use Rattle.vx_run.proofs.Steps.{follows_as}
use Rattle.vx_run.proofs.Permitted.{ends_follow, ends_on, tells_ends, blamed_then}
use Rattle.vx_run.proofs.asserting.point_newest.Goals as goal

pub returns-in-Ok : goal.returns-in-Ok
returns-in-Ok c =
    let t : Setting = record { program = settled c.args.program.now; steps = c.args.steps } in
    let k = c.args.k in
    let l = supply c.args.from.now in
    let g = rest t c.args.frames.now.items in
    let mid = config_of c.take_two.new.of in
    let f = string_bytes c.args.f.now.value in
    let on : Value → Value → Config → Going ℕ Config = λ v w d. within k.blame (field_of c.args.at f v w) >>= λ part. doing t k c.args.m c.args.at part d in
    follows_as _ _ _ _ c.do_newest.ensures
    (ap (λ (m : Going ℕ (Resource × Fraction)). ((within k.blame m >>= λ part. doing t k c.args.m c.args.at part mid) >>= g) l) c.in-Ok.ensures
    ∙ sym (ap (λ (m : Going ℕ Config). (m >>= g) l) (c.in-Some.ensures.some on)))

pub returns-in-Err : goal.returns-in-Err
returns-in-Err c =
    let t : Setting = record { program = settled c.args.program.now; steps = c.args.steps } in
    let k = c.args.k in
    let l = supply c.args.from.now in
    let g = rest t c.args.frames.now.items in
    let mid = config_of c.take_two.new.of in
    let f = string_bytes c.args.f.now.value in
    let on : Value → Value → Config → Going ℕ Config = λ v w d. within k.blame (field_of c.args.at f v w) >>= λ part. doing t k c.args.m c.args.at part d in
    let m = field_of c.args.at f (value c.in-Some.v) (value c.in-Some.w) in
    ends_follow c.blamed.result _ _
    (subst (λ (n : Come). Ends c.blamed.result n) (sym (ap (λ (m : Going ℕ Config). (m >>= g) l) (c.in-Some.ensures.some on)))
    (ends_on c.blamed.result _ g (blamed_then c.in-Err.halt c.blamed.result k.blame c.blamed.ensures m (λ part. doing t k c.args.m c.args.at part mid) l
    (tells_ends {A = Resource' × Frac} {B = Resource × Fraction} (λ part. (resource part.0, fraction part.1)) c.in-Err.halt m l c.in-Err.ensures))))
