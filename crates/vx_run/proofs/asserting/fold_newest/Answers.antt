use Rattle.std.proofs.Common.{ℕ, List, map, sym, ◌∙◌, ap, subst}
use Rattle.std.specs.Prelude.{string_bytes}
use Rattle.vx_frac.specs.Fraction.{fraction}
use Rattle.vx_frac.specs.Fractions.{Fraction}
use Rattle.vx_meaning.specs.Values.{Value}
use Rattle.vx_meaning.specs.States.{Resource}
use Rattle.vx_resolved.specs.Settled.{settled}
use Rattle.vx_run.specs.Going.{Going, ◌>>=◌}
use Rattle.vx_run.specs.Blame.{within}
use Rattle.vx_run.specs.Configs.{Setting, Config, with_list}
use Rattle.vx_run.specs.ConfigViews.{config_of}
use Rattle.vx_run.specs.Frames.{Come, rest}
use Rattle.vx_run.specs.Held.{resource}
use Rattle.vx_run.specs.Holding.{Ends}
use Rattle.vx_run.specs.Supplies.{supply}
use Rattle.vx_run.specs.Views.{value}
use Rattle.vx_run.specs.Visits.{instance_of, doing}
use Rattle.vx_frac.specs.declared.Frac.{Frac}
use Rattle.vx_run.specs.declared.resource.Resource.{Resource as Resource'}
use Rattle.vx_run.proofs.Steps.{follows_as}
use Rattle.vx_run.proofs.Permitted.{ends_follow, ends_on, tells_ends, blamed_then}
use Rattle.vx_run.proofs.asserting.fold_newest.Goals as goal

pub returns-in-Ok : goal.returns-in-Ok
returns-in-Ok c =
    let t : Setting = record { program = settled c.args.program.now; steps = c.args.steps } in
    let k = c.args.k in
    let l = supply c.args.from.now in
    let g = rest t c.args.frames.now.items in
    let first = config_of c.take_one.new.of in
    let mid = config_of c.take_list.new.of in
    let i = string_bytes c.args.i.now.value in
    let then' : Value → List Value → Config → Going ℕ Config = λ w vs d. within k.blame (instance_of c.args.at i vs w) >>= λ part. doing t k c.args.m c.args.at part d in
    let on : Value → Config → Going ℕ Config = λ w d. with_list d (then' w) in
    let found = c.in-Some.ensures.some on ∙ c.in-Some-take_list.ensures.some (then' (value c.in-Some.w)) in
    follows_as _ _ _ _ c.do_newest.ensures
    (ap (λ (m : Going ℕ (Resource × Fraction)). ((within k.blame m >>= λ part. doing t k c.args.m c.args.at part mid) >>= g) l) c.in-Ok.ensures
    ∙ sym (ap (λ (m : Going ℕ Config). (m >>= g) l) found))

pub returns-in-Err : goal.returns-in-Err
returns-in-Err c =
    let t : Setting = record { program = settled c.args.program.now; steps = c.args.steps } in
    let k = c.args.k in
    let l = supply c.args.from.now in
    let g = rest t c.args.frames.now.items in
    let first = config_of c.take_one.new.of in
    let mid = config_of c.take_list.new.of in
    let i = string_bytes c.args.i.now.value in
    let then' : Value → List Value → Config → Going ℕ Config = λ w vs d. within k.blame (instance_of c.args.at i vs w) >>= λ part. doing t k c.args.m c.args.at part d in
    let on : Value → Config → Going ℕ Config = λ w d. with_list d (then' w) in
    let found = c.in-Some.ensures.some on ∙ c.in-Some-take_list.ensures.some (then' (value c.in-Some.w)) in
    let m = instance_of c.args.at i (map value c.in-Some-take_list.vs.items) (value c.in-Some.w) in
    ends_follow c.blamed.result _ _
    (subst (λ (n : Come). Ends c.blamed.result n) (sym (ap (λ (m : Going ℕ Config). (m >>= g) l) found))
    (ends_on c.blamed.result _ g (blamed_then c.in-Err.halt c.blamed.result k.blame c.blamed.ensures m (λ part. doing t k c.args.m c.args.at part mid) l
    (tells_ends {A = Resource' × Frac} {B = Resource × Fraction} (λ part. (resource part.0, fraction part.1)) c.in-Err.halt m l c.in-Err.ensures))))
