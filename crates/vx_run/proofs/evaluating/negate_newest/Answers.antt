use Rattle.std.proofs.Common.{ℕ, sym, ◌∙◌, ap}
use Rattle.vx_meaning.specs.Values as meaning
use Rattle.vx_meaning.specs.Values.{Value}
use Rattle.vx_run.specs.Going.{Going, expect, Failed}
use Rattle.vx_run.specs.Configs.{Config, put_value}
use Rattle.vx_run.specs.ConfigViews.{config_of}
use Rattle.vx_run.proofs.Steps.{follows_as}
use Rattle.vx_run.proofs.evaluating.negate_newest.Goals as goal

pub returns-in-Some : goal.returns-in-Some
returns-in-Some c = λ l.
    let b = c.args.b in
    let at = c.args.at in
    let on : Value → Config → Going ℕ Config = λ v d. put_value b d (expect (meaning.negated v) (Failed at)) in
    follows_as _ _ _ _ (c.come_to.ensures l)
    (ap (λ (m : Going ℕ Value). put_value b (config_of c.take_one.new.of) m l) c.negate.ensures ∙ sym (ap (λ (m : Going ℕ Config). m l) (c.in-Some.ensures.some on)))
