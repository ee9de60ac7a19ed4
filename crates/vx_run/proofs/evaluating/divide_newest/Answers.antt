use Rattle.std.proofs.Common.{ℕ, sym, ◌∙◌, ap}
use Rattle.vx_meaning.specs.Values.{Value}
use Rattle.vx_resolved.specs.Resolved.{division}
use Rattle.vx_run.specs.Going.{Going}
use Rattle.vx_run.specs.Widths as widths
use Rattle.vx_run.specs.Widths.{within_128_bits}
use Rattle.vx_run.specs.Configs.{Config, put_value}
use Rattle.vx_run.specs.ConfigViews.{config_of}
use Rattle.vx_run.proofs.Steps.{follows_as}
use Rattle.vx_run.proofs.evaluating.divide_newest.Goals as goal

pub returns-in-Some : goal.returns-in-Some
returns-in-Some c = λ l.
    let b = c.args.b in
    let at = c.args.at in
    let on : Value → Value → Config → Going ℕ Config = λ v w d. put_value b d (widths.divide within_128_bits at (division c.args.op) v w) in
    follows_as _ _ _ _ (c.come_to.ensures l)
    (ap (λ (m : Going ℕ Value). put_value b (config_of c.take_two.new.of) m l) c.divide.ensures ∙ sym (ap (λ (m : Going ℕ Config). m l) (c.in-Some.ensures.some on)))
