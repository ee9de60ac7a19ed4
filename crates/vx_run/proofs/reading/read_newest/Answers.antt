use Rattle.std.proofs.Common.{ℕ, sym, ◌∙◌, ap}
use Rattle.std.specs.Prelude.{string_bytes}
use Rattle.vx_meaning.specs.Values.{Value}
use Rattle.vx_resolved.specs.Settled.{settled}
use Rattle.vx_run.specs.Going.{Going}
use Rattle.vx_run.specs.Configs.{Setting, Config, put_value}
use Rattle.vx_run.specs.ConfigViews.{config_of}
use Rattle.vx_run.specs.Pending.{reading, read_at, state_at}
use Rattle.vx_run.proofs.Steps.{follows_as}
use Rattle.vx_run.proofs.reading.read_newest.Goals as goal

pub returns-in_ok-came-in-Some : goal.returns-in_ok-came-in-Some
returns-in_ok-came-in-Some c = λ steps l.
    let t : Setting = record { program = settled c.args.program.now; steps = steps } in
    let on : Value → Config → Going ℕ Config = λ v d. put_value c.args.b d (read_at t (reading c.args.r) (state_at c.args.when d.state) c.args.at (string_bytes c.args.field.now.value) v) in
    follows_as _ _ _ _ (c.come_to.ensures l)
    (ap (λ (m : Going ℕ Value). put_value c.args.b (config_of c.take_one.new.of) m l) (c.in_ok-came-in-Some.ensures steps) ∙ sym (ap (λ (m : Going ℕ Config). m l) (c.in-Some.ensures.some on)))
