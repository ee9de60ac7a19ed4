use Rattle.std.proofs.Common.{ℕ, sym, ◌∙◌, ap}
use Rattle.vx_meaning.specs.States.{Holdings, with_heap}
use Rattle.vx_resolved.specs.Settled.{settled}
use Rattle.vx_run.specs.Going.{Going}
use Rattle.vx_run.specs.Configs.{Setting, Config, put_state}
use Rattle.vx_run.specs.ConfigViews.{state_of}
use Rattle.vx_run.specs.Visits.{possible_or_stop}
use Rattle.vx_run.proofs.Steps.{follows_as}
use Rattle.vx_run.proofs.asserting.go_on_in.Goals as goal

pub returns-in-Some : goal.returns-in-Some
returns-in-Some c = λ l.
    let t : Setting = record { program = settled c.args.program.now; steps = c.args.steps } in
    let b = c.args.b in
    let at = c.args.at in
    let on : Holdings → Config → Going ℕ Config = λ h d. put_state b d (possible_or_stop t at d (with_heap d.state.heap (state_of c.args.state))) in
    follows_as _ _ _ _ (c.stop_unless_possible.ensures l)
    (ap (λ (x : Config). put_state b x (possible_or_stop t at x x.state) l) c.keep_heap.ensures ∙ sym (ap (λ (n : Going ℕ Config). n l) (c.in-Some.ensures.some on)))
