use Rattle.std.proofs.Common.{ℕ, List, Err, map, sym, ◌∙◌, ap}
use Rattle.std.specs.Prelude.{string_bytes}
use Rattle.vx_meaning.specs.Values.{Value}
use Rattle.vx_resolved.specs.Settled.{settled}
use Rattle.vx_run.specs.Going.{Going, Outcome, ◌>>=◌, failing_as, Failed}
use Rattle.vx_run.specs.Views.{value, outcome}
use Rattle.vx_run.specs.Supplies.{supply}
use Rattle.vx_run.specs.Configs.{Setting, Config, put_value}
use Rattle.vx_run.specs.ConfigViews.{config_of}
use Rattle.vx_run.specs.Frames.{Come, rest}
use Rattle.vx_run.specs.Pending.{reading, state_at, apply, deeper_by}
use Rattle.vx_run.specs.declared.values.Value.{Value as Value'}
use Rattle.vx_run.proofs.Steps.{follows_as}
use Rattle.vx_run.proofs.Applied.{no_step, stepped_on}
use Rattle.vx_run.proofs.applying.apply_newest.Goals as goal

pub returns-in-Err : goal.returns-in-Err
returns-in-Err c = λ steps.
    let t : Setting = record { program = settled c.args.program.now; steps = steps } in
    let d = config_of c.take_list.new.of in
    let name = string_bytes c.args.name.now.value in
    let k = rest t c.args.frames.now.items in
    let on : List Value → Config → Going ℕ Config = λ vs e. put_value c.args.k.blame e (apply t c.args.k.level (reading c.args.r) (state_at c.args.when e.state) c.args.at name vs) in
    ap (λ (o : Outcome). let x : Come = Err o in x) c.counted.ensures
    ∙ no_step t c.args.k.blame c.args.k.level (reading c.args.r) c.args.at name (map value c.in-Some.vs.items) d (state_at c.args.when d.state) k (supply c.args.supply.now) (outcome c.in-Err.end) c.in-Err.ensures
    ∙ ap (λ (m : Going ℕ Config). (m >>= k) (supply c.args.supply.now)) (sym (c.in-Some.ensures.some on))

pub returns : goal.returns
returns c = λ steps.
    let t : Setting = record { program = settled c.args.program.now; steps = steps } in
    let d = config_of c.take_list.new.of in
    let name = string_bytes c.args.name.now.value in
    let k = rest t c.args.frames.now.items in
    let on : List Value → Config → Going ℕ Config = λ vs e. put_value c.args.k.blame e (apply t c.args.k.level (reading c.args.r) (state_at c.args.when e.state) c.args.at name vs) in
    follows_as _ _ _ _ (c.apply_to.ensures steps (supply c.step.new.self))
    (ap (λ (us : List Value'). (put_value c.args.k.blame d (failing_as (Failed c.args.at) ((deeper_by t c.args.k.level).applied (reading c.args.r) c.args.at name (map value us) (state_at c.args.when d.state))) >>= k)
    (supply c.step.new.self)) c.deref.ensures.value
    ∙ stepped_on t c.args.k.blame c.args.k.level (reading c.args.r) c.args.at name (map value c.in-Some.vs.items) d (state_at c.args.when d.state) k (supply c.args.supply.now) (supply c.step.new.self) c.in-Ok.ensures
    ∙ ap (λ (m : Going ℕ Config). (m >>= k) (supply c.args.supply.now)) (sym (c.in-Some.ensures.some on)))
