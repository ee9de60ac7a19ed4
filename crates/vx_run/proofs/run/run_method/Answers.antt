use Rattle.std.proofs.Common.{List, map, sym, ◌∙◌, ◌++◌, ap, ap₂}
use Rattle.vx_meaning.specs.States.{Store, bind}
use Rattle.vx_resolved.specs.Resolved.{method, block, declaration}
use Rattle.vx_resolved.specs.declared.Declaration as declared
use Rattle.vx_resolved.specs.Settled.{settled}
use Rattle.vx_run.specs.Draws.{by_draws}
use Rattle.vx_run.specs.Going.{chosen_for}
use Rattle.vx_run.specs.Configs.{Setting}
use Rattle.vx_run.specs.ConfigViews.{config_of}
use Rattle.vx_run.specs.Frames.{rest}
use Rattle.vx_run.specs.Stores.{store}
use Rattle.vx_run.specs.Supplies.{supply}
use Rattle.vx_run.specs.Views.{value}
use Rattle.vx_run.specs.declared.store.Variable.{Variable}
use Rattle.vx_run.specs.declared.values.Value.{Value as Value'}
use Rattle.vx_run.proofs.Started.{method_drawn}
use Rattle.vx_run.proofs.run.run_method.Goals as goal

pub returns : goal.returns
returns c =
    let p = settled c.args.program.now in
    let m = method c.args.m.now in
    let b = block c.args.body.now in
    let t : Setting = record { program = p; steps = c.args.steps } in
    let vs = map value c.in_ok-vs.vs.items in
    let ws = map value c.in_ok-ws.ws.items in
    c.in_ok-end.ensures
    ∙ method_drawn p m b c.args.seed c.args.steps c.in-Some.level vs ws (supply c.draw_all.new.self) (supply c.draw_all-2.new.self) _ (config_of c.in_ok-of.of)
    (rest t c.in_ok-frames.frames.items) (c.in_ok-frames.ensures t) c.in_ok-of.ensures
    (c.in_ok-bind-2.ensures
    ∙ ap₂ (λ (ds : List declared.Declaration) (us : List Value'). store c.bind.new.variables.items ++ bind (map declaration ds) (map value us)) c.deref-5.ensures.value c.deref-6.ensures.value
    ∙ ap (λ (x : Store). x ++ bind m.returns ws)
    (c.in_ok-bind.ensures
    ∙ ap₂ (λ (ds : List declared.Declaration) (us : List Value'). store c.new-store.result.items ++ bind (map declaration ds) (map value us)) c.deref-3.ensures.value c.deref-4.ensures.value
    ∙ ap (λ (xs : List Variable). store xs ++ bind m.parameters vs) c.new-store.ensures.items))
    c.in-Some.ensures
    (ap (λ (ds : List declared.Declaration). chosen_for by_draws (map declaration ds) (record { source = c.args.seed; steps = c.args.steps })) (sym c.deref.ensures.value)
    ∙ ap (chosen_for by_draws (map declaration c.deref.result.now)) (sym c.new-supply.ensures)
    ∙ c.in_ok-vs.ensures)
    (ap (λ (ds : List declared.Declaration). chosen_for by_draws (map declaration ds) (supply c.draw_all.new.self)) (sym c.deref-2.ensures.value) ∙ c.in_ok-ws.ensures)
