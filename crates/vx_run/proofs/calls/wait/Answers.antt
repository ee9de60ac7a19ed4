use Rattle.std.proofs.Common.{List, map, ◌∷◌, ◌∙◌, ap, ap₂}
use Rattle.vx_meaning.specs.States.{State, Holdings, bind, with_store}
use Rattle.vx_resolved.specs.Resolved.{declaration}
use Rattle.vx_run.specs.Configs.{Config, Caller, in_state, with_lists, with_callers}
use Rattle.vx_run.specs.ConfigViews.{config_of}
use Rattle.vx_run.specs.Views.{value}
use Rattle.vx_run.specs.declared.values.Value.{Value as Value'}
use Rattle.vx_run.proofs.calls.wait.Goals as goal

pub returns : goal.returns
returns c =
    let d = config_of c.args.of.now in
    let vs = map value c.args.vs.items in
    let x = bind (map declaration c.args.parameters.now) vs in
    c.in_ok-keep_list.ensures
    ∙ ap (λ (e : Config). with_lists (vs ∷ e.lists) e) (c.in_ok-put_caller.ensures
    ∙ ap₂ (λ (w : Caller) (e : Config). with_callers (w ∷ e.callers) e)
    (ap₂ (λ (s : State) (h : Holdings). let w : Caller = record { state = s; left = h } in w) c.enter-state.ensures.before c.in_ok-left.ensures)
    (c.enter-state.ensures.after ∙ ap (λ (s : State). in_state s d) (c.in_ok-inner.ensures
    ∙ ap (λ (us : List Value'). with_store (bind (map declaration c.args.parameters.now) (map value us)) d.state) c.deref.ensures.value)))
