use Rattle.std.proofs.Common.{ℕ, List, map, ◌∷◌, ◌∙◌, ap}
use Rattle.std.specs.Prelude.{string_bytes}
use Rattle.vx_frac.specs.Fraction.{fraction}
use Rattle.vx_meaning.specs.States.{Store, bind, with_store}
use Rattle.vx_resolved.specs.Resolved.{assertion, declaration}
use Rattle.vx_run.specs.Going.{Going}
use Rattle.vx_run.specs.Configs.{Config, in_state, with_lists}
use Rattle.vx_run.specs.declared.values.Value.{Value}
use Rattle.vx_run.specs.ConfigViews.{config_of}
use Rattle.vx_run.specs.Frames.{rest, before}
use Rattle.vx_run.specs.Tasks as tasks
use Rattle.vx_run.specs.Tasks.{taking, held_again}
use Rattle.vx_run.specs.Views.{value}
use Rattle.vx_run.proofs.StatementForms.{of_three}
use Rattle.vx_run.proofs.CallForms.{failing, with_variables, fold_is}
use Rattle.vx_run.proofs.folding.fold_body.Goals as goal

pub returns : goal.returns
returns c = λ t l.
    let k = rest t c.args.frames.now.items in
    let d = config_of c.args.of.now in
    let n = c.args.level in
    let at = c.args.at in
    let i = string_bytes c.args.i.now.value in
    let q = fraction c.args.q in
    let e = assertion c.args.body.now in
    let vs = map value c.args.vs.items in
    let x = bind (map declaration c.args.parameters.now) vs in
    let first : Config → Going ℕ Config = taking t (failing n at) q e in
    let second : Config → Going ℕ Config = held_again at i q in
    let inner : Config = record d { lists = vs ∷ d.lists; state = with_store x d.state } in
    ap (λ (f : Config → Going ℕ Config). f (config_of c.keep_list.new.of) l)
    (c.in_ok-take_first.ensures t
    ∙ ap (λ (f : Config → Going ℕ Config). before first f)
    (c.in_ok-put_off-2.ensures t
    ∙ ap (λ (f : Config → Going ℕ Config). before second f) (c.in_ok-put_off.ensures t ∙ ap (λ (y : Store). before (with_variables t n y) k) c.in_ok-outer.ensures.before)))
    ∙ ap (λ (z : Config). before first (before second (before (with_variables t n d.state.store) k)) z l)
    (c.in_ok-keep_list.ensures ∙ ap (λ (z : Config). with_lists (vs ∷ z.lists) z) (c.in_ok-outer.ensures.after
    ∙ ap (λ (us : List Value). in_state (with_store (bind (map declaration c.args.parameters.now) (map value us)) d.state) d) c.deref.ensures.value))
    ∙ of_three first second (with_variables t n d.state.store) k inner l (tasks.fold_body t n at i q x e vs d) (fold_is t n at i q x e vs d)
