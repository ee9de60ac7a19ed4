use Rattle.std.proofs.Common.{ℕ, ◌-◌, List, ◌∷◌, map, Result, sym, ◌∙◌, ap, ap₂}
use Rattle.vx_meaning.specs.States.{State}
use Rattle.vx_resolved.specs.Resolved.{block, method, names_of, declaration}
use Rattle.vx_resolved.specs.declared.Declaration as declared
use Rattle.vx_run.specs.Draws.{by_draws}
use Rattle.vx_run.specs.Going.{Going, Outcome, Supply, continued, chosen_for}
use Rattle.vx_run.specs.Configs.{Config, in_state, with_lists, with_callers}
use Rattle.vx_run.specs.ConfigViews.{config_of, caller_of}
use Rattle.vx_run.specs.Frames.{rest, before}
use Rattle.vx_run.specs.Holding.{holdings}
use Rattle.vx_run.specs.Supplies.{supply}
use Rattle.vx_run.specs.Tasks.{body, ending, returning, entered_in}
use Rattle.vx_run.specs.Views.{value}
use Rattle.vx_run.specs.declared.values.Value.{Value as Value'}
use Rattle.vx_run.proofs.Steps.{bracketed}
use Rattle.vx_run.proofs.CallForms.{begins, by_body_is}
use Rattle.vx_run.proofs.calls.by_body.Goals as goal

pub returns : goal.returns
returns c = λ t.
    let k = rest t c.args.frames.now.items in
    let d = config_of c.args.of.now in
    let n = c.args.site.level in
    let at = c.args.site.place in
    let xs = names_of c.args.site.targets.now in
    let m = method c.args.site.method.now in
    let vs = map value c.args.vs.items in
    let ws = map value c.in_ok-ws.ws.items in
    let s = (caller_of c.args.caller).state in
    let h = holdings c.args.left in
    let b = block c.args.b.now in
    let l = supply c.args.supply.now in
    let l' = supply c.draw_all.new.self in
    let inner = begins t n s m vs ws h d in
    let first : Config → Going ℕ Config = body t (n - 1) b in
    let second : Config → Going ℕ Config = ending t n m in
    let third : Config → Going ℕ Config = returning t n at xs m in
    ap (λ (f : Config → Going ℕ Config). f (config_of c.keep_list.new.of) l') (c.in_ok-put_body.ensures t)
    ∙ ap (λ (e : Config). before first (before second (before third k)) e l')
    (c.in_ok-keep_list.ensures
    ∙ ap (λ (e : Config). with_lists (vs ∷ e.lists) e) (c.in_ok-put_caller.ensures
    ∙ ap (λ (e : Config). with_callers (record { state = s; left = h } ∷ e.callers) e) (c.enter-before.ensures.after ∙ ap (λ (u : State). in_state u d) (c.in_ok-inner.ensures
    ∙ ap₂ (λ (xs ys : List Value'). entered_in s m (map value xs) (map value ys) h) c.deref-2.ensures.value c.deref-3.ensures.value))))
    ∙ ap (λ (f : Config → Going ℕ Config). before first f inner l') (λ i e. sym (bracketed (second e) third k) i)
    ∙ ap (λ (o : Going ℕ Config). o l') (sym (bracketed (first inner) (before second third) k))
    ∙ ap (λ (r : Result (Config × Supply ℕ) Outcome). continued r k) (sym (by_body_is t n at s xs m vs ws h b d l l'
    (ap (λ (ds : List declared.Declaration). chosen_for by_draws (map declaration ds) l) (sym c.deref.ensures.value) ∙ c.in_ok-ws.ensures)))
