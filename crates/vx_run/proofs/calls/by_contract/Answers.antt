use Rattle.std.proofs.Common.{ℕ, List, map, Result, sym, ◌∙◌, ap, ap₂}
use Rattle.std.specs.declared.alloc.Global.{Global}
use Rattle.std.specs.declared.rc.Rc.{Rc}
use Rattle.vx_ast.specs.Syntax.{joined}
use Rattle.vx_frac.specs.Fractions.{full}
use Rattle.vx_meaning.specs.States.{Heap}
use Rattle.vx_meaning.specs.Fails.{postcondition_of}
use Rattle.vx_resolved.specs.Resolved.{method, names_of, assertions, declaration}
use Rattle.vx_resolved.specs.declared.Assertion as asserted
use Rattle.vx_resolved.specs.declared.Declaration as declared
use Rattle.vx_run.specs.Draws.{by_draws}
use Rattle.vx_run.specs.Going.{Going, Outcome, Supply, continued, chosen_for}
use Rattle.vx_run.specs.Held.{heap}
use Rattle.vx_run.specs.Configs.{Config, in_state}
use Rattle.vx_run.specs.ConfigViews.{config_of, caller_of}
use Rattle.vx_run.specs.Frames.{rest, before}
use Rattle.vx_run.specs.Holding.{holdings}
use Rattle.vx_run.specs.Supplies.{supply}
use Rattle.vx_run.specs.Tasks.{giving, resuming, answered, given_in}
use Rattle.vx_run.specs.Views.{value}
use Rattle.vx_run.specs.declared.values.Value.{Value as Value'}
use Rattle.vx_run.proofs.Steps.{bracketed}
use Rattle.vx_run.proofs.CallForms.{failing, contract_is}
use Rattle.vx_run.proofs.calls.by_contract.Goals as goal

pub returns : goal.returns
returns c = λ t.
    let k = rest t c.args.frames.now.items in
    let d = config_of c.args.of.now in
    let n = c.args.site.level in
    let at = c.args.site.place in
    let xs = names_of c.args.site.targets.now in
    let m = method c.args.site.method.now in
    let vs = map value c.args.vs.now in
    let ws = map value c.in_ok-ws.ws.items in
    let s = (caller_of c.args.caller).state in
    let h = holdings c.args.left.now in
    let l = supply c.args.supply.now in
    let l' = supply c.draw_all.new.self in
    let first : Config → Going ℕ Config = giving t (failing n at) full (postcondition_of m) in
    let second : Config → Going ℕ Config = resuming (answered xs ws s) in
    let inner = in_state (given_in s m vs ws h s.heap) d in
    ap (λ (f : Config → Going ℕ Config). f (config_of c.come_back.new.of) l')
    (c.in_ok-give_all_first.ensures t
    ∙ ap (λ (as' : List (Rc asserted.Assertion Global)). before (giving t (failing n at) full (joined m.place (assertions as'))) (rest t c.come_back.new.frames.items)) c.deref-3.ensures.value
    ∙ ap (λ (f : Config → Going ℕ Config). before first f) (c.in_ok-come_back.ensures.frames t ∙ ap (λ (us : List Value'). before (resuming (answered xs (map value us) s)) k) c.deref-2.ensures.value))
    ∙ ap (λ (e : Config). before first (before second k) e l')
    (c.in_ok-come_back.ensures.state ∙ ap₂ (λ (us : List Value') (z : Heap). in_state (given_in s m vs (map value us) h z) d) c.deref-2.ensures.value (ap heap c.in_ok-heap.ensures.cases))
    ∙ ap (λ (o : Going ℕ Config). o l') (sym (bracketed (first inner) second k))
    ∙ ap (λ (r : Result (Config × Supply ℕ) Outcome). continued r k) (sym (contract_is t n at s xs m vs ws h d l l' (ap (λ (ds : List declared.Declaration). chosen_for by_draws (map declaration ds) l) (sym c.deref.ensures.value) ∙ c.in_ok-ws.ensures)))
