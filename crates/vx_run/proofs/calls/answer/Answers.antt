use Rattle.std.proofs.Common.{ℕ, List, map, ◌∙◌, ap, ap₂}
use Rattle.std.specs.declared.alloc.Global.{Global}
use Rattle.std.specs.declared.rc.Rc.{Rc}
use Rattle.vx_ast.specs.Syntax.{joined}
use Rattle.vx_frac.specs.Fractions.{full}
use Rattle.vx_meaning.specs.States.{Heap, Holdings}
use Rattle.vx_meaning.specs.Fails.{postcondition_of}
use Rattle.vx_resolved.specs.Resolved.{method, names_of, assertions}
use Rattle.vx_resolved.specs.declared.Assertion as asserted
use Rattle.vx_run.specs.Held.{heap}
use Rattle.vx_run.specs.Going.{Going}
use Rattle.vx_run.specs.Configs.{Config, in_state}
use Rattle.vx_run.specs.ConfigViews.{config_of, caller_of}
use Rattle.vx_run.specs.Frames.{rest, before}
use Rattle.vx_run.specs.Tasks.{giving_again, resuming, answered, given_in, answering}
use Rattle.vx_run.specs.Views.{value}
use Rattle.vx_run.proofs.CallForms.{failing, answer_is}
use Rattle.vx_run.proofs.StatementForms.{of_parts}
use Rattle.vx_run.proofs.calls.answer.Goals as goal

pub returns : goal.returns
returns c = λ t l.
    let k = rest t c.args.frames.now.items in
    let d = config_of c.args.of.now in
    let n = c.args.site.level in
    let at = c.args.site.place in
    let xs = names_of c.args.site.targets.now in
    let m = method c.args.site.method.now in
    let vs = map value c.args.vs.now in
    let us = map value c.args.us.now in
    let w = caller_of c.args.caller in
    let first : Config → Going ℕ Config = giving_again t (failing n at) full (postcondition_of m) in
    let second : Config → Going ℕ Config = resuming (answered xs us w.state) in
    ap (λ (f : Config → Going ℕ Config). f (config_of c.come_back.new.of) l)
    (c.in_ok-give_all_again_first.ensures t
    ∙ ap (λ (as' : List (Rc asserted.Assertion Global)). before (giving_again t (failing n at) full (joined m.place (assertions as'))) (rest t c.come_back.new.frames.items)) c.deref.ensures.value
    ∙ ap (λ (f : Config → Going ℕ Config). before first f) (c.in_ok-come_back.ensures.frames t))
    ∙ ap (λ (e : Config). before first (before second k) e l)
    (c.in_ok-come_back.ensures.state ∙ ap₂ (λ (h : Holdings) (z : Heap). in_state (given_in w.state m vs us h z) d) c.in_ok-left.ensures (ap heap c.in_ok-heap.ensures.cases))
    ∙ of_parts first second k (in_state (given_in w.state m vs us w.left d.state.heap) d) l (answering t n at w xs m vs us d) (answer_is t n at w xs m vs us d)
