use Rattle.std.proofs.Common.{ℕ, List, map, ◌∙◌, ap}
use Rattle.std.specs.declared.alloc.Global.{Global}
use Rattle.std.specs.declared.rc.Rc.{Rc}
use Rattle.vx_ast.specs.Syntax.{joined}
use Rattle.vx_meaning.specs.States.{bind}
use Rattle.vx_meaning.specs.Fails.{precondition_of}
use Rattle.vx_frac.specs.Fractions.{full}
use Rattle.vx_resolved.specs.Resolved.{method, names_of, assertions, declaration}
use Rattle.vx_resolved.specs.declared.Assertion as asserted
use Rattle.vx_resolved.specs.declared.Declaration as declared
use Rattle.vx_run.specs.Going.{Going}
use Rattle.vx_run.specs.Configs.{Config}
use Rattle.vx_run.specs.ConfigViews.{config_of}
use Rattle.vx_run.specs.Frames.{rest, before}
use Rattle.vx_run.specs.Tasks.{taking, entering, waiting, called_by}
use Rattle.vx_run.specs.Views.{value}
use Rattle.vx_run.proofs.CallForms.{failing, called_is}
use Rattle.vx_run.proofs.StatementForms.{of_parts}
use Rattle.vx_run.proofs.calls.set_out.Goals as goal

pub returns : goal.returns
returns c = λ t l.
    let k = rest t c.args.frames.now.items in
    let d = config_of c.args.of.now in
    let n = c.args.site.level in
    let at = c.args.site.place in
    let xs = names_of c.args.site.targets.now in
    let m = method c.args.site.method.now in
    let vs = map value c.args.vs.items in
    let first : Config → Going ℕ Config = taking t (failing n at) full (precondition_of m) in
    let second : Config → Going ℕ Config = entering t n at xs m in
    ap (λ (f : Config → Going ℕ Config). f (config_of c.wait.new.of) l) (c.in_ok-take_all_first.ensures t
    ∙ ap (λ (as' : List (Rc asserted.Assertion Global)). before (taking t (failing n at) full (joined m.place (assertions as'))) (rest t c.put_off.new.frames.items)) c.deref-2.ensures.value
    ∙ ap (λ (f : Config → Going ℕ Config). before first f) (c.in_ok-put_off.ensures t))
    ∙ ap (λ (e : Config). before first (before second k) e l) (c.in_ok-wait.ensures ∙ ap (λ (ds : List declared.Declaration). waiting (bind (map declaration ds) vs) vs d) c.deref.ensures.value)
    ∙ of_parts first second k (waiting (bind m.parameters vs) vs d) l (called_by t n at xs m vs d) (called_is t n at xs m vs d)
