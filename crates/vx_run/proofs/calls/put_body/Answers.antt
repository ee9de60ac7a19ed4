use Rattle.std.proofs.Common.{ℕ, ◌-◌, List, sym, ◌∙◌, ap}
use Rattle.std.specs.declared.alloc.Global.{Global}
use Rattle.std.specs.declared.rc.Rc.{Rc}
use Rattle.vx_ast.specs.Syntax.{joined}
use Rattle.vx_meaning.specs.Fails.{postcondition_of}
use Rattle.vx_frac.specs.Fractions.{full}
use Rattle.vx_resolved.specs.Resolved.{block, method, names_of, assertions}
use Rattle.vx_resolved.specs.declared.Assertion as asserted
use Rattle.vx_run.specs.Going.{Going}
use Rattle.vx_run.specs.Changes as changes
use Rattle.vx_run.specs.Configs.{Config}
use Rattle.vx_run.specs.Frames.{rest, before}
use Rattle.vx_run.specs.Tasks.{body, taking, ending, returning}
use Rattle.vx_run.specs.declared.change.Change.TheVariants.{DropTaking}
use Rattle.vx_run.proofs.Steps.{bracketed}
use Rattle.vx_run.proofs.StatementForms.{plainly}
use Rattle.vx_run.proofs.calls.put_body.Goals as goal

pub returns : goal.returns
returns c = λ t.
    let k = rest t c.args.frames.now.items in
    let n = c.args.site.level in
    let m = method c.args.site.method.now in
    let back : Config → Going ℕ Config = returning t n c.args.site.place (names_of c.args.site.targets.now) m in
    let first : Config → Going ℕ Config = taking t (plainly n) full (postcondition_of m) in
    c.in_ok-put_off-3.ensures t
    ∙ ap (λ (f : Config → Going ℕ Config). before (body t c.saturating_sub.result (block c.args.b.now)) f)
    (c.in_ok-take_all_first.ensures t
    ∙ ap (λ (as' : List (Rc asserted.Assertion Global)). before (taking t (plainly n) full (joined m.place (assertions as'))) (rest t c.put_off-2.new.frames.items)) c.deref.ensures.value
    ∙ ap (λ (f : Config → Going ℕ Config). before first f) (c.in_ok-put_off-2.ensures t ∙ ap (λ (f : Config → Going ℕ Config). before (changes.act DropTaking) f) (c.in_ok-put_off.ensures t))
    ∙ (λ i e. sym (bracketed (first e) (changes.act DropTaking) (before back k)) i))
    ∙ ap (λ (j : ℕ). before (body t j (block c.args.b.now)) (before (ending t n m) (before back k))) c.saturating_sub.ensures
