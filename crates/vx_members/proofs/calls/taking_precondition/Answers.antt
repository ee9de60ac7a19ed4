use Rattle.std.proofs.Common.{◌≡◌, ap, ◌∙◌}
use Rattle.vx_ast.specs.Syntax.{joined}
use Rattle.vx_resolved.specs.declared.Method as method'
use Rattle.vx_resolved.specs.Resolved.{assertion, method}
use Rattle.vx_resolved.specs.Settled.{settled}
use Rattle.vx_heap.specs.Views.{held_term}
use Rattle.vx_terms.specs.Build.{whole_amount}
use Rattle.vx_rules.specs.Trees.{CallCode}
use Rattle.vx_rules.specs.Rules.{Giving}
use Rattle.vx_rules.specs.Members.{codes}
use Rattle.vx_stack.specs.declared.frame.Next.{Next}
use Rattle.vx_stack.specs.declared.waiting.Executed.TheVariants as executed'
use Rattle.vx_stack.specs.Stack.{executed, giving, going}
use Rattle.vx_stack.proofs.Steps.{consumes}
use Rattle.vx_members.proofs.calls.taking_precondition.Goals as goal

pub returns : goal.returns
returns c =
    let p = settled c.args.program.now in
    let m = method c.args.method.now.value in
    let on : Giving = executed p (executed'.Called c.args.called) (going p c.args.next.now.value) in
    let k : giving p c.in_ok-hole.hole.value ≡ on =
    ap (giving p) c.in_ok-hole.ensures.ok ∙ ap (λ (n : Next). executed p (executed'.Called c.args.called) (going p n)) c.in_ok-clone.ensures.cases in
    let all : assertion c.in_ok-all.all.value ≡ joined m.place m.requires =
    c.in_ok-all.ensures ∙ ap (λ (y : method'.Method). joined (method y).place (method y).requires) c.deref.ensures in
    consumes p (assertion c.in_ok-all.all.value) (joined m.place m.requires) (codes CallCode CallCode) (held_term c.in_ok-whole.whole) whole_amount (giving p c.in_ok-hole.hole.value) on
    all c.in_ok-whole.ensures k
