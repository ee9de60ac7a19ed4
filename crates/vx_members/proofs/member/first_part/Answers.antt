use Rattle.std.proofs.Common.{◌≡◌, ap, ◌∙◌, None}
use Rattle.vx_resolved.specs.declared.Method.{Method}
use Rattle.vx_ast.specs.Syntax.{joined}
use Rattle.vx_resolved.specs.Resolved.{assertion, assertions, method}
use Rattle.vx_terms.specs.Build.{whole_amount}
use Rattle.vx_resolved.specs.Settled.{settled}
use Rattle.vx_states.specs.SymStates.{optional_term}
use Rattle.vx_rules.specs.Members.{rules, sides}
use Rattle.vx_rules.specs.Rules.{Going}
use Rattle.vx_stack.specs.Stack.{going}
use Rattle.vx_stack.proofs.Steps.{produces}
use Rattle.vx_members.proofs.member.first_part.Goals as goal

pub returns : goal.returns
returns c s =
    let p = settled c.args.program.now in
    let m : Method = c.args.m.now.value in
    let r : c.deref-3.result.now ≡ m.preconditions.items = c.deref-3.ensures.value ∙ ap (λ (x : Method). x.preconditions.items) c.deref-2.ensures in
    let a : assertion c.in_ok-all.all.value ≡ joined m.place (assertions m.preconditions.items) =
    c.in_ok-all.ensures ∙ ap (λ l. joined c.deref.result.now.place (assertions l)) r ∙ ap (λ (x : Method). joined x.place (assertions m.preconditions.items)) c.deref.ensures in
    let on : Going = sides p (rules p) (method m) in
    let k : going p c.in_ok-sides.sides.value ≡ on = ap (going p) c.in_ok-sides.ensures.ok ∙ ap (λ (x : Method). sides p (rules p) (method x)) c.in_ok-clone.ensures.cases in
    ap (λ n. going p n s) c.in_ok-new.ensures.ok
    ∙ ap (λ f. f s)
    (produces p (assertion c.in_ok-all.all.value) (joined m.place (assertions m.preconditions.items)) c.in_ok-production.production.value whole_amount None (going p c.in_ok-sides.sides.value) on
    a c.in_ok-production.ensures.scale (ap optional_term c.in_ok-production.ensures.snapshot) k)
