use Rattle.std.proofs.Common.{◌≡◌, Some, ap, ◌∙◌}
use Rattle.vx_ast.specs.Syntax.{joined}
use Rattle.vx_heap.specs.Views.{held_term}
use Rattle.vx_resolved.specs.declared.Expr as expr'
use Rattle.vx_resolved.specs.declared.Function as function'
use Rattle.vx_resolved.specs.Resolved.{assertion, expr, function}
use Rattle.vx_resolved.specs.Settled.{settled}
use Rattle.vx_rules.specs.Members.{rules}
use Rattle.vx_rules.specs.Rules.{Going, eval}
use Rattle.vx_rules.specs.States.{State}
use Rattle.vx_rules.specs.Trees.{leaves}
use Rattle.vx_states.specs.SymStates.{optional_term, state}
use Rattle.vx_stack.specs.declared.frame.Hole.{Hole}
use Rattle.vx_stack.specs.declared.waiting.Application.{Application}
use Rattle.vx_stack.specs.declared.waiting.Production.{Production}
use Rattle.vx_stack.specs.Stack.{giving, going}
use Rattle.vx_stack.proofs.Steps.{produces}
use Rattle.vx_terms.specs.Build.{whole_amount}
use Rattle.vx_terms.specs.Views.{term}
use Rattle.vx_machine.proofs.Quiet.{leaving, sides_read}
use Rattle.vx_machine.proofs.tells.quiet_side.Goals as goal

pub returns : goal.returns
returns c =
    let p = settled c.args.program.now in
    let g = function c.args.x.now.application.value.function.value in
    let e = expr c.args.e.now.value in
    let t = held_term c.args.x.now.snapshot in
    let z : State = state c.args.start in
    let all : assertion c.in_ok-all.all.value ≡ joined g.place g.requires =
    c.in_ok-all.ensures ∙ ap (λ (y : function'.Function). joined (function y).place (function y).requires) (c.deref-2.ensures ∙ ap (λ (y : Application). y.function.value) c.deref.ensures) in
    let on : Going = leaving p e in
    let k : going p c.in_ok-behind.behind.value ≡ on =
    ap (going p) c.in_ok-behind.ensures.ok
    ∙ ap {B = Going} (λ (y : expr'.Expr) s. eval p (rules p) (expr y) s (giving p c.in_ok-leave.leave.value)) c.in_ok-clone.ensures.cases
    ∙ ap {B = Going} (λ (y : Hole) s. eval p (rules p) e s (giving p y)) c.in_ok-leave.ensures.ok in
    let made = c.in_ok-production.ensures.ok in
    let scale : held_term c.in_ok-production.production.value.scale ≡ whole_amount = ap (λ (y : Production). held_term y.scale) made ∙ c.in_ok-scale.ensures in
    let snapshot : optional_term c.in_ok-production.production.value.snapshot ≡ Some t = ap (λ (y : Production). optional_term y.snapshot) made ∙ ap (λ y. Some (term y)) c.in_ok-snapshot.ensures.cases in
    ap leaves
    (ap (λ n. going p n z) c.in_ok-next.ensures.ok
    ∙ ap (λ f. f z) (produces p (assertion c.in_ok-all.all.value) (joined g.place g.requires) c.in_ok-production.production.value whole_amount (Some t) (going p c.in_ok-behind.behind.value) on all scale snapshot k))
    ∙ sides_read p g e t z (c.rules_read_parts_by_themselves.ensures p z.level c.keeps_apart.ensures)
