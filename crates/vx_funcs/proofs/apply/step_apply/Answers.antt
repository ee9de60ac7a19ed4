use Rattle.std.proofs.Common.{◌≡◌, List, Some, None, string_bytes, sym, ap, ◌∙◌}
use Rattle.vx_ast.specs.Syntax.{Name, function_named}
use Rattle.vx_resolved.specs.declared.Function as function'
use Rattle.vx_resolved.specs.Resolved.{function}
use Rattle.vx_resolved.specs.Settled.{settled, optional_function}
use Rattle.vx_terms.specs.Terms.{Term}
use Rattle.vx_rules.specs.States.{State}
use Rattle.vx_rules.specs.Trees.{FunctionCode}
use Rattle.vx_rules.specs.Rules.{Giving, never, placed}
use Rattle.vx_states.specs.SymStates.{state}
use Rattle.vx_stack.specs.declared.waiting.Application.{Application}
use Rattle.vx_stack.specs.Stack.{giving}
use Rattle.vx_stack.specs.Values.{values}
use Rattle.vx_stack.proofs.Steps.{stepped_as}
use Rattle.vx_funcs.proofs.Parts.{application_of, applied_by, takes_for}
use Rattle.vx_funcs.proofs.apply.step_apply.Goals as goal

pub returns-in-None : goal.returns-in-None
returns-in-None c =
    let p = settled c.args.program.now in
    let s : State = state c.args.state in
    let f : Name = string_bytes c.args.name.now.value in
    let ts : List Term = values c.args.arguments.now.value in
    let on : Giving = giving p c.args.hole.now.value in
    let named : function_named p f ≡ None = sym c.in_ok-function.ensures ∙ ap optional_function c.in-None.is in
    stepped_as p _ _ _ _ _
    (ap (application_of p (placed s c.args.place) f ts s on) named ∙ ap (λ y. never y FunctionCode s) (sym c.placed-place.ensures)) c.never.ensures

pub returns-in_ok-application-in-Some : goal.returns-in_ok-application-in-Some
returns-in_ok-application-in-Some c =
    let p = settled c.args.program.now in
    let s : State = state c.args.state in
    let f : Name = string_bytes c.args.name.now.value in
    let ts : List Term = values c.args.arguments.now.value in
    let on : Giving = giving p c.args.hole.now.value in
    let g : function'.Function = c.in-Some.function.value in
    let x : Application = c.in_ok-application-in-Some.application.value in
    let named : function_named p f ≡ Some (function g) = sym c.in_ok-function.ensures ∙ ap optional_function c.in-Some.is in
    stepped_as p _ _ _ _ _
    (ap (application_of p (placed s c.args.place) f ts s on) named
    ∙ sym (ap (λ (y : Application). takes_for p y s on) c.in_ok-application-in-Some.ensures.ok
    ∙ applied_by p c.placed-place.result (placed s c.args.place) (string_bytes c.in_ok-clone-in-Some.field-0.value) f (values c.in_ok-clone-in-Some-2.field-0.value) ts (function g) s on
    c.placed-place.ensures (ap (λ y. string_bytes y) c.in_ok-clone-in-Some.ensures.cases) (ap values c.in_ok-clone-in-Some-2.ensures.cases))) c.step_taking.ensures
