use Rattle.std.proofs.Common.{◌≡◌, List, map, ap, ap₂, ◌∙◌}
use Rattle.std.proofs.lemmas.Result.{IfOk-weaker}
use Rattle.vx_ast.specs.Syntax.{Program, Declaration}
use Rattle.vx_heap.specs.Views.{terms_of}
use Rattle.vx_resolved.specs.declared.Function as function'
use Rattle.vx_resolved.specs.Resolved.{declaration, function}
use Rattle.vx_rules.specs.Rules.{Outer, quietly}
use Rattle.vx_rules.specs.States.{State, bind}
use Rattle.vx_stack.specs.declared.waiting.Application.{Application}
use Rattle.vx_stack.specs.Values.{values}
use Rattle.vx_states.specs.SymStates.{state}
use Rattle.vx_terms.specs.Terms.{Term}
use Rattle.vx_machine.proofs.tells.quiet_start.Goals as goal

pub returns : goal.returns
returns c =
    let z : State = state c.args.from.now in
    let a : Application = c.args.x.now.application.value in
    let g = function a.function.value in
    let ds : List Declaration = map declaration c.deref-5.result.now in
    let ts : List Term = terms_of c.deref-6.result.now in
    let parameters : ds ≡ g.parameters =
    ap (map declaration) c.deref-5.ensures.value ∙ ap (λ (y : function'.Function). map declaration y.parameters.items) (c.deref-4.ensures ∙ ap (λ (y : Application). y.function.value) c.deref-3.ensures) in
    let arguments : ts ≡ values a.arguments.value =
    ap terms_of c.deref-6.ensures.value ∙ c.in_ok-arguments.ensures ∙ ap values (c.deref-2.ensures ∙ ap (λ (y : Application). y.arguments.value) c.deref.ensures) in
    IfOk-weaker c.quiet.result (λ s. (p : Program) (o : Outer) → state s ≡ quietly p o (bind ds ts) z) (λ s. (p : Program) (o : Outer) → state s ≡ quietly p o (bind g.parameters (values a.arguments.value)) z)
    (λ s h p o. h p o ∙ ap₂ (λ ds ts. quietly p o (bind ds ts) z) parameters arguments) c.quiet.ensures
