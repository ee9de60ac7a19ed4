use Rattle.std.proofs.Common.{◌≡◌, sym, ap, ◌∙◌}
use Rattle.vx_ast.specs.Syntax.{as_assertion, conjoined}
use Rattle.vx_heap.specs.Views.{held_term}
use Rattle.vx_resolved.specs.declared.Function as function'
use Rattle.vx_resolved.specs.Resolved.{assertion, expr, expressions, function}
use Rattle.vx_resolved.specs.Settled.{settled}
use Rattle.vx_rules.specs.Members.{codes, rules}
use Rattle.vx_rules.specs.Rules.{Giving, consume}
use Rattle.vx_rules.specs.States.{State}
use Rattle.vx_rules.specs.Trees.{End, PostCode}
use Rattle.vx_states.specs.SymStates.{state}
use Rattle.vx_stack.specs.Stack.{giving}
use Rattle.vx_stack.proofs.Steps.{consumes, stepped_as}
use Rattle.vx_terms.specs.Build.{whole_amount}
use Rattle.vx_steps.proofs.steps.step_outcome.Goals as goal

pub returns : goal.returns
returns c =
    let p = settled c.args.program.now in
    let g = function c.args.v.now.function.value in
    let s : State = state c.bind_outcome.new.state in
    let on : Giving = λ t z. End in
    let promised = as_assertion (conjoined g.place g.ensures) in
    let promise : expr c.in_ok-all.all.value ≡ conjoined g.place g.ensures =
    c.in_ok-all.ensures ∙ ap (λ es. conjoined c.deref.result.now.place (expressions es)) c.deref-3.ensures.value
    ∙ ap (λ (y : function'.Function). conjoined c.deref.result.now.place (expressions y.postconditions.items)) c.deref-2.ensures
    ∙ ap (λ (y : function'.Function). conjoined y.place g.ensures) c.deref.ensures in
    let all : assertion c.deref-4.result.now ≡ promised = ap assertion c.deref-4.ensures ∙ c.in_ok-all-2.ensures ∙ ap as_assertion promise in
    stepped_as p _ _ _ _ _
    (sym (ap (λ f. f s) (consumes p (assertion c.deref-4.result.now) promised (codes PostCode PostCode) (held_term c.in_ok-whole.whole) whole_amount (giving p c.in_ok-finish.finish.value) on all c.in_ok-whole.ensures (ap (giving p) c.in_ok-finish.ensures.ok))
    ∙ ap (λ (y : State). consume p (rules p) promised (codes PostCode PostCode) whole_amount y.heap y on) c.in_ok-bind_outcome.ensures)) c.step_here.ensures
