use Rattle.std.proofs.Common.{◌≡◌, sym, ap, ◌∙◌}
use Rattle.vx_heap.specs.Views.{held_term}
use Rattle.vx_resolved.specs.Settled.{settled}
use Rattle.vx_rules.specs.Members.{rules}
use Rattle.vx_rules.specs.Rules.{Going, ask, lesser}
use Rattle.vx_rules.specs.States.{State}
use Rattle.vx_rules.specs.Trees.{MeasureCode}
use Rattle.vx_states.specs.Entering.{back_to}
use Rattle.vx_states.specs.SymStates.{optional_term, state}
use Rattle.vx_stack.specs.declared.frame.Hole.{Hole}
use Rattle.vx_stack.specs.declared.waiting.Application.{Application}
use Rattle.vx_stack.specs.declared.waiting.Applied.{Applied}
use Rattle.vx_stack.specs.Stack.{giving, going, told}
use Rattle.vx_stack.proofs.Steps.{asks, stepped_as}
use Rattle.vx_funcs.proofs.measure.step_measured.Goals as goal

pub returns : goal.returns
returns c =
    let p = settled c.args.program.now in
    let x : Applied = c.args.x.now.value in
    let at = x.application.value.place in
    let own = lesser p (rules p) (optional_term c.args.own.now) (held_term c.args.m.now) in
    let s1 : State = state c.back.new.self in
    let s : State = back_to c.args.caller.now (state c.args.state) in
    let on : Going = told p x (giving p c.args.hole.now.value) in
    let rest : going p c.in_ok-next.next.value ≡ on =
    ap (going p) c.in_ok-next.ensures.ok
    ∙ ap {B = Going} (λ (y : Applied). told p y (giving p c.in_ok-clone-2.field-0.value)) c.in_ok-clone.ensures.cases
    ∙ ap {B = Going} (λ (y : Hole). told p x (giving p y)) c.in_ok-clone-2.ensures.cases in
    let place = ap (λ (y : Application). y.place) (c.deref-2.ensures ∙ ap (λ (y : Applied). y.application.value) c.deref.ensures) in
    stepped_as p _ _ _ _ _
    (sym (asks (held_term c.in_ok-condition.condition) own c.deref-2.result.now.place at MeasureCode s1 (going p c.in_ok-next.next.value) on (c.in_ok-condition.ensures p) place rest
    ∙ ap (λ (y : State). ask own at MeasureCode y on) c.in_ok-back.ensures)) c.ask.ensures
