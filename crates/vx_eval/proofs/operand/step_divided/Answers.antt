use Rattle.std.proofs.Common.{◌≡◌, pos, ap, sym, ◌∙◌}
use Rattle.vx_resolved.specs.Settled.{settled}
use Rattle.vx_resolved.specs.Resolved.{division}
use Rattle.vx_terms.specs.Terms.{Term, Number}
use Rattle.vx_terms.specs.Build.{negate, equals}
use Rattle.vx_heap.specs.Views.{held_term}
use Rattle.vx_rules.specs.States.{State}
use Rattle.vx_rules.specs.Trees.{DivisorCode}
use Rattle.vx_rules.specs.Rules.{Going, divided, placed}
use Rattle.vx_states.specs.SymStates.{state}
use Rattle.vx_stack.specs.Stack.{giving}
use Rattle.vx_stack.proofs.Steps.{asks, stepped_as}
use Rattle.vx_eval.proofs.Given.{gives}
use Rattle.vx_eval.proofs.operand.step_divided.Goals as goal

pub returns : goal.returns
returns c =
    let p = settled c.args.program.now in
    let s : State = state c.args.state in
    let u : Term = held_term c.args.divisor.now in
    let condition : held_term c.in_ok-condition.condition ≡ negate (equals u (Number (pos 0))) =
    c.in_ok-condition.ensures ∙ ap negate (c.in_ok-is_zero.ensures ∙ ap (equals u) c.in_ok-int.ensures) in
    let on : Going = giving p c.args.hole.now.value (divided (division c.args.op) (held_term c.args.first.now) u) in
    let value = gives p c.args.hole.now.value c.in_ok-clone.field-0.value (held_term c.in_ok-divided.field-0) (divided (division c.args.op) (held_term c.args.first.now) u) c.in_ok-clone.ensures.cases c.in_ok-divided.ensures in
    stepped_as p _ _ _ _ _
    (sym (asks (held_term c.in_ok-condition.condition) (negate (equals u (Number (pos 0)))) c.placed-place.result (placed s c.args.at) DivisorCode s (giving p c.in_ok-clone.field-0.value (held_term c.in_ok-divided.field-0)) on condition c.placed-place.ensures value)) c.ask.ensures
