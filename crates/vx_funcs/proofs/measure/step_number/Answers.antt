use Rattle.std.proofs.Common.{◌≡◌, sym, ap, ◌∙◌}
use Rattle.vx_resolved.specs.Resolved.{expr, function}
use Rattle.vx_resolved.specs.Settled.{settled}
use Rattle.vx_rules.specs.Rules.{Giving, ask, entered, lesser}
use Rattle.vx_rules.specs.Members.{rules}
use Rattle.vx_rules.specs.States.{State, bind}
use Rattle.vx_rules.specs.Trees.{MeasureCode, Step}
use Rattle.vx_states.specs.SymStates.{own, state}
use Rattle.vx_stack.specs.declared.frame.Hole.{Hole}
use Rattle.vx_stack.specs.declared.waiting.Application.{Application}
use Rattle.vx_stack.specs.declared.waiting.Applied.{Applied}
use Rattle.vx_stack.specs.Stack.{giving, told}
use Rattle.vx_stack.specs.Values.{values}
use Rattle.vx_stack.proofs.Steps.{stepped_as}
use Rattle.vx_terms.specs.Terms.{Term}
use Rattle.vx_funcs.proofs.Parts.{measured_of, part_evaluated}
use Rattle.vx_funcs.proofs.measure.step_number.Goals as goal

pub returns : goal.returns
returns c =
    let p = settled c.args.program.now in
    let s : State = state c.args.state in
    let x : Applied = c.args.x.now.value in
    let a : Application = x.application.value in
    let m = (own c.args.own).measure in
    let caller = c.in_ok-inside.inside.caller.value in
    let on : Giving = giving p c.args.hole.now.value in
    let z : State = entered (bind (function a.function.value).parameters (values a.arguments.value)) a.place s in
    let x1 : Applied = c.in_ok-clone.field-0.value in
    let other : Giving = measured_of p x1 m caller (giving p c.in_ok-clone-2.field-0.value) in
    let same = λ (t : Term) (w : State).
    ap (λ (y : State). ask (lesser p (rules p) m t) a.place MeasureCode y (told p x on)) (sym (c.in_ok-inside.ensures.caller w))
    ∙ ap (λ (y : Applied). measured_of p y m caller on t w) (sym c.in_ok-clone.ensures.cases)
    ∙ ap (λ (y : Hole). measured_of p x1 m caller (giving p y) t w) (sym c.in_ok-clone-2.ensures.cases) in
    let entered_z : state c.in_ok-inside.inside.state ≡ z =
    c.in_ok-inside.ensures.state
    ∙ ap (λ (y : Application). entered (bind (function y.function.value).parameters (values y.arguments.value)) y.place s) (c.deref-2.ensures ∙ ap (λ (y : Applied). y.application.value) c.deref.ensures) in
    stepped_as p _ _ _ _ _
    (ap Step (part_evaluated p (expr c.args.e.now.value) z (state c.in_ok-inside.inside.state) _ other (c.rules_read_parts_by_themselves.ensures p z.level c.keeps_apart.ensures) entered_z same)) c.eval.ensures
