use Rattle.std.proofs.Common.{◌≡◌, List, string_bytes, sym, ap, ◌∙◌}
use Rattle.std.specs.declared.alloc.Global.{Global}
use Rattle.std.specs.declared.string.String.{String}
use Rattle.vx_resolved.specs.Resolved.{exprs, function}
use Rattle.vx_resolved.specs.Settled.{settled}
use Rattle.vx_rules.specs.Rules.{Giving, GivingAll, entered}
use Rattle.vx_rules.specs.States.{State, bind}
use Rattle.vx_rules.specs.Trees.{Step}
use Rattle.vx_states.specs.Entering.{back_to}
use Rattle.vx_states.specs.SymStates.{state}
use Rattle.vx_stack.specs.declared.frame.Hole.{Hole}
use Rattle.vx_stack.specs.declared.waiting.Application.{Application}
use Rattle.vx_stack.specs.declared.waiting.Applied.{Applied}
use Rattle.vx_stack.specs.Stack.{giving, measured_by}
use Rattle.vx_stack.specs.Values.{values}
use Rattle.vx_stack.proofs.Steps.{stepped_as}
use Rattle.vx_terms.specs.Terms.{Term}
use Rattle.vx_funcs.proofs.Parts.{parts_evaluated}
use Rattle.vx_funcs.proofs.measure.step_instance.Goals as goal

pub returns : goal.returns
returns c =
    let p = settled c.args.program.now in
    let s : State = state c.args.state in
    let x : Applied = c.args.x.now.value in
    let a : Application = x.application.value in
    let caller = c.in_ok-inside.inside.caller.value in
    let on : Giving = giving p c.args.hole.now.value in
    let z : State = entered (bind (function a.function.value).parameters (values a.arguments.value)) a.place s in
    let x1 : Applied = c.in_ok-clone.field-0.value in
    let i : String Global = c.args.predicate.now.value in
    let i1 : String Global = c.in_ok-clone-2.field-0.value in
    let other : GivingAll = λ us w. measured_by p x1 (string_bytes i1) us (back_to caller w) (giving p c.in_ok-clone-3.field-0.value) in
    let same = λ (us : List Term) (w : State).
    ap (λ (y : State). measured_by p x (string_bytes i) us y on) (sym (c.in_ok-inside.ensures.caller w))
    ∙ ap (λ (y : Applied). measured_by p y (string_bytes i) us (back_to caller w) on) (sym c.in_ok-clone.ensures.cases)
    ∙ ap (λ (y : String Global). measured_by p x1 (string_bytes y) us (back_to caller w) on) (sym c.in_ok-clone-2.ensures.cases)
    ∙ ap (λ (y : Hole). measured_by p x1 (string_bytes i1) us (back_to caller w) (giving p y)) (sym c.in_ok-clone-3.ensures.cases) in
    let entered_z : state c.in_ok-inside.inside.state ≡ z =
    c.in_ok-inside.ensures.state
    ∙ ap (λ (y : Application). entered (bind (function y.function.value).parameters (values y.arguments.value)) y.place s) (c.deref-2.ensures ∙ ap (λ (y : Applied). y.application.value) c.deref.ensures) in
    stepped_as p _ _ _ _ _
    (ap Step (parts_evaluated p (exprs c.args.es.now.value) z (state c.in_ok-inside.inside.state) _ other (c.rules_read_parts_by_themselves.ensures p z.level c.keeps_apart.ensures) entered_z same)) c.evals.ensures
