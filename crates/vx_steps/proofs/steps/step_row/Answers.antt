use Rattle.std.proofs.Common.{List, string_bytes, refl, sym, ap, ◌∙◌}
use Rattle.vx_ast.specs.declared.Place.{Place}
use Rattle.vx_terms.specs.Terms.{Term}
use Rattle.vx_heap.specs.Views.{held_term}
use Rattle.vx_rules.specs.States.{State}
use Rattle.vx_rules.specs.Rules.{Giving, unfolded}
use Rattle.vx_rules.specs.Members.{rules}
use Rattle.vx_states.specs.declared.entering.Caller.{Caller}
use Rattle.vx_states.specs.Entering.{back_to}
use Rattle.vx_states.specs.SymStates.{state}
use Rattle.vx_stack.specs.declared.frame.Row.{Row}
use Rattle.vx_stack.specs.declared.waiting.Values.{Values}
use Rattle.vx_stack.specs.Stack.{giving, giving_all, going, measured_by}
use Rattle.vx_stack.specs.Values.{values}
use Rattle.vx_resolved.specs.Settled.{settled}
use Rattle.vx_stack.proofs.Steps.{stepped_as}
use Rattle.vx_steps.proofs.steps.step_row.Goals as goal

pub returns-in-Apply : goal.returns-in-Apply
returns-in-Apply c =
    let p = settled c.args.program.now in
    let s : State = state c.args.state in
    stepped_as p _ _ _ _ _ (ap (λ (r : Row). giving_all p r (values c.args.values.value) s) c.in-Apply.is) c.step_apply.ensures

pub returns-in-Produce : goal.returns-in-Produce
returns-in-Produce c = stepped_as (settled c.args.program.now) _ _ _ _ _ (rw c.in-Produce.is refl) c.step_arguments.ensures

pub returns-in-Consume : goal.returns-in-Consume
returns-in-Consume c = stepped_as (settled c.args.program.now) _ _ _ _ _ (rw c.in-Consume.is refl) c.step_arguments-in-Consume.ensures

pub returns-in-Unfolding : goal.returns-in-Unfolding
returns-in-Unfolding c =
    let p = settled c.args.program.now in
    let s : State = state c.args.state in
    let it = c.in-Unfolding in
    let ts : List Term = values c.args.values.value in
    stepped_as p _ _ _ _ _
    (ap (λ (r : Row). giving_all p r ts s) it.is
    ∙ ap (λ (y : Place). unfolded p (rules p) y (string_bytes it.predicate.value) ts (held_term it.amount) s (going p it.next.value)) (sym c.placed-place.ensures)) c.step_unfold.ensures

pub returns-in-Unfold : goal.returns-in-Unfold
returns-in-Unfold c = stepped_as (settled c.args.program.now) _ _ _ _ _ (rw c.in-Unfold.is refl) c.step_unfold-in-Unfold.ensures

pub returns-in-Fold : goal.returns-in-Fold
returns-in-Fold c = stepped_as (settled c.args.program.now) _ _ _ _ _ (rw c.in-Fold.is refl) c.step_fold.ensures

pub returns-in-Call : goal.returns-in-Call
returns-in-Call c =
    let p = settled c.args.program.now in
    let s : State = state c.args.state in
    stepped_as p _ _ _ _ _
    (ap (λ (y : Values). giving_all p c.args.row.now (values y) s) (sym c.deref.ensures) ∙ ap (λ (r : Row). giving_all p r (values c.deref.result.now) s) c.in-Call.is) c.step_call.ensures

pub returns-in-Measured : goal.returns-in-Measured
returns-in-Measured c =
    let p = settled c.args.program.now in
    let s : State = state c.args.state in
    let it = c.in-Measured in
    let on : Giving = giving p it.hole.value in
    let ts : List Term = values c.deref-in-Measured.result.now in
    stepped_as p _ _ _ _ _
    (ap (λ (r : Row). giving_all p r (values c.args.values.value) s) it.is
    ∙ ap (λ (y : Values). measured_by p it.x.value (string_bytes it.predicate.value) (values y) (back_to it.caller.value s) on) (sym c.deref-in-Measured.ensures)
    ∙ ap (λ (y : Caller). measured_by p it.x.value (string_bytes it.predicate.value) ts (back_to y s) on) (sym c.deref-in-Measured-2.ensures)) c.step_measured_by.ensures
