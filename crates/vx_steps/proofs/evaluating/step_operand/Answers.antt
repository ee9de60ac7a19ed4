use Rattle.std.proofs.Common.{◌∙◌, ap, sym, string_bytes}
use Rattle.vx_resolved.specs.Settled.{settled}
use Rattle.vx_rules.specs.Rules.{Giving, field_sort, placed}
use Rattle.vx_rules.specs.States.{State, after_name, name_of, with_heap}
use Rattle.vx_states.specs.SymStates.{state}
use Rattle.vx_states.specs.declared.entering.Caller.{Caller}
use Rattle.vx_states.specs.Entering.{back_to}
use Rattle.vx_heap.specs.Views.{heap, held_term}
use Rattle.vx_stack.specs.Stack.{giving, measuring, operand}
use Rattle.vx_stack.proofs.Steps.{stepped_as}
use Rattle.vx_eval.proofs.Given.{reads}
use Rattle.vx_steps.proofs.evaluating.step_operand.Goals as goal

pub returns-in-Receiver : goal.returns-in-Receiver
returns-in-Receiver c =
    let p = settled c.args.program.now in
    stepped_as p _ _ _ _ _
    (rw c.in-Receiver.is (sym (reads (string_bytes c.in-Receiver.field.value) (held_term c.args.value) (field_sort p (string_bytes c.in-Receiver.field.value)) c.placed-place.result (placed (state c.args.state) c.in-Receiver.at) (state c.args.state) (giving p c.args.hole.now.value) c.placed-place.ensures)))
    c.read_field.ensures

pub returns-in-Applied : goal.returns-in-Applied
returns-in-Applied c =
    let p = settled c.args.program.now in
    let s : State = state c.args.state in
    let t = held_term c.args.value in
    let it = c.in-Applied in
    let on : Giving = giving p c.args.hole.now.value in
    stepped_as p _ _ _ _ _
    (ap (λ o. operand p o on t s) it.is
    ∙ ap (λ (y : Caller). measuring p it.x.value (name_of t (with_heap (heap it.heap.value) (back_to y s))) on (after_name t (with_heap (heap it.heap.value) (back_to y s)))) (sym c.deref.ensures)) c.step_applied.ensures
