use Rattle.std.proofs.Common.{string_bytes, refl, ap, sym, ◌∙◌}
use Rattle.vx_heap.specs.Views.{held_term}
use Rattle.vx_resolved.specs.Settled.{settled}
use Rattle.vx_rules.specs.Rules.{Going, write_field}
use Rattle.vx_rules.specs.States.{State}
use Rattle.vx_states.specs.SymStates.{state}
use Rattle.vx_stack.specs.declared.waiting.Executed.{Executed}
use Rattle.vx_stack.specs.Stack.{executed, going}
use Rattle.vx_stack.proofs.Steps.{stepped_as}
use Rattle.vx_terms.specs.Terms.{Term}
use Rattle.vx_terms.specs.Views.{term}
use Rattle.vx_steps.proofs.executing.step_executed.Goals as goal

pub returns-in_ok-clone-in-WriteWith : goal.returns-in_ok-clone-in-WriteWith
returns-in_ok-clone-in-WriteWith c =
    let p = settled c.args.program.now in
    let s : State = state c.args.state in
    let v : Term = held_term c.args.value in
    let it = c.in-WriteWith in
    let on : Going = going p c.args.next.now.value in
    stepped_as p _ _ _ _ _
    (ap (λ (w : Executed). executed p w on v s) it.is
    ∙ ap (λ (r : Term). write_field (string_bytes it.field.value) r v it.place s on) (ap term (sym c.in_ok-clone-in-WriteWith.ensures.cases))) c.write.ensures

pub returns-in-Fold : goal.returns-in-Fold
returns-in-Fold c = stepped_as (settled c.args.program.now) _ _ _ _ _ (rw c.in-Fold.is refl) c.step_fold_amount.ensures

pub returns-in-Unfold : goal.returns-in-Unfold
returns-in-Unfold c = stepped_as (settled c.args.program.now) _ _ _ _ _ (rw c.in-Unfold.is refl) c.step_unfold_amount.ensures

pub returns-in-Called : goal.returns-in-Called
returns-in-Called c = stepped_as (settled c.args.program.now) _ _ _ _ _ (rw (c.in-Called.is, c.deref-in-Called.ensures) refl) c.step_promised.ensures
