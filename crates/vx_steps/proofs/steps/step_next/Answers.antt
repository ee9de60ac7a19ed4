use Rattle.std.proofs.Common.{string_bytes, refl, ap, sym, ◌∙◌}
use Rattle.vx_heap.specs.Views.{heap, held_term}
use Rattle.vx_resolved.specs.Resolved.{method}
use Rattle.vx_resolved.specs.Settled.{settled}
use Rattle.vx_rules.specs.Members.{rules, sides}
use Rattle.vx_rules.specs.Codes.{code}
use Rattle.vx_rules.specs.States.{State}
use Rattle.vx_stack.specs.declared.frame.Hole.{Hole}
use Rattle.vx_stack.specs.declared.waiting.Location.{Location}
use Rattle.vx_stack.specs.declared.waiting.Instance.{Instance}
use Rattle.vx_stack.specs.Stack.{giving, going, read_over, take_instance, take_over}
use Rattle.vx_stack.specs.Values.{values}
use Rattle.vx_states.specs.SymStates.{state}
use Rattle.vx_stack.proofs.Steps.{stepped_as}
use Rattle.vx_steps.proofs.steps.step_next.Goals as goal

pub returns-in-Inner : goal.returns-in-Inner
returns-in-Inner c = stepped_as (settled c.args.program.now) _ _ _ _ _ (rw (c.in-Inner.is, c.deref-in-Inner.ensures) refl) c.step_inner.ensures

pub returns-in-Consume : goal.returns-in-Consume
returns-in-Consume c =
    stepped_as (settled c.args.program.now) _ _ _ _ _ (rw (c.in-Consume.is, c.deref-in-Consume.ensures) refl) c.step_here.ensures

pub returns-in_ok-clone-in-ConsumeFrom : goal.returns-in_ok-clone-in-ConsumeFrom
returns-in_ok-clone-in-ConsumeFrom c =
    stepped_as (settled c.args.program.now) _ _ _ _ _
    (rw (c.in-ConsumeFrom.is, c.deref-in-ConsumeFrom.ensures, c.in_ok-clone-in-ConsumeFrom.ensures.cases) refl) c.step-in-ConsumeFrom.ensures

pub returns-in-Sides : goal.returns-in-Sides
returns-in-Sides c =
    let p = settled c.args.program.now in
    let s = state c.args.state in
    stepped_as p _ _ _ _ _ (ap (λ n. going p n s) c.in-Sides.is ∙ ap (λ m. sides p (rules p) (method m) s) (sym c.deref-in-Sides.ensures)) c.step_method.ensures

pub returns-in_ok-clone-in-Eval : goal.returns-in_ok-clone-in-Eval
returns-in_ok-clone-in-Eval c =
    stepped_as (settled c.args.program.now) _ _ _ _ _ (rw (c.in-Eval.is, c.deref-in-Eval.ensures, c.in_ok-clone-in-Eval.ensures.cases) refl) c.step-in-Eval.ensures

pub returns-in-Put : goal.returns-in-Put
returns-in-Put c =
    stepped_as (settled c.args.program.now) _ _ _ _ _ (rw (c.in-Put.is, c.deref-in-Put.ensures, c.deref-in-Put-2.ensures) refl) c.step_put.ensures

pub returns-in-Take : goal.returns-in-Take
returns-in-Take c =
    let p = settled c.args.program.now in
    let s : State = state c.args.state in
    let it = c.in-Take in
    stepped_as p _ _ _ _ _ (ap (λ n. going p n s) it.is) c.take_location.ensures

pub returns-in-ReadFrom : goal.returns-in-ReadFrom
returns-in-ReadFrom c =
    let p = settled c.args.program.now in
    let s : State = state c.args.state in
    stepped_as p _ _ _ _ _ (ap (λ n. going p n s) c.in-ReadFrom.is) c.read_from.ensures

pub returns-in-TakeFrom : goal.returns-in-TakeFrom
returns-in-TakeFrom c =
    let p = settled c.args.program.now in
    let s : State = state c.args.state in
    stepped_as p _ _ _ _ _ (ap (λ n. going p n s) c.in-TakeFrom.is) c.take_from.ensures

pub returns-in-ReadOver : goal.returns-in-ReadOver
returns-in-ReadOver c =
    let p = settled c.args.program.now in
    let s : State = state c.args.state in
    let it = c.in-ReadOver in
    stepped_as p _ _ _ _ _
    (ap (λ n. going p n s) it.is
    ∙ ap (λ (h : Hole). read_over p (string_bytes it.field.value) (held_term it.receiver) (giving p h) s) (sym c.deref-in-ReadOver.ensures)) c.step_read_over.ensures

pub returns-in-TakeOver : goal.returns-in-TakeOver
returns-in-TakeOver c =
    let p = settled c.args.program.now in
    let s : State = state c.args.state in
    let it = c.in-TakeOver in
    stepped_as p _ _ _ _ _
    (ap (λ n. going p n s) it.is
    ∙ ap (λ (l : Location). take_over p (string_bytes l.field.value) (held_term l.receiver) (held_term l.amount) (giving p it.hole.value) s) (sym c.deref-in-TakeOver.ensures)
    ∙ ap (λ (h : Hole). take_over p (string_bytes c.deref-in-TakeOver.result.now.field.value) (held_term c.deref-in-TakeOver.result.now.receiver) (held_term c.deref-in-TakeOver.result.now.amount) (giving p h) s) (sym c.deref-in-TakeOver-2.ensures)) c.step_take_over.ensures

pub returns-in-Fresh : goal.returns-in-Fresh
returns-in-Fresh c = stepped_as (settled c.args.program.now) _ _ _ _ _ (rw (c.in-Fresh.is, c.deref-in-Fresh.ensures) refl) c.step_fresh.ensures

pub returns-in-Evals : goal.returns-in-Evals
returns-in-Evals c = stepped_as (settled c.args.program.now) _ _ _ _ _ (rw (c.in-Evals.is, c.deref-in-Evals.ensures) refl) c.step_all.ensures

pub returns-in-PutInstance : goal.returns-in-PutInstance
returns-in-PutInstance c =
    stepped_as (settled c.args.program.now) _ _ _ _ _ (rw (c.in-PutInstance.is, c.deref-in-PutInstance.ensures, c.deref-in-PutInstance-2.ensures) refl) c.step_put_instance.ensures

pub returns-in-TakeInstance : goal.returns-in-TakeInstance
returns-in-TakeInstance c =
    let p = settled c.args.program.now in
    let s : State = state c.args.state in
    let it = c.in-TakeInstance in
    stepped_as p _ _ _ _ _
    (ap (λ n. going p n s) it.is
    ∙ ap (λ (l : Instance). take_instance p l.place (string_bytes l.predicate.value) (values l.arguments.value) (held_term l.amount) (code it.code) (heap it.heap.value) s (giving p it.hole.value)) (sym c.deref-in-TakeInstance.ensures)) c.take_instance.ensures

pub returns-in-Body : goal.returns-in-Body
returns-in-Body c =
    let p = settled c.args.program.now in
    let s : State = state c.args.state in
    stepped_as p _ _ _ _ _ (ap (λ n. going p n s) c.in-Body.is) c.step_body.ensures

pub returns-in-Return : goal.returns-in-Return
returns-in-Return c = stepped_as (settled c.args.program.now) _ _ _ _ _ (rw (c.in-Return.is, c.deref-in-Return.ensures) refl) c.step_return.ensures

pub returns-in-MeasureFrom : goal.returns-in-MeasureFrom
returns-in-MeasureFrom c =
    let p = settled c.args.program.now in
    let s : State = state c.args.state in
    stepped_as p _ _ _ _ _ (ap (λ n. going p n s) c.in-MeasureFrom.is) c.measure_from.ensures

pub returns-in-RootFrom : goal.returns-in-RootFrom
returns-in-RootFrom c =
    let p = settled c.args.program.now in
    let s : State = state c.args.state in
    stepped_as p _ _ _ _ _ (ap (λ n. going p n s) c.in-RootFrom.is) c.root_from.ensures
