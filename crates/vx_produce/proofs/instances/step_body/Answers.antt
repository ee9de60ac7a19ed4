use Rattle.std.proofs.Common.{◌≡◌, Some, string_bytes, sym, ap, ◌∙◌}
use Rattle.vx_ast.specs.Syntax.{Name, predicate_named}
use Rattle.vx_resolved.specs.declared.Assertion as assertion'
use Rattle.vx_resolved.specs.declared.Predicate as predicate'
use Rattle.vx_resolved.specs.Resolved.{assertion, optional_assertion, predicate}
use Rattle.vx_resolved.specs.Settled.{settled, optional_predicate}
use Rattle.vx_terms.specs.Terms.{Term}
use Rattle.vx_heap.specs.Views.{held_term}
use Rattle.vx_rules.specs.States.{State, bind}
use Rattle.vx_rules.specs.Rules.{Going, back, entered}
use Rattle.vx_rules.specs.Members.{rules}
use Rattle.vx_states.specs.SymStates.{state}
use Rattle.vx_stack.specs.declared.waiting.Instance.{Instance}
use Rattle.vx_stack.specs.Stack.{going}
use Rattle.vx_stack.specs.Values.{values}
use Rattle.vx_stack.proofs.Steps.{stepped_as}
use Rattle.vx_produce.proofs.Trees.{exchanged_by}
use Rattle.vx_produce.proofs.instances.step_body.Goals as goal

pub returns : goal.returns
returns c =
    let p = settled c.args.program.now in
    let s : State = state c.args.state in
    let x : Instance = c.args.instance.now.value in
    let i : Name = string_bytes x.predicate.value in
    let t : Term = held_term c.args.snapshot.now in
    let on : Going = going p c.args.next.now.value in
    let d : predicate'.Predicate = c.in-Some.d.value in
    let b : assertion'.Assertion = c.in-Some-body.body.value in
    let named : predicate_named p i ≡ Some (predicate d) =
    ap (λ (y : Instance). predicate_named p (string_bytes y.predicate.value)) (sym c.deref.ensures) ∙ sym c.in_ok-d.ensures ∙ ap optional_predicate c.in-Some.is in
    let body : (predicate d).body ≡ Some (assertion b) =
    ap (λ (y : predicate'.Predicate). optional_assertion y.body) (sym c.deref-2.ensures) ∙ ap optional_assertion c.in-Some-body.is in
    let it = λ (d1 : predicate'.Predicate) (b1 : assertion'.Assertion) (y : Instance).
    (rules p).produce (assertion b1) (held_term y.amount) (Some t) (record (entered (bind (predicate d1).parameters (values y.arguments.value)) y.place s) { inner = c.args.is_inner }) (λ w. on (back s w)) in
    stepped_as p _ _ _ _ _
    (exchanged_by p x.place i (values x.arguments.value) (held_term x.amount) t c.args.is_inner s on (predicate d) (assertion b) named body
    ∙ sym (ap (λ y. it y c.deref-in-Some-body-2.result.now c.deref-in-Some-body-3.result.now) c.deref-in-Some-body.ensures
    ∙ ap (λ y. it d y c.deref-in-Some-body-3.result.now) c.deref-in-Some-body-2.ensures
    ∙ ap (λ y. it d b y) c.deref-in-Some-body-3.ensures)) c.step_exchanged.ensures
