use Rattle.std.proofs.Common.{◌≡◌, List, Some, string_bytes, sym, ap, ◌∙◌}
use Rattle.vx_ast.specs.Syntax.{Name, predicate_named}
use Rattle.vx_resolved.specs.declared.Assertion as assertion'
use Rattle.vx_resolved.specs.declared.Predicate as predicate'
use Rattle.vx_resolved.specs.Resolved.{assertion, optional_assertion, predicate}
use Rattle.vx_resolved.specs.Settled.{settled, optional_predicate}
use Rattle.vx_terms.specs.Terms.{Term}
use Rattle.vx_heap.specs.Views.{held_term}
use Rattle.vx_rules.specs.States.{State}
use Rattle.vx_rules.specs.Rules.{Going}
use Rattle.vx_states.specs.SymStates.{state}
use Rattle.vx_stack.specs.declared.waiting.Instance.{Instance}
use Rattle.vx_stack.specs.Stack.{going}
use Rattle.vx_stack.specs.Values.{values}
use Rattle.vx_stack.proofs.Steps.{stepped_as}
use Rattle.vx_members.proofs.Callees.{folded_by, folds}
use Rattle.vx_members.proofs.folds.step_fold.Goals as goal

pub returns : goal.returns
returns c =
    let p = settled c.args.program.now in
    let s : State = state c.args.state in
    let i : Name = string_bytes c.args.predicate.now.value in
    let ts : List Term = values c.args.arguments.now.value in
    let a : Term = held_term c.args.amount.now in
    let on : Going = going p c.args.next.now.value in
    let d : predicate'.Predicate = c.in-Some.d.value in
    let b : assertion'.Assertion = c.in-Some-body.body.value in
    let x : Instance = c.in_ok-instance-in-Some-body.instance.value in
    let is = c.in_ok-instance-in-Some-body.ensures in
    let named : predicate_named p i ≡ Some (predicate d) = sym c.in_ok-d.ensures ∙ ap optional_predicate c.in-Some.is in
    let body : (predicate d).body ≡ Some (assertion b) =
    ap (λ (y : predicate'.Predicate). optional_assertion y.body) (sym c.deref.ensures) ∙ ap optional_assertion c.in-Some-body.is in
    stepped_as p _ _ _ _ _
    (folded_by p c.args.place i ts a s on (predicate d) (assertion b) named body
    ∙ sym (folds p x.place c.args.place (string_bytes x.predicate.value) i (values x.arguments.value) ts (held_term x.amount) a s on (predicate c.deref-in-Some-body.result.now) (predicate d) (assertion b)
    is.place is.predicate is.arguments is.amount (ap predicate c.deref-in-Some-body.ensures))) c.step_taking.ensures
