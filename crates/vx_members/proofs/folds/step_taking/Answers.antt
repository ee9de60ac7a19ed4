use Rattle.std.proofs.Common.{◌≡◌, List, string_bytes, true, sym, ap, ◌∙◌}
use Rattle.vx_ast.specs.Syntax.{Name}
use Rattle.vx_resolved.specs.Resolved.{assertion, predicate}
use Rattle.vx_resolved.specs.Settled.{settled}
use Rattle.vx_terms.specs.Terms.{Term}
use Rattle.vx_heap.specs.Views.{held_term}
use Rattle.vx_rules.specs.States.{State, bind}
use Rattle.vx_rules.specs.Trees.{FoldCode, Step}
use Rattle.vx_rules.specs.Rules.{Context, Giving, Going, entered}
use Rattle.vx_states.specs.Entering.{back_to}
use Rattle.vx_states.specs.SymStates.{state}
use Rattle.vx_stack.specs.declared.waiting.Instance.{Instance}
use Rattle.vx_stack.specs.Stack.{going, with_instance}
use Rattle.vx_stack.specs.Values.{values}
use Rattle.vx_stack.proofs.Steps.{stepped_as}
use Rattle.vx_members.proofs.Callees.{part_consumed}
use Rattle.vx_members.proofs.folds.step_taking.Goals as goal

pub returns : goal.returns
returns c =
    let p = settled c.args.program.now in
    let s : State = state c.args.state in
    let x : Instance = c.args.instance.now.value in
    let i : Name = string_bytes x.predicate.value in
    let ts : List Term = values x.arguments.value in
    let a : Term = held_term x.amount in
    let n : Going = going p c.args.next.now.value in
    let z : State = entered (bind (predicate c.args.d.now).parameters ts) x.place s in
    let folding : Context = record { pure = FoldCode; permission = FoldCode; builds = true } in
    let other : Giving = λ t w. Step (n (with_instance i ts a t (back_to c.in_ok-caller-2.caller.value w))) in
    let same = λ (t : Term) (w : State). ap (λ y. Step (n (with_instance i ts a t y))) (sym (c.in_ok-caller.ensures w) ∙ ap (λ y. back_to y w) (sym c.in_ok-caller-2.ensures.ok)) in
    let entered_z : state c.in_ok-state.state ≡ z =
    c.in_ok-state.ensures ∙ ap (λ (y : Instance). entered (bind (predicate c.args.d.now).parameters (values y.arguments.value)) y.place s) c.deref.ensures in
    stepped_as p _ _ _ _ _
    (ap Step (part_consumed p (assertion c.args.body.now.value) folding a z (state c.in_ok-state.state) (going p c.in_ok-take.take) _ other
    (c.rules_read_parts_by_themselves.ensures p z.level c.keeps_apart.ensures) c.in_ok-take.ensures entered_z same)) c.next.ensures
