use Rattle.std.proofs.Common.{◌≡◌, List, string_bytes, refl, ap, sym, ◌∙◌}
use Rattle.vx_ast.specs.Syntax.{Name}
use Rattle.vx_heap.specs.Views.{heap, held_term}
use Rattle.vx_resolved.specs.Settled.{settled}
use Rattle.vx_terms.specs.Terms.{Term}
use Rattle.vx_terms.specs.Build.{less_equal, multiply, zero_amount}
use Rattle.vx_rules.specs.Codes.{code}
use Rattle.vx_rules.specs.States.{Heap, State}
use Rattle.vx_rules.specs.Trees.{AmountCode, Step}
use Rattle.vx_rules.specs.Rules.{Giving, Going, placed}
use Rattle.vx_states.specs.SymStates.{state}
use Rattle.vx_stack.specs.declared.waiting.Consumption.{Consumption}
use Rattle.vx_stack.specs.Stack.{frame_tree, giving, take_instance}
use Rattle.vx_stack.specs.Values.{values}
use Rattle.vx_stack.proofs.Steps.{asks, stepped_as}
use Rattle.vx_consume.proofs.Trees.{takes_held}
use Rattle.vx_consume.proofs.instances.step_held.Goals as goal

pub returns : goal.returns
returns c =
    let p = settled c.args.program.now in
    let s : State = state c.args.state in
    let x : Consumption = c.args.x.now in
    let i : Name = string_bytes c.args.predicate.now.value in
    let ts : List Term = values c.args.arguments.now.value in
    let a : Term = multiply (held_term x.scale) (held_term c.args.share.now) in
    let h : Heap = heap c.args.heap.now.value in
    let end : Giving = λ v z. Step (giving p c.args.hole.now.value v z) in
    let on : Going = λ z. take_instance p c.args.place i ts a (code x.codes.permission) h z end in
    let allowed : held_term c.in_ok-allowed.allowed ≡ less_equal zero_amount a = c.in_ok-allowed.ensures ∙ ap (less_equal zero_amount) c.in_ok-amount.ensures in
    let take : frame_tree p c.in_ok-take.take ≡ on =
    c.in_ok-take.ensures
    ∙ takes_held p c.args.place (string_bytes c.in_ok-clone.field-0.value) i (values c.in_ok-clone-2.field-0.value) ts (held_term c.in_ok-amount.amount) a (code x.codes.permission) h h end end
    (ap string_bytes c.in_ok-clone.ensures.cases) (ap values c.in_ok-clone-2.ensures.cases) c.in_ok-amount.ensures refl refl in
    stepped_as p _ _ _ _ _
    (sym (asks (held_term c.in_ok-allowed.allowed) (less_equal zero_amount a) c.placed-at.result (placed s c.args.place) AmountCode s (frame_tree p c.in_ok-take.take) on allowed c.placed-at.ensures take)) c.ask.ensures
