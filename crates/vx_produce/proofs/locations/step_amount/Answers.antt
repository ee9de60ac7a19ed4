use Rattle.std.proofs.Common.{◌≡◌, string_bytes, ap, sym, ◌∙◌}
use Rattle.vx_resolved.specs.Settled.{settled}
use Rattle.vx_ast.specs.Syntax.{Name}
use Rattle.vx_terms.specs.Terms.{Term}
use Rattle.vx_heap.specs.Views.{held_term}
use Rattle.vx_terms.specs.Views.{term}
use Rattle.vx_terms.specs.Build.{less_equal, multiply, zero_amount}
use Rattle.vx_rules.specs.States.{State}
use Rattle.vx_rules.specs.Trees.{AmountCode, Step}
use Rattle.vx_rules.specs.Rules.{Going, placed}
use Rattle.vx_states.specs.SymStates.{optional_term, state}
use Rattle.vx_stack.specs.declared.waiting.Production.{Production}
use Rattle.vx_stack.specs.Stack.{frame_tree, going, with_location}
use Rattle.vx_stack.proofs.Steps.{asks, stepped_as}
use Rattle.vx_produce.proofs.Trees.{puts}
use Rattle.vx_produce.proofs.locations.step_amount.Goals as goal

pub returns : goal.returns
returns c =
    let p = settled c.args.program.now in
    let s : State = state c.args.state in
    let x : Production = c.args.x.now.value in
    let f : Name = string_bytes c.args.field.now.value in
    let r : Term = held_term c.args.receiver.now in
    let a : Term = multiply (held_term x.scale) (held_term c.args.share.now) in
    let next : Going = going p c.args.next.now.value in
    let on : Going = λ s1. Step (next (with_location p f r a (optional_term x.snapshot) c.args.is_inner s1)) in
    let amount : held_term c.in_ok-amount.amount ≡ a = c.in_ok-amount.ensures ∙ ap (λ (y : Production). multiply (held_term y.scale) (held_term c.args.share.now)) c.deref.ensures in
    let allowed : held_term c.in_ok-allowed.allowed ≡ less_equal zero_amount a = c.in_ok-allowed.ensures ∙ ap (less_equal zero_amount) amount in
    let put : frame_tree p c.in_ok-put.put ≡ on =
    c.in_ok-put.ensures
    ∙ puts p (string_bytes c.in_ok-clone.field-0.value) f (held_term c.in_ok-clone-2.field-0) r (held_term c.in_ok-amount.amount) a (optional_term x.snapshot) c.args.is_inner next
    (ap string_bytes c.in_ok-clone.ensures.cases) (ap term c.in_ok-clone-2.ensures.cases) amount in
    stepped_as p _ _ _ _ _
    (sym (asks (held_term c.in_ok-allowed.allowed) (less_equal zero_amount a) c.placed-at.result (placed s c.args.place) AmountCode s (frame_tree p c.in_ok-put.put) on allowed c.placed-at.ensures put)) c.ask.ensures
