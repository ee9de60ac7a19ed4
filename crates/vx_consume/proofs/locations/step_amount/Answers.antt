use Rattle.std.proofs.Common.{◌≡◌, string_bytes, refl, ap, sym, ◌∙◌}
use Rattle.vx_ast.specs.Syntax.{Name}
use Rattle.vx_heap.specs.Views.{heap, held_term}
use Rattle.vx_resolved.specs.Settled.{settled}
use Rattle.vx_terms.specs.Terms.{Term}
use Rattle.vx_terms.specs.Views.{term}
use Rattle.vx_terms.specs.Build.{less_equal, multiply, zero_amount}
use Rattle.vx_rules.specs.Codes.{code}
use Rattle.vx_rules.specs.States.{Heap, State}
use Rattle.vx_rules.specs.Trees.{AmountCode}
use Rattle.vx_rules.specs.Rules.{Giving, Going, placed}
use Rattle.vx_states.specs.SymStates.{state}
use Rattle.vx_stack.specs.declared.waiting.Consumption.{Consumption}
use Rattle.vx_stack.specs.Stack.{context, frame_tree, giving, take_location, wrapped}
use Rattle.vx_stack.proofs.Steps.{asks, stepped_as}
use Rattle.vx_consume.proofs.Trees.{takes, wraps}
use Rattle.vx_consume.proofs.locations.step_amount.Goals as goal

pub returns : goal.returns
returns c =
    let p = settled c.args.program.now in
    let s : State = state c.args.state in
    let x : Consumption = c.args.x.now in
    let f : Name = string_bytes c.args.field.now.value in
    let f' : Name = string_bytes c.in_ok-clone.field-0.value in
    let r : Term = held_term c.args.receiver.now in
    let a : Term = multiply (held_term x.scale) (held_term c.args.share.now) in
    let h : Heap = heap c.args.heap.now.value in
    let end : Giving = giving p c.args.hole.now.value in
    let on : Going = λ z. take_location p c.args.place f r a (code x.codes.permission) h z (wrapped p f (context x.codes) end) in
    let name : f' ≡ f = ap string_bytes c.in_ok-clone.ensures.cases in
    let allowed : held_term c.in_ok-allowed.allowed ≡ less_equal zero_amount a = c.in_ok-allowed.ensures ∙ ap (less_equal zero_amount) c.in_ok-amount.ensures in
    let take : frame_tree p c.in_ok-take.take ≡ on =
    c.in_ok-take.ensures
    ∙ takes p c.args.place f' f (held_term c.in_ok-clone-2.field-0) r (held_term c.in_ok-amount.amount) a (code x.codes.permission) h h (wrapped p f' (context x.codes) end) (wrapped p f (context x.codes) end)
    name (ap term c.in_ok-clone-2.ensures.cases) c.in_ok-amount.ensures refl (wraps p f' f (context x.codes) end end name refl) in
    stepped_as p _ _ _ _ _
    (sym (asks (held_term c.in_ok-allowed.allowed) (less_equal zero_amount a) c.placed-at.result (placed s c.args.place) AmountCode s (frame_tree p c.in_ok-take.take) on allowed c.placed-at.ensures take)) c.ask.ensures
