use Rattle.std.proofs.Common.{◌≡◌, sym, ap, ap₂, ◌∙◌}
use Rattle.vx_heap.specs.Views.{heap, held_term}
use Rattle.vx_resolved.specs.Settled.{settled}
use Rattle.vx_rules.specs.States.{State, after_name, name_of, with_heap}
use Rattle.vx_rules.specs.Rules.{Giving}
use Rattle.vx_states.specs.Entering.{back_to}
use Rattle.vx_states.specs.SymStates.{state}
use Rattle.vx_stack.specs.declared.waiting.Application.{Application}
use Rattle.vx_stack.specs.declared.waiting.Applied.{Applied}
use Rattle.vx_stack.specs.Stack.{giving, measuring}
use Rattle.vx_stack.proofs.Steps.{stepped_as}
use Rattle.vx_funcs.proofs.apply.step_applied.Goals as goal

pub returns : goal.returns
returns c =
    let p = settled c.args.program.now in
    let on : Giving = giving p c.args.hole.now.value in
    let t = held_term c.args.snapshot in
    let x : Application = c.args.x.now.value in
    let s : State = with_heap (heap c.args.heap.now.value) (back_to c.args.caller.now (state c.args.state)) in
    let s1 : State = state c.exchange_heap-taken.new.self in
    let same : s1 ≡ s = c.exchange_heap-taken.ensures.after ∙ ap₂ (λ h y. with_heap (heap h) y) c.in_ok-clone.ensures.cases c.in_ok-back.ensures in
    let named = c.in_ok-snapshot.ensures in
    stepped_as p _ _ _ _ _
    (sym (ap (λ (y : Applied). measuring p y.application.value (held_term y.snapshot) on (state c.name.new.self)) c.in_ok-applied.ensures.ok
    ∙ ap (λ (y : Application). measuring p y (held_term c.in_ok-snapshot.snapshot) on (state c.name.new.self)) c.in_ok-clone-2.ensures.cases
    ∙ ap₂ (λ n y. measuring p x n on y) named.0 named.1
    ∙ ap (λ y. measuring p x (name_of t y) on (after_name t y)) same)) c.step_measuring.ensures
