use Rattle.std.proofs.Common.{string_bytes, refl, ap, sym, ◌∙◌}
use Rattle.vx_heap.specs.Views.{heap, held_term}
use Rattle.vx_resolved.specs.Settled.{settled}
use Rattle.vx_rules.specs.Codes.{code}
use Rattle.vx_rules.specs.Rules.{Giving}
use Rattle.vx_rules.specs.States.{State}
use Rattle.vx_states.specs.SymStates.{state}
use Rattle.vx_stack.specs.declared.waiting.Consumed.{Consumed}
use Rattle.vx_stack.specs.declared.waiting.Consumption.{Consumption}
use Rattle.vx_stack.specs.Stack.{consumed, context, giving, taking, wrapped}
use Rattle.vx_terms.specs.Build.{multiply}
use Rattle.vx_terms.specs.Terms.{Term}
use Rattle.vx_stack.proofs.Steps.{stepped_as}
use Rattle.vx_consume.proofs.step_consumed.Goals as goal

pub returns-in_ok-after-in-Ask : goal.returns-in_ok-after-in-Ask
returns-in_ok-after-in-Ask c =
    stepped_as (settled c.args.program.now) _ _ _ _ _
    (rw (c.in-Ask.is, c.placed-place.ensures, c.in_ok-after-in-Ask.ensures (settled c.args.program.now)) refl) c.ask.ensures

pub returns-in_ok-rest-in-Right : goal.returns-in_ok-rest-in-Right
returns-in_ok-rest-in-Right c =
    stepped_as (settled c.args.program.now) _ _ _ _ _
    (rw (c.in-Right.is, c.deref-in-Right.ensures, c.in_ok-rest-in-Right.ensures (settled c.args.program.now), c.deref.ensures) refl) c.step.ensures

pub returns-in_ok-add_built_pair-in-With : goal.returns-in_ok-add_built_pair-in-With
returns-in_ok-add_built_pair-in-With c =
    stepped_as (settled c.args.program.now) _ _ _ _ _
    (rw (c.in-With.is, c.in_ok-both-in-With.ensures, c.in_ok-add_built_pair-in-With.ensures) refl) c.give.ensures

pub returns-in-Amount : goal.returns-in-Amount
returns-in-Amount c =
    let p = settled c.args.program.now in
    let s : State = state c.args.state in
    let v : Term = held_term c.args.value in
    let it = c.in-Amount in
    let on : Giving = giving p c.args.hole.now.value in
    stepped_as p _ _ _ _ _
    (ap (λ (w : Consumed). consumed p w on v s) it.is
    ∙ ap (λ (x : Consumption). taking p it.place (string_bytes it.field.value) (held_term it.receiver) (multiply (held_term x.scale) v) (code x.codes.permission) (heap it.heap.value) s
    (wrapped p (string_bytes it.field.value) (context x.codes) on)) (sym c.deref-in-Amount.ensures)) c.step_amount.ensures

pub returns-in-Held : goal.returns-in-Held
returns-in-Held c = stepped_as (settled c.args.program.now) _ _ _ _ _ (rw (c.in-Held.is, c.deref-in-Held.ensures) refl) c.step_held.ensures
