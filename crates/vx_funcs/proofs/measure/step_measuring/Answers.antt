use Rattle.std.proofs.Common.{◌≡◌, Some, string_bytes, sym, ap, ◌∙◌}
use Rattle.std.specs.Option.{option_map}
use Rattle.vx_funcs.specs.Measures.{asked}
use Rattle.vx_heap.specs.Views.{held_term}
use Rattle.vx_resolved.specs.Resolved.{function}
use Rattle.vx_resolved.specs.Settled.{settled}
use Rattle.vx_rules.specs.Rules.{Giving, Going}
use Rattle.vx_rules.specs.States.{State, Store, bind}
use Rattle.vx_states.specs.SymStates.{own, state}
use Rattle.vx_stack.specs.declared.waiting.Application.{Application}
use Rattle.vx_stack.specs.declared.waiting.Applied.{Applied}
use Rattle.vx_stack.specs.Stack.{giving, telling}
use Rattle.vx_stack.specs.Values.{values}
use Rattle.vx_stack.proofs.Steps.{stepped_as}
use Rattle.vx_funcs.proofs.Parts.{measured_as, measured_by_own}
use Rattle.vx_funcs.proofs.measure.step_measuring.Goals as goal

pub returns-in-Some : goal.returns-in-Some
returns-in-Some c =
    let p = settled c.args.program.now in
    let s : State = state c.args.state in
    let x : Applied = c.args.x.now.value in
    let a : Application = x.application.value in
    let g = function a.function.value in
    let f = string_bytes a.name.value in
    let on : Giving = giving p c.args.hole.now.value in
    let store : Store = bind g.parameters (values a.arguments.value) in
    let tell : Going = telling p a (held_term x.snapshot) on in
    let against : asked p f s ≡ Some (own c.in-Some.own) =
    ap (λ (y : Application). asked p (string_bytes y.name.value) s) (sym (c.deref-2.ensures ∙ ap (λ (y : Applied). y.application.value) c.deref.ensures))
    ∙ sym c.in_ok-measured_against.ensures ∙ ap (option_map own) c.in-Some.is in
    stepped_as p _ _ _ _ _ (measured_by_own p f g store a.place s tell ∙ ap (measured_as p g store a.place s tell) against) c.step_decreasing.ensures
