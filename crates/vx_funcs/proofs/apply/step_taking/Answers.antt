use Rattle.std.proofs.Common.{◌≡◌, true, sym, ap, ap₂, ◌∙◌}
use Rattle.vx_ast.specs.Syntax.{joined}
use Rattle.vx_heap.specs.Views.{heap}
use Rattle.vx_resolved.specs.Resolved.{function}
use Rattle.vx_resolved.specs.Settled.{settled}
use Rattle.vx_terms.specs.Build.{whole_amount}
use Rattle.vx_terms.specs.Terms.{Term}
use Rattle.vx_rules.specs.States.{State, after_name, bind, name_of, with_heap}
use Rattle.vx_rules.specs.Trees.{FunctionCode, Step}
use Rattle.vx_rules.specs.Rules.{Context, Giving, entered}
use Rattle.vx_states.specs.SymStates.{state}
use Rattle.vx_stack.specs.declared.waiting.Application.{Application}
use Rattle.vx_stack.specs.Stack.{giving, going, measuring}
use Rattle.vx_stack.specs.Values.{values}
use Rattle.vx_stack.proofs.Steps.{stepped_as}
use Rattle.vx_funcs.proofs.Parts.{applied_of, part_consumed}
use Rattle.vx_funcs.proofs.apply.step_taking.Goals as goal

pub returns : goal.returns
returns c =
    let p = settled c.args.program.now in
    let s : State = state c.args.state in
    let x : Application = c.args.x.now.value in
    let g = function x.function.value in
    let on : Giving = giving p c.args.hole.now.value in
    let z : State = entered (bind g.parameters (values x.arguments.value)) x.place s in
    let taking : Context = record { pure = FunctionCode; permission = FunctionCode; builds = true } in
    let inside = c.in_ok-inside.inside in
    let other : Giving = applied_of p x inside.caller c.in_ok-heap.heap on in
    let held : s.heap ≡ heap c.in_ok-heap.heap.value = sym (ap heap c.in_ok-heap.ensures.cases) in
    let same = λ (t : Term) (w : State).
    ap (λ y. measuring p x (name_of t y) on (after_name t y)) (ap₂ with_heap held (sym (c.in_ok-inside.ensures.caller w))) in
    let entered_z : state inside.state ≡ z =
    c.in_ok-inside.ensures.state ∙ ap (λ (y : Application). entered (bind (function y.function.value).parameters (values y.arguments.value)) y.place s) c.deref.ensures in
    stepped_as p _ _ _ _ _
    (ap Step (part_consumed p (joined g.place g.requires) taking whole_amount z (state inside.state) (going p c.in_ok-take.take) _ other
    (c.rules_read_parts_by_themselves.ensures p z.level c.keeps_apart.ensures) c.in_ok-take.ensures entered_z same)) c.next.ensures
