use Rattle.std.proofs.Common.{◌≡◌, None, sym, ap, ◌∙◌, drop}
use Rattle.vx_ast.specs.Syntax.{Method, joined}
use Rattle.vx_heap.specs.Views.{heap}
use Rattle.vx_resolved.specs.declared.Method as method'
use Rattle.vx_resolved.specs.Resolved.{assertion, method, names_of}
use Rattle.vx_resolved.specs.Settled.{settled}
use Rattle.vx_terms.specs.Build.{whole_amount}
use Rattle.vx_rules.specs.States.{State, declare_all, terms_in}
use Rattle.vx_rules.specs.Trees.{Step}
use Rattle.vx_rules.specs.Rules.{Going}
use Rattle.vx_states.specs.SymStates.{optional_term, state}
use Rattle.vx_stack.specs.declared.waiting.Called.{Called}
use Rattle.vx_stack.specs.Stack.{going, returned}
use Rattle.vx_stack.proofs.Steps.{stepped_as}
use Rattle.vx_produce.proofs.Others.{part_produced}
use Rattle.vx_steps.proofs.executing.step_promised.Goals as goal

pub returns : goal.returns
returns c =
    let p = settled c.args.program.now in
    let it : Called = c.args.called.now in
    let m : Method = method it.method.value in
    let n : Going = going p c.args.next.now.value in
    let z : State = declare_all m.returns (record (state c.args.state) { old = heap it.heap.value }) in
    let on = λ (inside w : State). Step (n (returned (names_of it.targets.value.items) (drop it.count (terms_in inside.store)) it.caller.value (heap it.old_heap.value) w)) in
    let way : Going = going p c.in_ok-way.way.value in
    let same = λ (w : State). ap (λ (y : State). on y w) (sym c.in_ok-state.ensures) ∙ ap (λ (y : Going). y w) (sym c.in_ok-way.ensures) in
    let all : assertion c.deref-2.result.now ≡ joined m.place m.ensures =
    ap assertion c.deref-2.ensures ∙ c.in_ok-all.ensures ∙ ap (λ (y : method'.Method). joined (method y).place (method y).ensures) c.deref.ensures in
    stepped_as p _ _ _ _ _
    (part_produced p (joined m.place m.ensures) (assertion c.deref-2.result.now) whole_amount None z (state c.in_ok-state.state) c.in_ok-production.production.value (on z) way
    (c.rules_read_parts_by_themselves.ensures p z.level c.keeps_apart.ensures) all c.in_ok-production.ensures.scale (ap optional_term c.in_ok-production.ensures.snapshot) c.in_ok-state.ensures same) c.step.ensures
