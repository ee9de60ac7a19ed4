use Rattle.std.proofs.Common.{◌≡◌, List, length, sym, ap, ◌∙◌}
use Rattle.std.proofs.lemmas.List.{length-map}
use Rattle.vx_ast.specs.Syntax.{Name, Method, joined}
use Rattle.vx_heap.specs.Views.{heap, terms_of, held_term}
use Rattle.vx_resolved.specs.declared.Method as method'
use Rattle.vx_resolved.specs.Resolved.{method, names_of}
use Rattle.vx_resolved.specs.Settled.{settled}
use Rattle.vx_terms.specs.Build.{whole_amount}
use Rattle.vx_terms.specs.Terms.{Term}
use Rattle.vx_rules.specs.States.{State, bind}
use Rattle.vx_rules.specs.Trees.{CallCode, Step}
use Rattle.vx_rules.specs.Rules.{Giving, Going, consume, entered}
use Rattle.vx_rules.specs.Members.{codes, rules}
use Rattle.vx_states.specs.SymStates.{state}
use Rattle.vx_stack.specs.declared.waiting.Called.{Called}
use Rattle.vx_stack.specs.Stack.{going, promised}
use Rattle.vx_stack.proofs.Steps.{stepped_as}
use Rattle.vx_members.proofs.Callees.{part_consumed, promises}
use Rattle.vx_members.proofs.calls.step_named.Goals as goal

pub returns : goal.returns
returns c =
    let p = settled c.args.program.now in
    let s : State = state c.args.state in
    let m : Method = method c.args.method.now.value in
    let ts : List Term = terms_of c.args.names.now in
    let xs : List Name = names_of c.args.targets.now.value.items in
    let n : Going = going p c.args.next.now.value in
    let it : Called = c.in_ok-called.called.value in
    let is = c.in_ok-called.ensures in
    let z : State = entered (bind m.parameters ts) c.args.place s in
    let other : Giving = λ t w. promised p it n w in
    let count : it.count ≡ length ts = is.count ∙ sym (length-map c.args.names.now (λ t. held_term t)) in
    let take : going p c.in_ok-take.take ≡ (λ w. consume p (rules p) (joined m.place m.requires) (codes CallCode CallCode) whole_amount w.heap w other) =
    c.in_ok-take.ensures in
    let entered_z : state c.in_ok-state.state ≡ z =
    c.in_ok-state.ensures ∙ ap (λ (y : method'.Method). entered (bind (method y).parameters ts) c.args.place s) c.deref.ensures in
    stepped_as p _ _ _ _ _
    (ap Step (part_consumed p (joined m.place m.requires) (codes CallCode CallCode) whole_amount z (state c.in_ok-state.state) (going p c.in_ok-take.take) _ other
    (c.rules_read_parts_by_themselves.ensures p z.level c.keeps_apart.ensures) take entered_z
    (λ t w. sym (promises p (method it.method.value) m (names_of it.targets.value.items) xs it.count (length ts) it.caller.value s (heap it.heap.value) s.heap (heap it.old_heap.value) n w is.method is.targets count is.caller is.heap is.before)))) c.next.ensures
