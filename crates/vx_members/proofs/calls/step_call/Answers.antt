use Rattle.std.proofs.Common.{◌≡◌, List, Some, string_bytes, sym, ap, ◌∙◌}
use Rattle.vx_ast.specs.Syntax.{Name, Method, method_named}
use Rattle.vx_heap.specs.Views.{terms_of}
use Rattle.vx_resolved.specs.Resolved.{method, names_of}
use Rattle.vx_resolved.specs.Settled.{settled, optional_method}
use Rattle.vx_terms.specs.Terms.{Term}
use Rattle.vx_rules.specs.States.{State}
use Rattle.vx_rules.specs.Rules.{Going}
use Rattle.vx_rules.specs.Members.{after_names, called, rules}
use Rattle.vx_rules.specs.Members.{names_of as named_of}
use Rattle.vx_states.specs.SymStates.{state}
use Rattle.vx_stack.specs.Stack.{going}
use Rattle.vx_stack.specs.Values.{values}
use Rattle.vx_stack.proofs.Steps.{stepped_as}
use Rattle.vx_members.proofs.Callees.{call_of}
use Rattle.vx_members.proofs.calls.step_call.Goals as goal

pub returns : goal.returns
returns c =
    let p = settled c.args.program.now in
    let s : State = state c.args.state in
    let at = c.args.place in
    let xs : List Name = names_of c.args.targets.now.value.items in
    let ts : List Term = values c.args.arguments.now in
    let on : Going = going p c.args.next.now.value in
    let m : Method = method c.in-Some.method.value in
    let named : method_named p (string_bytes c.args.name.now.value) ≡ Some m = sym c.in_ok-method.ensures ∙ ap optional_method c.in-Some.is in
    let given : terms_of c.deref.result.now ≡ ts = ap terms_of c.deref.ensures.value ∙ c.in_ok-arguments.ensures in
    let names : terms_of c.deref-2.result.now ≡ named_of ts s = ap terms_of c.deref-2.ensures.value ∙ c.in_ok-names.ensures.names ∙ ap (λ (y : List Term). named_of y s) given in
    let after : state c.name_all.new.self ≡ after_names ts s = c.in_ok-names.ensures.after ∙ ap (λ (y : List Term). after_names y s) given in
    stepped_as p _ _ _ _ _
    (ap (call_of p at ts xs s on) named
    ∙ sym (ap (λ y. called p (rules p) at m y xs (state c.name_all.new.self) on) names ∙ ap (λ y. called p (rules p) at m (named_of ts s) xs y on) after)) c.step_named.ensures
