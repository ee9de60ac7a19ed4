use Rattle.std.proofs.Common.{List, string_bytes, sym, ap, ◌∙◌}
use Rattle.vx_ast.specs.declared.Place.{Place}
use Rattle.vx_ast.specs.Syntax.{Name}
use Rattle.vx_resolved.specs.Settled.{settled}
use Rattle.vx_terms.specs.Terms.{Term}
use Rattle.vx_heap.specs.Views.{held_term}
use Rattle.vx_rules.specs.States.{State}
use Rattle.vx_rules.specs.Rules.{Going, unfolded}
use Rattle.vx_rules.specs.Members.{rules}
use Rattle.vx_states.specs.SymStates.{state}
use Rattle.vx_stack.specs.declared.waiting.Instance.{Instance}
use Rattle.vx_stack.specs.Stack.{going}
use Rattle.vx_stack.specs.Values.{values}
use Rattle.vx_stack.proofs.Steps.{stepped_as}
use Rattle.vx_steps.proofs.steps.step_unfold.Goals as goal

pub returns : goal.returns
returns c =
    let p = settled c.args.program.now in
    let s : State = state c.args.state in
    let x : Instance = c.in_ok-instance.instance.value in
    let is = c.in_ok-instance.ensures in
    let on : Going = going p c.args.next.now.value in
    let i : Name = string_bytes c.args.predicate.now.value in
    let ts : List Term = values c.args.arguments.now.value in
    stepped_as p _ _ _ _ _
    (sym (ap (λ (y : Place). unfolded p (rules p) y (string_bytes x.predicate.value) (values x.arguments.value) (held_term x.amount) s on) is.place
    ∙ ap (λ (y : Name). unfolded p (rules p) c.args.place y (values x.arguments.value) (held_term x.amount) s on) is.predicate
    ∙ ap (λ (y : List Term). unfolded p (rules p) c.args.place i y (held_term x.amount) s on) is.arguments
    ∙ ap (λ (y : Term). unfolded p (rules p) c.args.place i ts y s on) is.amount)) c.unfold.ensures
