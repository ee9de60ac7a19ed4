use Rattle.std.proofs.Common.{◌≡◌, true, false, refl, sym, ap, ◌∙◌}
use Rattle.vx_resolved.specs.Resolved.{assertion}
use Rattle.vx_resolved.specs.Settled.{settled}
use Rattle.vx_stack.specs.declared.waiting.Production.{Production}
use Rattle.vx_terms.specs.Terms.{Term}
use Rattle.vx_heap.specs.Views.{held_term}
use Rattle.vx_terms.specs.Views.{term}
use Rattle.vx_rules.specs.States.{State, is_known, with_branch}
use Rattle.vx_rules.specs.Trees.{Step, Fork}
use Rattle.vx_rules.specs.Rules.{Going, with_unit}
use Rattle.vx_states.specs.SymStates.{optional_term, state}
use Rattle.vx_stack.specs.Stack.{frame_tree, going, producing}
use Rattle.vx_stack.proofs.Steps.{fork_both, stepped_as}
use Rattle.vx_produce.proofs.Trees.{fork_left}
use Rattle.vx_produce.proofs.sides.step_implied.Goals as goal

pub returns-then-is_known : goal.returns-then-is_known
returns-then-is_known c =
    let p = settled c.args.program.now in
    let s : State = state c.args.state in
    let on : Going = going p c.args.next.now.value in
    let left : Going = λ s1. producing p (assertion c.args.a.now.value) c.args.x.now.value s1 on in
    let right : Going = λ s1. on (with_unit (optional_term c.args.x.now.value.snapshot) s1) in
    let e : is_known (held_term c.args.condition) s ≡ true = ap (λ t. is_known (term t) s) (sym c.deref.ensures) ∙ sym c.is_known.ensures ∙ c.if-is_known.true in
    stepped_as p _ _ _ _ _ (fork_left (held_term c.args.condition) s left right e ∙ ap (λ (f : Going). Step (f s)) (sym c.in_ok-left.ensures)) c.go.ensures

pub returns : goal.returns
returns c =
    let p = settled c.args.program.now in
    let s : State = state c.args.state in
    let on : Going = going p c.args.next.now.value in
    let left : Going = λ s1. producing p (assertion c.args.a.now.value) c.args.x.now.value s1 on in
    let right : Going = λ s1. on (with_unit (optional_term c.args.x.now.value.snapshot) s1) in
    let d : Term = held_term c.in_ok-negated.negated in
    let s1 : State = with_branch (held_term c.args.condition) s in
    let s2 : State = with_branch d s in
    let e : is_known (held_term c.args.condition) s ≡ false = ap (λ t. is_known (term t) s) (sym c.deref.ensures) ∙ sym c.is_known.ensures ∙ c.if-is_known.false in
    let f : is_known d s ≡ false = ap (λ t. is_known (term t) s) (sym c.deref-2.ensures) ∙ sym c.is_known-2.ensures ∙ c.if-is_known-2.false in
    stepped_as p _ _ _ _ _
    (fork_both (held_term c.args.condition) d s s1 s2 left right e c.in_ok-negated.ensures f refl refl ∙ ap (λ (g : Going). Fork (g s1) (right s2)) (sym c.in_ok-left.ensures)
    ∙ ap (λ (x : Production). Fork (frame_tree p c.in_ok-left.left s1) (on (with_unit (optional_term x.snapshot) s2))) (sym c.deref-3.ensures)) c.go_both.ensures
