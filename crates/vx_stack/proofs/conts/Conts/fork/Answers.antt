use Rattle.std.proofs.Common.{◌≡◌, true, false, refl, ap, sym, subst, ◌∙◌}
use Rattle.std.proofs.lemmas.Result.{IfOk-from_err}
use Rattle.vx_terms.specs.Terms.{Term}
use Rattle.vx_heap.specs.Views.{held_term}
use Rattle.vx_terms.specs.Views.{term}
use Rattle.vx_terms.specs.Build.{negate}
use Rattle.vx_resolved.specs.Settled.{settled}
use Rattle.vx_rules.specs.States.{State, is_known}
use Rattle.vx_rules.specs.Trees.{Step}
use Rattle.vx_rules.specs.Rules.{Going, fork}
use Rattle.vx_states.specs.SymStates.{state}
use Rattle.vx_stack.specs.Stack.{frame_tree}
use Rattle.vx_stack.proofs.Steps.{fork_both, stepped_as}
use Rattle.vx_stack.proofs.conts.Conts.fork.Goals as goal

first_known : (c : Term) (s : State) (left right : Going) → is_known c s ≡ true → fork c s left right ≡ Step (left s)
first_known c s left right e = rw e refl

second_known : (c d : Term) (s : State) (left right : Going) → is_known c s ≡ false → d ≡ negate c → is_known d s ≡ true → fork c s left right ≡ Step (right s)
second_known c d s left right e n f = let g : is_known (negate c) s ≡ true = subst (λ x. is_known x s ≡ true) n f in rw (e, g) refl

pub returns : goal.returns
returns c =
    let p = settled c.args.program.now in
    let c' : Term = held_term c.args.condition in
    let d' : Term = held_term c.in_ok-negated.negated in
    let s' : State = state c.args.state in
    let e1 : is_known c' s' ≡ false = ap (λ x. is_known (term x) s') (sym c.deref.ensures) ∙ sym c.is_known.ensures ∙ c.if-is_known.false in
    let e2 : d' ≡ negate c' = c.in_ok-negated.ensures in
    let e3 : is_known d' s' ≡ false = ap (λ x. is_known (term x) s') (sym c.deref-2.ensures) ∙ sym c.is_known-2.ensures ∙ c.if-is_known-2.false in
    stepped_as p _ _ _ _ _ (fork_both c' d' s' _ _ (frame_tree p c.args.left) (frame_tree p c.args.right) e1 e2 e3 c.in_ok-first.ensures.first c.in_ok-first.ensures.second) c.push_both.ensures

pub returns-in_err-negated : goal.returns-in_err-negated
returns-in_err-negated c = IfOk-from_err _ _ c.from_residual.ensures.0

pub returns-in_err-first : goal.returns-in_err-first
returns-in_err-first c = IfOk-from_err _ _ c.from_residual-in_err-first.ensures.0

pub returns-then-is_known : goal.returns-then-is_known
returns-then-is_known c =
    let p = settled c.args.program.now in
    let c' : Term = held_term c.args.condition in
    let s' : State = state c.args.state in
    let e1 : is_known c' s' ≡ true = ap (λ x. is_known (term x) s') (sym c.deref.ensures) ∙ sym c.is_known.ensures ∙ c.if-is_known.true in
    stepped_as p _ _ _ _ _ (first_known c' s' (frame_tree p c.args.left) (frame_tree p c.args.right) e1) c.go.ensures

pub returns-then-is_known-2 : goal.returns-then-is_known-2
returns-then-is_known-2 c =
    let p = settled c.args.program.now in
    let c' : Term = held_term c.args.condition in
    let d' : Term = held_term c.in_ok-negated.negated in
    let s' : State = state c.args.state in
    let e1 : is_known c' s' ≡ false = ap (λ x. is_known (term x) s') (sym c.deref.ensures) ∙ sym c.is_known.ensures ∙ c.if-is_known.false in
    let e2 : d' ≡ negate c' = c.in_ok-negated.ensures in
    let e3 : is_known d' s' ≡ true = ap (λ x. is_known (term x) s') (sym c.deref-2.ensures) ∙ sym c.is_known-2.ensures ∙ c.if-is_known-2.true in
    stepped_as p _ _ _ _ _ (second_known c' d' s' (frame_tree p c.args.left) (frame_tree p c.args.right) e1 e2 e3) c.go-then-is_known-2.ensures
