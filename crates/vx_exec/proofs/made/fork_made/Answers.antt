use Rattle.std.proofs.Common.{◌≡◌, IfOk, ap, subst, sym, ◌∙◌}
use Rattle.vx_heap.specs.Views.{held_term}
use Rattle.vx_resolved.specs.Settled.{settled}
use Rattle.vx_rules.specs.Rules.{Going, fork}
use Rattle.vx_states.specs.SymStates.{state}
use Rattle.vx_stack.specs.Stack.{frame_tree}
use Rattle.vx_stack.proofs.Steps.{stepped_as}
use Rattle.vx_exec.proofs.made.fork_made.Goals as goal

pub returns : goal.returns
returns c = λ a b f g.
    let p = settled c.args.program.now in
    let t = held_term c.args.condition in
    let s = state c.args.state in
    let left : frame_tree p c.in_ok-left.field-0 ≡ a = subst (λ r. IfOk r (λ x. frame_tree p x ≡ a)) c.in_ok-left.was f in
    let right : frame_tree p c.in_ok-right.field-0 ≡ b = subst (λ r. IfOk r (λ x. frame_tree p x ≡ b)) c.in_ok-right.was g in
    stepped_as p _ _ _ _ _ (ap (λ (y : Going). fork t s y b) (sym left) ∙ ap (λ (y : Going). fork t s (frame_tree p c.in_ok-left.field-0) y) (sym right)) c.fork.ensures
