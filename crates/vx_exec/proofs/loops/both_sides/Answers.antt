use Rattle.std.proofs.Common.{◌≡◌, sym, ap, ◌∙◌}
use Rattle.vx_resolved.specs.Settled.{settled}
use Rattle.vx_terms.specs.Build.{negate}
use Rattle.vx_rules.specs.States.{State, with_branch}
use Rattle.vx_rules.specs.Trees.{Step, Fork}
use Rattle.vx_rules.specs.Rules.{Giving, Going}
use Rattle.vx_states.specs.SymStates.{state}
use Rattle.vx_stack.specs.declared.waiting.Loop.{Loop}
use Rattle.vx_stack.specs.Stack.{frame_tree, from_invariant, going, iterated}
use Rattle.vx_stack.proofs.Steps.{stepped_as}
use Rattle.vx_exec.proofs.loops.both_sides.Goals as goal

pub returns : goal.returns
returns c =
    let p = settled c.args.program.now in
    let l : Loop = c.args.it.now.value in
    let first : State = state c.args.first in
    let second : State = state c.args.second in
    let pass : Giving = λ u z. Step (going p c.args.next.now.value (with_branch (negate u) z)) in
    let within : Going = λ z. from_invariant p l z (iterated p l c.args.kept) in
    let behind : Going = λ z. from_invariant p l z pass in
    let left : frame_tree p c.in_ok-left.left ≡ within =
    c.in_ok-left.ensures
    ∙ ap {B = Going} (λ (x : Loop) z. from_invariant p x z (iterated p c.in_ok-clone.field-0.value c.args.kept)) c.deref.ensures
    ∙ ap {B = Going} (λ (x : Loop) z. from_invariant p l z (iterated p x c.args.kept)) c.in_ok-clone.ensures.cases in
    let right : frame_tree p c.in_ok-right.right ≡ behind = c.in_ok-right.ensures ∙ ap {B = Going} (λ (x : Loop) z. from_invariant p x z pass) c.deref-2.ensures in
    stepped_as p _ _ _ _ _
    (sym (ap (λ (g : Going). Fork (g first) (frame_tree p c.in_ok-right.right second)) left ∙ ap (λ (g : Going). Fork (within first) (g second)) right)) c.both.ensures
