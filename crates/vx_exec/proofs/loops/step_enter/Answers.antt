use Rattle.std.proofs.Common.{◌≡◌, [], sym, ap, ◌∙◌}
use Rattle.vx_ast.specs.Syntax.{assigned_in}
use Rattle.vx_resolved.specs.Resolved.{block}
use Rattle.vx_resolved.specs.Settled.{settled}
use Rattle.vx_terms.specs.Build.{negate}
use Rattle.vx_rules.specs.States.{State, with_branch, with_heap}
use Rattle.vx_rules.specs.Trees.{Step, Fork}
use Rattle.vx_rules.specs.Members.{forget}
use Rattle.vx_rules.specs.Rules.{Giving, Going}
use Rattle.vx_states.specs.SymStates.{state}
use Rattle.vx_stack.specs.declared.waiting.Loop.{Loop}
use Rattle.vx_stack.specs.Stack.{forgotten, from_invariant, going, iterated}
use Rattle.vx_stack.proofs.Steps.{stepped_as}
use Rattle.vx_exec.proofs.loops.step_enter.Goals as goal

pub returns : goal.returns
returns c =
    let p = settled c.args.program.now in
    let l : Loop = c.args.it.now.value in
    let s : State = state c.args.state in
    let second : State = state c.forget_assigned.new.self in
    let pass : Giving = λ u z. Step (going p c.args.next.now.value (with_branch (negate u) z)) in
    let within : Going = λ z. from_invariant p l z (iterated p l c.args.kept) in
    let behind : Going = λ z. from_invariant p l z pass in
    let e : second ≡ forgotten p l s =
    c.in_ok-forget_assigned.ensures ∙ ap (λ b. forget [] (assigned_in (block b)) s) c.deref-2.ensures ∙ ap (λ (x : Loop). forgotten p x s) c.deref.ensures in
    let f : state c.in_ok-first.first ≡ with_heap [] (forgotten p l s) = c.in_ok-first.ensures ∙ ap (with_heap []) e in
    stepped_as p _ _ _ _ _
    (sym (ap (λ z. Fork (within z) (behind second)) f ∙ ap (λ z. Fork (within (with_heap [] (forgotten p l s))) (behind z)) e)) c.both_sides.ensures
