use Rattle.std.proofs.Common.{◌∙◌, ap, sym}
use Rattle.vx_resolved.specs.Settled.{settled}
use Rattle.vx_rules.specs.Rules.{placed}
use Rattle.vx_states.specs.SymStates.{state}
use Rattle.vx_heap.specs.Views.{held_term}
use Rattle.vx_terms.specs.Views.{term}
use Rattle.vx_resolved.specs.Resolved.{exprs}
use Rattle.vx_rules.specs.Members.{rules}
use Rattle.vx_rules.specs.Rules.{Going, GivingAll, ask, evals}
use Rattle.vx_rules.specs.Trees.{AmountCode}
use Rattle.vx_stack.specs.Stack.{going}
use Rattle.vx_terms.specs.Build.{less, zero_amount}
use Rattle.vx_stack.proofs.Steps.{stepped_as}
use Rattle.vx_eval.proofs.Unfolded.{after_arguments}
use Rattle.vx_eval.proofs.operand.step_unfolding.Goals as goal

pub returns : goal.returns
returns c =
    let p = settled c.args.program.now in
    let s = state c.args.state in
    let at = c.args.at in
    let i = c.args.i.now.value in
    let a = held_term c.args.amount.now in
    let value = c.in_ok-clone-2.field-0.value in
    let inside = c.in_ok-inside.inside.value in
    stepped_as p _ _ _ _ _
    (ap (λ (y : GivingAll). ask (less zero_amount a) (placed s at) AmountCode s (λ s1. evals p (rules p) (exprs c.args.es.now.value) s1 y))
    (sym (ap {B = GivingAll} (λ y. after_arguments p at y (term value) (going p inside)) c.in_ok-clone.ensures.cases
    ∙ ap {B = GivingAll} (λ y. after_arguments p at i (term y) (going p inside)) c.in_ok-clone-2.ensures.cases
    ∙ ap {B = GivingAll} (λ (y : Going). after_arguments p at i a y) (c.in_ok-inside.ensures p))))
    c.step_share.ensures
