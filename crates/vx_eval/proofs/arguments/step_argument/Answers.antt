use Rattle.std.proofs.Common.{◌∙◌, ◌∷◌, ap, sym}
use Rattle.vx_resolved.specs.Resolved.{exprs}
use Rattle.vx_resolved.specs.Settled.{settled}
use Rattle.vx_rules.specs.Members.{rules}
use Rattle.vx_rules.specs.Rules.{GivingAll, evals}
use Rattle.vx_rules.specs.Trees.{Step}
use Rattle.vx_states.specs.SymStates.{state}
use Rattle.vx_stack.specs.declared.frame.Row.{Row}
use Rattle.vx_stack.specs.Stack.{giving_all}
use Rattle.vx_stack.proofs.Steps.{stepped_as}
use Rattle.vx_heap.specs.Views.{held_term}
use Rattle.vx_eval.proofs.arguments.step_argument.Goals as goal

pub returns : goal.returns
returns c =
    let p = settled c.args.program.now in
    let s = state c.args.state in
    let t = held_term c.args.value in
    let row = c.in_ok-row.row.value in
    stepped_as p _ _ _ _ _
    (sym (ap (λ y. evals p (rules p) (exprs y) s (giving_all p row)) c.deref.ensures
    ∙ ap (λ (y : GivingAll). evals p (rules p) (exprs c.args.es.now.value) s y)
    (ap {B = GivingAll} (giving_all p) c.in_ok-row.ensures.ok
    ∙ ap {B = GivingAll} (λ (y : Row) ts s1. Step (giving_all p y (t ∷ ts) s1)) c.in_ok-clone.ensures.cases)))
    c.step_all.ensures
