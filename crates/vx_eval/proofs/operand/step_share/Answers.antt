use Rattle.std.proofs.Common.{◌≡◌, ◌∙◌, ap, sym}
use Rattle.vx_resolved.specs.Resolved.{exprs}
use Rattle.vx_resolved.specs.Settled.{settled}
use Rattle.vx_rules.specs.Members.{rules}
use Rattle.vx_rules.specs.Rules.{Going, evals, placed}
use Rattle.vx_rules.specs.Trees.{AmountCode}
use Rattle.vx_states.specs.SymStates.{state}
use Rattle.vx_stack.specs.declared.frame.Row.{Row}
use Rattle.vx_stack.specs.Stack.{giving_all, going}
use Rattle.vx_stack.proofs.Steps.{asks, stepped_as}
use Rattle.vx_terms.specs.Build.{less, zero_amount}
use Rattle.vx_heap.specs.Views.{held_term}
use Rattle.vx_eval.proofs.operand.step_share.Goals as goal

pub returns : goal.returns
returns c =
    let p = settled c.args.program.now in
    let s = state c.args.state in
    let es = c.in_ok-clone.field-0.value in
    let row = c.in_ok-row.row.value in
    let arguments : Going = λ s1. evals p (rules p) (exprs c.args.es.now.value) s1 (giving_all p c.args.row) in
    let on : ◌≡◌ {A = Going} (going p c.in_ok-next.next.value) arguments =
    ap {B = Going} (going p) c.in_ok-next.ensures.ok
    ∙ ap {B = Going} (λ y s1. evals p (rules p) (exprs y) s1 (giving_all p row)) c.in_ok-clone.ensures.cases
    ∙ ap {B = Going} (λ (y : Row) s1. evals p (rules p) (exprs c.args.es.now.value) s1 (giving_all p y)) c.in_ok-row.ensures.ok in
    stepped_as p _ _ _ _ _
    (sym (asks (held_term c.in_ok-condition.condition) (less zero_amount (held_term c.args.amount.now)) c.placed-place.result (placed s c.args.at) AmountCode s (going p c.in_ok-next.next.value) arguments c.in_ok-condition.ensures c.placed-place.ensures on))
    c.ask.ensures
