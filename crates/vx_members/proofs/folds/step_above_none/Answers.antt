use Rattle.std.proofs.Common.{◌≡◌, refl, sym, ap, ◌∙◌}
use Rattle.vx_resolved.specs.declared.Exprs as exprs'
use Rattle.vx_resolved.specs.Resolved.{exprs}
use Rattle.vx_resolved.specs.Settled.{settled}
use Rattle.vx_heap.specs.Views.{held_term}
use Rattle.vx_terms.specs.Build.{less, zero_amount}
use Rattle.vx_rules.specs.States.{State}
use Rattle.vx_rules.specs.Trees.{AmountCode}
use Rattle.vx_rules.specs.Rules.{Going, evals}
use Rattle.vx_rules.specs.Members.{rules}
use Rattle.vx_states.specs.SymStates.{state}
use Rattle.vx_stack.specs.declared.frame.Row.{Row}
use Rattle.vx_stack.specs.Stack.{giving_all, going}
use Rattle.vx_stack.proofs.Steps.{asks, stepped_as}
use Rattle.vx_members.proofs.folds.step_above_none.Goals as goal

pub returns : goal.returns
returns c =
    let p = settled c.args.program.now in
    let s : State = state c.args.state in
    let on : Going = λ z. evals p (rules p) (exprs c.args.arguments.now.value) z (giving_all p c.args.row) in
    let rest : going p c.in_ok-rest.rest.value ≡ on =
    ap (going p) c.in_ok-rest.ensures.ok
    ∙ ap {B = Going} (λ (y : exprs'.Exprs) z. evals p (rules p) (exprs y) z (giving_all p c.in_ok-row.row.value)) c.in_ok-clone.ensures.cases
    ∙ ap {B = Going} (λ (y : Row) z. evals p (rules p) (exprs c.args.arguments.now.value) z (giving_all p y)) c.in_ok-row.ensures.ok in
    stepped_as p _ _ _ _ _
    (sym (asks (held_term c.in_ok-allowed.allowed) (less zero_amount (held_term c.args.amount.now)) c.args.place c.args.place AmountCode s (going p c.in_ok-rest.rest.value) on c.in_ok-allowed.ensures refl rest)) c.ask.ensures
