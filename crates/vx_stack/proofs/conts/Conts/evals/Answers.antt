use Rattle.std.proofs.Common.{ap, sym, ◌∙◌}
use Rattle.vx_resolved.specs.Resolved.{exprs}
use Rattle.vx_resolved.specs.Settled.{settled}
use Rattle.vx_rules.specs.Members.{rules}
use Rattle.vx_rules.specs.Rules.{evals}
use Rattle.vx_rules.specs.Trees.{Step}
use Rattle.vx_states.specs.SymStates.{state}
use Rattle.vx_stack.specs.Stack.{giving_all}
use Rattle.vx_stack.proofs.Steps.{stepped_as}
use Rattle.vx_stack.proofs.conts.Conts.evals.Goals as goal

pub returns : goal.returns
returns c =
    let p = settled c.args.program.now in
    let s = state c.args.state in
    let es = c.in_ok-clone.field-0.value in
    stepped_as p _ _ _ _ _
    (ap (λ y. Step (evals p (rules p) (exprs y) s (giving_all p c.args.row))) (sym c.in_ok-clone.ensures.cases)
    ∙ ap (λ y. Step (evals p (rules p) (exprs es) s (giving_all p y))) (sym c.in_ok-row.ensures.ok))
    c.next.ensures
