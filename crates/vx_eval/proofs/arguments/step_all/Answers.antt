use Rattle.std.proofs.Common.{◌∙◌, ◌∷◌, ap, sym}
use Rattle.vx_resolved.specs.Resolved.{expr, exprs}
use Rattle.vx_resolved.specs.Settled.{settled}
use Rattle.vx_rules.specs.Members.{rules}
use Rattle.vx_rules.specs.Rules.{Giving, eval, evals}
use Rattle.vx_rules.specs.Trees.{Step}
use Rattle.vx_states.specs.SymStates.{state}
use Rattle.vx_stack.specs.declared.frame.Row.{Row}
use Rattle.vx_stack.specs.Stack.{giving_all}
use Rattle.vx_stack.proofs.Steps.{stepped_as}
use Rattle.vx_eval.proofs.arguments.step_all.Goals as goal

pub returns-in_ok-clone-in-More-2 : goal.returns-in_ok-clone-in-More-2
returns-in_ok-clone-in-More-2 c =
    let p = settled c.args.program.now in
    let s = state c.args.state in
    let x = c.in-More in
    let row = c.in_ok-clone-in-More-2.field-0.value in
    stepped_as p _ _ _ _ _
    (rw x.is
    (ap (λ (y : Giving). Step (eval p (rules p) (expr x.first.value) s y))
    (sym (ap {B = Giving} (λ y t s1. evals p (rules p) (exprs y) s1 (λ ts s2. Step (giving_all p row (t ∷ ts) s2))) c.in_ok-clone-in-More.ensures.cases
    ∙ ap {B = Giving} (λ (y : Row) t s1. evals p (rules p) (exprs x.others.value) s1 (λ ts s2. Step (giving_all p y (t ∷ ts) s2))) c.in_ok-clone-in-More-2.ensures.cases))))
    c.eval.ensures
