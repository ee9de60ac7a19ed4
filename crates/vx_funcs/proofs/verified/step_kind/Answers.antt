use Rattle.std.proofs.Common.{Some, string_bytes, sym, ap, ◌∙◌}
use Rattle.std.specs.declared.alloc.Global.{Global}
use Rattle.std.specs.declared.string.String.{String}
use Rattle.vx_resolved.specs.Resolved.{expr, exprs, function, measure}
use Rattle.vx_resolved.specs.Settled.{settled}
use Rattle.vx_rules.specs.Members.{from_measure, rules}
use Rattle.vx_rules.specs.Rules.{eval, evals}
use Rattle.vx_rules.specs.States.{State}
use Rattle.vx_rules.specs.Trees.{Step}
use Rattle.vx_states.specs.SymStates.{state}
use Rattle.vx_stack.specs.declared.waiting.Verified.{Verified}
use Rattle.vx_stack.specs.Stack.{rooted_at, verified_body}
use Rattle.vx_stack.proofs.Steps.{stepped_as}
use Rattle.vx_funcs.proofs.verified.step_kind.Goals as goal

pub returns-in_ok-clone-in-Number : goal.returns-in_ok-clone-in-Number
returns-in_ok-clone-in-Number c =
    let p = settled c.args.program.now in
    let s : State = state c.args.state in
    let v : Verified = c.args.v.now.value in
    let g = function v.function.value in
    let it = c.in-Number in
    let is = ap (λ y. Some (measure y)) it.is in
    stepped_as p _ _ _ _ _
    (ap (λ m. from_measure p (rules p) (string_bytes v.name.value) g m s) is
    ∙ ap (λ (y : Verified). Step (eval p (rules p) (expr it.e.value) s (λ t z. verified_body p y (Some t) z))) (sym c.in_ok-clone-in-Number.ensures.cases)) c.eval.ensures

pub returns-in_ok-clone-in-Instance-2 : goal.returns-in_ok-clone-in-Instance-2
returns-in_ok-clone-in-Instance-2 c =
    let p = settled c.args.program.now in
    let s : State = state c.args.state in
    let v : Verified = c.args.v.now.value in
    let g = function v.function.value in
    let it = c.in-Instance in
    let v1 : Verified = c.in_ok-clone-in-Instance.field-0.value in
    let is = ap (λ y. Some (measure y)) it.is in
    stepped_as p _ _ _ _ _
    (ap (λ m. from_measure p (rules p) (string_bytes v.name.value) g m s) is
    ∙ ap (λ (y : Verified). Step (evals p (rules p) (exprs it.es.value) s (λ ts z. rooted_at p y it.place (string_bytes it.predicate.value) ts z))) (sym c.in_ok-clone-in-Instance.ensures.cases)
    ∙ ap (λ (y : String Global). Step (evals p (rules p) (exprs it.es.value) s (λ ts z. rooted_at p v1 it.place (string_bytes y) ts z))) (sym c.in_ok-clone-in-Instance-2.ensures.cases)) c.evals.ensures
