use Rattle.std.proofs.Common.{◌≡◌, Some, string_bytes, sym, ap, ◌∙◌}
use Rattle.std.specs.declared.alloc.Global.{Global}
use Rattle.std.specs.declared.string.String.{String}
use Rattle.vx_resolved.specs.declared.Expr as expr'
use Rattle.vx_resolved.specs.declared.Function as function'
use Rattle.vx_resolved.specs.Resolved.{expr, function}
use Rattle.vx_resolved.specs.Settled.{settled}
use Rattle.vx_rules.specs.Members.{rules}
use Rattle.vx_rules.specs.Rules.{Giving, eval}
use Rattle.vx_rules.specs.States.{State}
use Rattle.vx_rules.specs.Trees.{Step}
use Rattle.vx_states.specs.SymStates.{optional_term, state}
use Rattle.vx_stack.specs.declared.waiting.Verified.{Verified}
use Rattle.vx_stack.specs.Stack.{concluding}
use Rattle.vx_stack.proofs.Steps.{stepped_as}
use Rattle.vx_funcs.proofs.verified.run.Goals as goal

pub returns : goal.returns
returns c =
    let p = settled c.args.program.now in
    let s : State = state c.args.state in
    let v : Verified = c.args.v.now.value in
    let g = function v.function.value in
    let own : String Global → State = λ name. record s { own = Some (record { function = string_bytes name; measure = optional_term c.args.measure }) } in
    let s1 : State = state c.with_own-state.result in
    let on : Verified → Giving = λ y w z. concluding p y w z in
    let state_is : own v.name.value ≡ s1 = sym (c.with_own-state.ensures ∙ ap own (c.in_ok-clone.ensures.cases ∙ ap (λ (y : Verified). y.name.value) c.deref.ensures)) in
    let body : c.deref-3.result.now.body.value ≡ v.function.value.body.value = ap (λ (y : function'.Function). y.body.value) (c.deref-3.ensures ∙ ap (λ (y : Verified). y.function.value) c.deref-2.ensures) in
    stepped_as p _ _ _ _ _
    (ap (λ (y : State). Step (eval p (rules p) g.body y (on v))) state_is
    ∙ ap (λ (y : expr'.Expr). Step (eval p (rules p) (expr y) s1 (on v))) (sym body)
    ∙ ap (λ (y : Verified). Step (eval p (rules p) (expr c.deref-3.result.now.body.value) s1 (on y))) (sym c.in_ok-clone-2.ensures.cases)) c.eval.ensures
