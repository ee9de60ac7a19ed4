use Rattle.std.proofs.Common.{◌≡◌, Some, string_bytes, ap, ◌∙◌}
use Rattle.vx_ast.specs.Syntax.{joined}
use Rattle.vx_heap.specs.Views.{held_term}
use Rattle.vx_resolved.specs.declared.Function as function'
use Rattle.vx_resolved.specs.Resolved.{assertion, function}
use Rattle.vx_resolved.specs.Settled.{settled}
use Rattle.vx_terms.specs.Build.{whole_amount}
use Rattle.vx_states.specs.SymStates.{optional_term}
use Rattle.vx_rules.specs.Members.{from_measure, rules}
use Rattle.vx_rules.specs.Rules.{Going}
use Rattle.vx_stack.specs.declared.waiting.Production.{Production}
use Rattle.vx_stack.specs.declared.waiting.Verified.{Verified}
use Rattle.vx_stack.specs.Stack.{going}
use Rattle.vx_stack.proofs.Steps.{produces}
use Rattle.vx_funcs.proofs.verified.first_part.Goals as goal

pub returns : goal.returns
returns c s =
    let p = settled c.args.program.now in
    let v : Verified = c.args.v.now.value in
    let g = function v.function.value in
    let all : assertion c.in_ok-all.all.value ≡ joined g.place g.requires =
    c.in_ok-all.ensures ∙ ap (λ (y : function'.Function). joined (function y).place (function y).requires) (c.deref-2.ensures ∙ ap (λ (y : Verified). y.function.value) c.deref.ensures) in
    let on : Going = from_measure p (rules p) (string_bytes v.name.value) g g.decreases in
    let k : going p c.in_ok-measure.measure.value ≡ on =
    ap (going p) c.in_ok-measure.ensures.ok
    ∙ ap {B = Going} (λ (y : Verified). from_measure p (rules p) (string_bytes y.name.value) (function y.function.value) (function y.function.value).decreases) c.in_ok-clone.ensures.cases in
    let made = c.in_ok-production.ensures.ok in
    ap (λ n. going p n s) c.in_ok-new.ensures.ok
    ∙ ap (λ f. f s)
    (produces p (assertion c.in_ok-all.all.value) (joined g.place g.requires) c.in_ok-production.production.value whole_amount (Some (held_term c.args.snapshot)) (going p c.in_ok-measure.measure.value) on
    all (ap (λ (y : Production). held_term y.scale) made ∙ c.in_ok-scale.ensures) (ap (λ (y : Production). optional_term y.snapshot) made) k)
