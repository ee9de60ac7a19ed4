use Rattle.std.proofs.Common.{◌≡◌, true, ap, ◌∙◌}
use Rattle.vx_ast.specs.Syntax.{joined}
use Rattle.vx_resolved.specs.declared.Function as function'
use Rattle.vx_resolved.specs.Resolved.{assertion, function}
use Rattle.vx_resolved.specs.Settled.{settled}
use Rattle.vx_heap.specs.Views.{held_term}
use Rattle.vx_terms.specs.Build.{whole_amount}
use Rattle.vx_rules.specs.Trees.{FunctionCode}
use Rattle.vx_rules.specs.Rules.{Context, Giving}
use Rattle.vx_stack.specs.declared.frame.Hole.{Hole}
use Rattle.vx_stack.specs.declared.waiting.Application.{Application}
use Rattle.vx_stack.specs.declared.waiting.Operand.TheVariants as operand'
use Rattle.vx_stack.specs.Stack.{giving, operand}
use Rattle.vx_stack.proofs.Steps.{consumes}
use Rattle.vx_funcs.proofs.Parts.{applied_of}
use Rattle.vx_funcs.proofs.apply.taking_precondition.Goals as goal

pub returns : goal.returns
returns c =
    let p = settled c.args.program.now in
    let x : Application = c.args.x.now.value in
    let g = function x.function.value in
    let taking : Context = record { pure = FunctionCode; permission = FunctionCode; builds = true } in
    let on : Giving = operand p (operand'.Applied c.args.x.now c.args.caller c.args.heap) (giving p c.args.hole.now.value) in
    let k : giving p c.in_ok-hole.hole.value ≡ on =
    ap (giving p) c.in_ok-hole.ensures.ok
    ∙ ap {B = Giving} (λ (y : Application). applied_of p y c.args.caller c.args.heap (giving p c.in_ok-clone-2.field-0.value)) c.in_ok-clone.ensures.cases
    ∙ ap {B = Giving} (λ (y : Hole). applied_of p x c.args.caller c.args.heap (giving p y)) c.in_ok-clone-2.ensures.cases in
    let all : assertion c.in_ok-all.all.value ≡ joined g.place g.requires =
    c.in_ok-all.ensures ∙ ap (λ (y : function'.Function). joined (function y).place (function y).requires) (c.deref-2.ensures ∙ ap (λ (y : Application). y.function.value) c.deref.ensures) in
    consumes p (assertion c.in_ok-all.all.value) (joined g.place g.requires) taking (held_term c.in_ok-whole.whole) whole_amount (giving p c.in_ok-hole.hole.value) on all c.in_ok-whole.ensures k
