use Rattle.std.proofs.Common.{◌≡◌, ap, ◌∙◌}
use Rattle.vx_ast.specs.Syntax.{Assertion, joined}
use Rattle.vx_resolved.specs.Resolved.{assertion, assertions, block}
use Rattle.vx_heap.specs.Views.{held_term}
use Rattle.vx_terms.specs.Build.{whole_amount}
use Rattle.vx_resolved.specs.Settled.{settled}
use Rattle.vx_rules.specs.States.{State}
use Rattle.vx_rules.specs.Trees.{PostCode, End}
use Rattle.vx_rules.specs.Rules.{Giving, Going, consume}
use Rattle.vx_rules.specs.Members.{codes, exec_all, rules}
use Rattle.vx_states.specs.SymStates.{state}
use Rattle.vx_stack.specs.Stack.{giving, going}
use Rattle.vx_stack.proofs.Steps.{consumes}
use Rattle.vx_members.proofs.member.body_side.Goals as goal

pub returns : goal.returns
returns c =
    let p = settled c.args.program.now in
    let m = c.args.m.now in
    let s = state c.args.state in
    let all : Assertion = joined m.place (assertions m.postconditions.items) in
    let a : assertion c.in_ok-all.all.value ≡ all = c.in_ok-all.ensures ∙ ap (λ l. joined m.place (assertions l)) c.deref.ensures.value in
    let end : Giving = λ t s2. End in
    let f : giving p c.in_ok-finish.finish.value ≡ end = ap (giving p) c.in_ok-finish.ensures.ok in
    let after : Going = λ (s1 : State). consume p (rules p) all (codes PostCode PostCode) whole_amount s1.heap s1 end in
    let k : going p c.in_ok-after.after.value ≡ after =
    ap (going p) c.in_ok-after.ensures.ok
    ∙ consumes p (assertion c.in_ok-all.all.value) all (codes PostCode PostCode) (held_term c.in_ok-whole.whole) whole_amount (giving p c.in_ok-finish.finish.value) end a c.in_ok-whole.ensures f in
    ap (λ n. going p n s) c.in_ok-next.ensures.ok
    ∙ ap (λ b. exec_all p (rules p) (block b) s (going p c.in_ok-after.after.value)) c.in_ok-clone.ensures.cases
    ∙ ap (exec_all p (rules p) (block c.args.body.now.value) s) k
