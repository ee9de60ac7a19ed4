use Rattle.std.proofs.Common.{sym, ap, subst, ◌∙◌}
use Rattle.std.proofs.lemmas.Result.{IfOk-weaker}
use Rattle.vx_ast.specs.Syntax.{Program}
use Rattle.vx_machine.specs.Told.{IsReady}
use Rattle.vx_rules.specs.States.{State}
use Rattle.vx_stack.specs.declared.frame.Next.{Next}
use Rattle.vx_stack.specs.Stack.{going}
use Rattle.vx_states.specs.Entering.{back_to}
use Rattle.vx_states.specs.SymStates.{state}
use Rattle.vx_machine.proofs.ready.+ready_next.Goals as goal

pub returns-in_ok-back-in-Back : goal.returns-in_ok-back-in-Back
returns-in_ok-back-in-Back t c =
    let s : State = state c.args.state in
    let s1 : State = state c.back.new.self in
    let same = λ (p : Program).
    ap (λ n. going p n s) (sym c.deref.ensures ∙ c.in-Back.is) ∙ ap (going p c.in-Back.rest.value) (sym (c.in_ok-back-in-Back.ensures ∙ ap (λ y. back_to y s) c.deref-in-Back.ensures)) in
    IfOk-weaker c.ready_next.result (λ r. (p : Program) → IsReady p (going p c.in-Back.rest.value s1) r) (λ r. (p : Program) → IsReady p (going p c.args.next.now.value s) r)
    (λ r h p. subst (λ u. IsReady p u r) (sym (same p)) (h p)) c.ready_next.ensures

pub returns-in_ok-state-in-WriteOver : goal.returns-in_ok-state-in-WriteOver
returns-in_ok-state-in-WriteOver t c =
    let s : State = state c.args.state in
    let s1 : State = state c.in_ok-state-in-WriteOver.state in
    let rest : Next = c.in-WriteOver.rest.value in
    let same = λ (p : Program). ap (λ n. going p n s) (sym c.deref.ensures ∙ c.in-WriteOver.is) ∙ c.in_ok-state-in-WriteOver.ensures p (going p rest) in
    IfOk-weaker c.ready_next-in-WriteOver.result (λ r. (p : Program) → IsReady p (going p rest s1) r) (λ r. (p : Program) → IsReady p (going p c.args.next.now.value s) r)
    (λ r h p. subst (λ u. IsReady p u r) (sym (same p)) (h p)) c.ready_next-in-WriteOver.ensures

pub returns-in-Impossible : goal.returns-in-Impossible
returns-in-Impossible t c = λ p. let s : State = state c.args.state in (s, ap (λ n. going p n s) (sym c.deref.ensures ∙ c.in-Impossible.is))
