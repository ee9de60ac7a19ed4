use Rattle.std.proofs.Common.{sym, ap, subst}
use Rattle.std.proofs.lemmas.Result.{IfOk-weaker}
use Rattle.vx_ast.specs.Syntax.{Program}
use Rattle.vx_machine.specs.Told.{IsReady}
use Rattle.vx_rules.specs.States.{State}
use Rattle.vx_stack.specs.Stack.{frame_tree, going}
use Rattle.vx_states.specs.SymStates.{state}
use Rattle.vx_machine.proofs.ready.ready_frame.Goals as goal

pub returns-in-Go : goal.returns-in-Go
returns-in-Go c =
    let s : State = state c.args.state in
    let same = λ (p : Program). ap (λ f. frame_tree p f s) c.in-Go.is in
    IfOk-weaker c.ready_next.result (λ r. (p : Program) → IsReady p (going p c.in-Go.next.value s) r) (λ r. (p : Program) → IsReady p (frame_tree p c.args.frame.now s) r)
    (λ r h p. subst (λ u. IsReady p u r) (sym (same p)) (h p)) c.ready_next.ensures
