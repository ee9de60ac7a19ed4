use Rattle.std.proofs.Common.{◌≡◌, length, map, sym, ◌∙◌}
use Rattle.std.proofs.lemmas.List.{length-map}
use Rattle.vx_ast.specs.Syntax.{joined}
use Rattle.vx_resolved.specs.Resolved.{expr, assertions, block}
use Rattle.vx_resolved.specs.Settled.{settled}
use Rattle.vx_rules.specs.States.{State}
use Rattle.vx_rules.specs.Rules.{Going}
use Rattle.vx_states.specs.SymStates.{binding, state}
use Rattle.vx_stack.specs.Stack.{going}
use Rattle.vx_stack.proofs.Steps.{stepped_as}
use Rattle.vx_exec.proofs.Iterations.{loops}
use Rattle.vx_exec.proofs.loops.step_while.Goals as goal

pub returns : goal.returns
returns c =
    let p = settled c.args.program.now in
    let s : State = state c.args.state in
    let on : Going = going p c.args.next.now.value in
    let k : c.len.result ≡ length (map binding c.args.state.store.items) = c.len.ensures ∙ c.args.state.store.ok.0 ∙ sym (length-map c.args.state.store.items binding) in
    stepped_as p _ _ _ _ _
    (sym (loops p c.in_ok-it.it.value (expr c.args.condition.now.value) (joined c.args.place (assertions c.args.invariants.now)) (block c.args.body.now.value) c.len.result (length (map binding c.args.state.store.items)) s on
    c.in_ok-it.ensures.condition c.in_ok-it.ensures.invariant c.in_ok-it.ensures.body k)) (c.next_made.ensures _ c.entry-enter.ensures)
