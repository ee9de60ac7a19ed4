use Rattle.std.proofs.Common.{sym}
use Rattle.vx_heap.specs.Views.{heap, held_term}
use Rattle.vx_resolved.specs.Resolved.{assertion}
use Rattle.vx_resolved.specs.Settled.{settled}
use Rattle.vx_terms.specs.Build.{unit}
use Rattle.vx_rules.specs.States.{State, with_heap}
use Rattle.vx_rules.specs.Rules.{Giving, Going}
use Rattle.vx_states.specs.SymStates.{state}
use Rattle.vx_stack.specs.Stack.{consuming, frame_tree, giving}
use Rattle.vx_stack.proofs.Steps.{stepped_as}
use Rattle.vx_consume.proofs.Trees.{forks}
use Rattle.vx_consume.proofs.sides.step_implied.Goals as goal

pub returns : goal.returns
returns c =
    let p = settled c.args.program.now in
    let s : State = state c.args.state in
    let on : Giving = giving p c.args.hole.now.value in
    let past : Going = on unit in
    stepped_as p _ _ _ _ _
    (sym (forks (held_term c.args.condition) (state c.in_ok-state.state) (with_heap (heap c.args.heap.now.value) s)
    (frame_tree p c.in_ok-left.left) (λ z. consuming p (assertion c.args.a.now.value) c.args.x.now.value z on)
    (frame_tree p c.in_ok-right.right) past c.in_ok-state.ensures c.in_ok-left.ensures c.in_ok-right.ensures)) c.fork.ensures
