use Rattle.vx_heap.specs.Views.{held_term}
use Rattle.vx_resolved.specs.Settled.{settled}
use Rattle.vx_states.specs.SymStates.{state}
use Rattle.vx_stack.proofs.Steps.{stepped_as}
use Rattle.vx_eval.proofs.Sides.{forks}
use Rattle.vx_eval.proofs.operand.step_short.Goals as goal

pub returns-in_ok-done-in-And : goal.returns-in_ok-done-in-And
returns-in_ok-done-in-And c =
    let p = settled c.args.program.now in
    stepped_as p _ _ _ _ _
    (rw c.in-And.is (forks (held_term c.args.value) (state c.args.state) _ _ _ _ (c.in_ok-more.ensures p) (c.in_ok-done-in-And.ensures p))) c.fork.ensures

pub returns-in_ok-done-in-Or : goal.returns-in_ok-done-in-Or
returns-in_ok-done-in-Or c =
    let p = settled c.args.program.now in
    stepped_as p _ _ _ _ _
    (rw c.in-Or.is (forks (held_term c.args.value) (state c.args.state) _ _ _ _ (c.in_ok-done-in-Or.ensures p) (c.in_ok-more.ensures p))) c.fork-in-Or.ensures

pub returns-in_ok-done-in-Implies : goal.returns-in_ok-done-in-Implies
returns-in_ok-done-in-Implies c =
    let p = settled c.args.program.now in
    stepped_as p _ _ _ _ _
    (rw c.in-Implies.is (forks (held_term c.args.value) (state c.args.state) _ _ _ _ (c.in_ok-more.ensures p) (c.in_ok-done-in-Implies.ensures p))) c.fork-in-Implies.ensures
