use Rattle.vx_resolved.specs.Settled.{settled}
use Rattle.vx_exec.proofs.Forms.{executed_is}
use Rattle.vx_exec.proofs.statement.step_executed.Goals as goal

pub returns-in-Assign : goal.returns-in-Assign
returns-in-Assign c = executed_is (settled c.args.program.now) _ _ _ _ _ _ _ _ c.in-Assign.is c.step_assign.ensures

pub returns-in-Assume : goal.returns-in-Assume
returns-in-Assume c = executed_is (settled c.args.program.now) _ _ _ _ _ _ _ _ c.in-Assume.is c.step_assume.ensures

pub returns-in-If : goal.returns-in-If
returns-in-If c = executed_is (settled c.args.program.now) _ _ _ _ _ _ _ _ c.in-If.is (c.fork_made.ensures _ _ c.inner_frame-left.ensures c.inner_frame-right.ensures)

pub returns-in-Write : goal.returns-in-Write
returns-in-Write c = let p = settled c.args.program.now in executed_is p _ _ _ _ _ _ _ _ c.in-Write.is (c.eval_made.ensures _ (c.hole_of_second-hole.ensures p))
