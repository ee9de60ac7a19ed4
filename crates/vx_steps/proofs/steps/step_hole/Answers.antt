use Rattle.std.proofs.Common.{refl}
use Rattle.vx_resolved.specs.Settled.{settled}
use Rattle.vx_stack.proofs.Steps.{stepped_as}
use Rattle.vx_steps.proofs.steps.step_hole.Goals as goal

pub returns-in-Operand : goal.returns-in-Operand
returns-in-Operand c = stepped_as (settled c.args.program.now) _ _ _ _ _ (rw c.in-Operand.is refl) c.step_operand.ensures

pub returns-in-Consumed : goal.returns-in-Consumed
returns-in-Consumed c = stepped_as (settled c.args.program.now) _ _ _ _ _ (rw c.in-Consumed.is refl) c.step_consumed.ensures

pub returns-in-Produced : goal.returns-in-Produced
returns-in-Produced c = stepped_as (settled c.args.program.now) _ _ _ _ _ (rw c.in-Produced.is refl) c.step_produced.ensures

pub returns-in-Argument : goal.returns-in-Argument
returns-in-Argument c = stepped_as (settled c.args.program.now) _ _ _ _ _ (rw c.in-Argument.is refl) c.step_argument.ensures
