use Rattle.std.proofs.Common.{ap, sym}
use Rattle.vx_resolved.specs.Resolved.{method}
use Rattle.vx_resolved.specs.Settled.{settled}
use Rattle.vx_rules.specs.Members.{both_sides, rules}
use Rattle.vx_stack.proofs.Steps.{stepped_as}
use Rattle.vx_steps.proofs.steps.step_method.Goals as goal

pub returns : goal.returns
returns c =
    let p = settled c.args.program.now in
    stepped_as p _ _ _ _ _ (ap (both_sides p (rules p) (method c.args.m.now)) (sym c.in_ok-keep_old.ensures)) c.step_both_sides.ensures
