use Rattle.std.proofs.Common.{ap, ◌∙◌}
use Rattle.vx_resolved.specs.Settled.{settled}
use Rattle.vx_stack.specs.Stack.{going}
use Rattle.vx_exec.proofs.loops.kept_again.Goals as goal

pub returns : goal.returns
returns c = let p = settled c.args.program.now in ap (going p) c.in_ok-new.ensures.ok ∙ c.in_ok-again.ensures p
