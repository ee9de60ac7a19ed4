use Rattle.std.proofs.Common.{ap}
use Rattle.vx_rules.specs.Rules.{Giving}
use Rattle.vx_stack.specs.declared.frame.Next.{Next}
use Rattle.vx_stack.specs.Stack.{executed, going}
use Rattle.vx_exec.proofs.waits.hole_of.Goals as goal

pub returns : goal.returns
returns c = λ p. ap {B = Giving} (λ (n : Next). executed p c.args.waits (going p n)) c.in_ok-clone.ensures.cases
