use Rattle.std.proofs.Common.{◌≤◌}
use Rattle.vx_stack.specs.declared.frame.Next.{size-Next}
use Rattle.vx_stack.specs.declared.frame.Hole.{size-Hole}
use Rattle.vx_stack.specs.declared.frame.Row.{size-Row}
use Rattle.vx_stack.proofs.frame.+frames.Given as goal

-- what is still to be let go is no more than the whole
abbrev pub invariant-Next::drop-loop-self : goal.invariant-Next::drop-loop-self
invariant-Next::drop-loop-self l = size-Next l.self ≤ size-Next l.fn.self

abbrev pub invariant-Hole::drop-loop-self : goal.invariant-Hole::drop-loop-self
invariant-Hole::drop-loop-self l = size-Hole l.self ≤ size-Hole l.fn.self

abbrev pub invariant-Row::drop-loop-self : goal.invariant-Row::drop-loop-self
invariant-Row::drop-loop-self l = size-Row l.self ≤ size-Row l.fn.self
