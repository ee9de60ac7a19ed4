use Rattle.std.proofs.Common.{◌≤◌}
use Rattle.vx_resolved.specs.declared.Exprs.{size-Exprs}
use Rattle.vx_resolved.proofs.+exprs.Given as goal

-- what is still to be dropped is no more than the whole
abbrev pub invariant-Exprs::drop-loop-self : goal.invariant-Exprs::drop-loop-self
invariant-Exprs::drop-loop-self l = size-Exprs l.self ≤ size-Exprs l.fn.self
