use Rattle.std.proofs.Common.{◌≤◌}
use Rattle.vx_resolved.specs.declared.Block.{size-Block}
use Rattle.vx_resolved.proofs.+resolved.Given as goal

-- what is still to be dropped is no more than the whole
abbrev pub invariant-Block::drop-loop-self : goal.invariant-Block::drop-loop-self
invariant-Block::drop-loop-self l = size-Block l.self ≤ size-Block l.fn.self
