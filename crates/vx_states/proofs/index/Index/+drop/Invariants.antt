use Rattle.std.proofs.Common.{◌≤◌}
use Rattle.vx_states.specs.declared.index.Index.{size-Index}
use Rattle.vx_states.proofs.index.Index.+drop.Given as goal

-- what is still to be let go is no more than the whole
abbrev pub invariant-loop-self : goal.invariant-loop-self
invariant-loop-self l = size-Index l.self ≤ size-Index l.fn.self
