use Rattle.std.proofs.Common.{◌≡◌}
use Rattle.vx_terms.specs.Views.{term}
use Rattle.vx_states.specs.Keys.{key_of}
use Rattle.vx_states.specs.Index.{down}
use Rattle.vx_states.proofs.index.key_below.Given as goal

-- so many bits are gone
abbrev pub invariant-loop-bit : goal.invariant-loop-bit
invariant-loop-bit l = l.rest ≡ down l._bit (key_of (term l.t) 4)
