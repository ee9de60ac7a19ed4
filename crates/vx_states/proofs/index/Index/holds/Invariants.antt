use Rattle.std.proofs.Common.{◌≡◌}
use Rattle.vx_states.specs.Index.{finds}
use Rattle.vx_terms.specs.Views.{term}
use Rattle.vx_states.proofs.index.Index.holds.Given as goal

-- what is found in the whole is found in the rest
abbrev pub invariant-loop-rest : goal.invariant-loop-rest
invariant-loop-rest l = finds l.self l.key (term l.t) ≡ finds l.rest l.bits (term l.t)
