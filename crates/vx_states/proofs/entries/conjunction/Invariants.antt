use Rattle.std.proofs.Common.{◌≡◌, drop, map}
use Rattle.vx_heap.specs.Views.{held_term}
use Rattle.vx_rules.specs.States.{joined_onto, conjunction}
use Rattle.vx_states.specs.Views.{entry}
use Rattle.vx_states.proofs.entries.conjunction.Given as goal

abbrev pub invariant-loop-e : goal.invariant-loop-e
invariant-loop-e l = joined_onto (held_term l.all) l.branches (map entry (drop l.e-index l.those)) ≡ conjunction l.branches (map entry l.those)
