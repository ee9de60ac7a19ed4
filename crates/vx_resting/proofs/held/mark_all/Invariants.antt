use Rattle.std.proofs.Common.{◌≡◌, ℕ, take}
use Rattle.vx_graph.specs.Listed.{is_in}
use Rattle.vx_resting.specs.Held.{held_at, or_held_by}
use Rattle.vx_resting.proofs.held.mark_all.Given as goal

abbrev pub invariant-loop-member : goal.invariant-loop-member
invariant-loop-member l = (n : ℕ) → held_at l.held n ≡ or_held_by (held_at l.initial.held n) (is_in (take l.member-index l.members) n) l.by
