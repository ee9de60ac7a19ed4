use Rattle.std.proofs.Common.{◌≡◌, ℕ, ◌-◌, ◌+◌, vec_len}
use Rattle.cs_search.specs.Rows.{row}
use Rattle.cs_search.proofs.rows.reach.Given as goal

abbrev pub invariant-loop-alloc : goal.invariant-loop-alloc
invariant-loop-alloc l = (s : ℕ) → row l.rows.items s ≡ row l.initial.rows.items s

abbrev pub decreases-loop-alloc : goal.decreases-loop-alloc
decreases-loop-alloc l = (l.at + 1) - vec_len l.rows
