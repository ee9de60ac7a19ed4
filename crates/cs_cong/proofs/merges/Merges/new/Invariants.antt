use Rattle.std.proofs.Common.{◌≡◌, ℕ, ◌<◌, length}
use Rattle.cs_cong.specs.Trees.{link_at, never}
use Rattle.cs_cong.proofs.merges.Merges.new.Given as goal

abbrev pub invariant-loop-term : goal.invariant-loop-term
invariant-loop-term l = (length l.links.items ≡ l.term) × ((a : ℕ) → a < l.term → link_at l.links.items a ≡ record { to = a; time = never })
