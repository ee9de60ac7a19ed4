use Rattle.std.proofs.Common.{◌≡◌, ◌≤◌, length, take}
use Rattle.cs_cong.proofs.merges.Merges.back_to.Given as goal

abbrev pub invariant-loop-self : goal.invariant-loop-self
invariant-loop-self l = (l.len ≤ length l.self.log.items) × (length l.self.links.items ≡ length l.fn.self.links.items) × (take l.len l.self.log.items ≡ take l.len l.fn.self.log.items)

abbrev pub decreases-loop-self : goal.decreases-loop-self
decreases-loop-self l = length l.self.log.items
