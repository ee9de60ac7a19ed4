use Rattle.std.proofs.Common.{◌≡◌, ℕ, ◌<◌, ◌≤◌, ◌-◌, ◌^◌, min, length}
use Rattle.cs_cong.specs.Merged.{representative}
use Rattle.cs_cong.specs.Trees.{link_at}
use Rattle.cs_cong.proofs.merges.Merges.parting.Given as goal

abbrev pub invariant-climb : goal.invariant-climb
invariant-climb l = record {
  left : l.left < length l.self.links.items;
  right : l.right < length l.self.links.items;
  apart : l.left ≡ l.right → ⊥;
  since : (c : ℕ) × (c ≤ l.time) × (representative l.self.log.items c l.a ≡ l.left) × (representative l.self.log.items c l.b ≡ l.right) × (c ≤ (link_at l.self.links.items l.left).time) × (c ≤ (link_at l.self.links.items l.right).time);
}

abbrev pub decreases-climb : goal.decreases-climb
decreases-climb l = 2 ^ 32 - min (link_at l.self.links.items l.left).time (link_at l.self.links.items l.right).time
