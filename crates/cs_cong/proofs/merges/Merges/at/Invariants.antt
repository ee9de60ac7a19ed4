use Rattle.std.proofs.Common.{◌≡◌, ◌<◌, ◌-◌, ◌^◌, length}
use Rattle.cs_cong.specs.Merged.{representative}
use Rattle.cs_cong.specs.Trees.{link_at}
use Rattle.cs_cong.proofs.merges.Merges.at.Given as goal

abbrev pub invariant-climb : goal.invariant-climb
invariant-climb l = (l.here < length l.self.links.items) × (representative l.self.log.items l.time l.here ≡ representative l.self.log.items l.time l.term)

abbrev pub decreases-climb : goal.decreases-climb
decreases-climb l = 2 ^ 32 - (link_at l.self.links.items l.here).time
