use Rattle.std.proofs.Common.{◌+◌, length}
use Rattle.cs_cong.specs.Walks.{walk}
use Rattle.cs_cong.proofs.Onward.{Going, weight, load}
use Rattle.cs_cong.proofs.merges.Merges.walk.Given as goal

abbrev pub invariant-go : goal.invariant-go
invariant-go l = Going l.self.log.items (length l.self.links.items) l.time l.a l.b l.fn.edges.items l.until l.from l.to l.pending.items l.edges.items

abbrev pub decreases-go : goal.decreases-go
decreases-go l = weight (walk l.self.log.items l.until l.from l.to) + load l.self.log.items l.pending.items
