use Rattle.std.proofs.Common.{length}
use Rattle.cs_cong.specs.Merged.{current}
use Rattle.cs_cong.specs.Settled.{IsSettled}
use Rattle.cs_cong.proofs.waiting.Waiting.next_pair.Given as goal

abbrev pub invariant-look : goal.invariant-look
invariant-look l = IsSettled l.terms (current l.merges.log.items) l.self

abbrev pub decreases-look : goal.decreases-look
decreases-look l = length l.self.queue.list.items
