use Rattle.std.proofs.Common.{◌≡◌, ◌-◌, ◌^◌, length}
use Rattle.cs_cong.specs.Joined.{Grown}
use Rattle.cs_cong.specs.Merged.{current, IsLonger}
use Rattle.cs_cong.specs.Settled.{IsSettled}
use Rattle.cs_cong.proofs.waiting.Waiting.close.Given as goal

abbrev pub invariant-close : goal.invariant-close
invariant-close l = record {
  width : length l.merges.links.items ≡ length l.fn.merges.links.items;
  longer : IsLonger l.fn.merges.log.items l.merges.log.items;
  grown : Grown l.terms l.fn.merges.log.items l.merges.log.items;
  settled : IsSettled l.terms (current l.merges.log.items) l.self;
}

abbrev pub decreases-close : goal.decreases-close
decreases-close l = 2 ^ 32 - length l.merges.log.items
