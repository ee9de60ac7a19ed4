use Rattle.std.proofs.Common.{◌≡◌, take, length}
use Rattle.cs_cong.specs.Merged.{current}
use Rattle.cs_cong.specs.Used.{IsUsed}
use Rattle.cs_cong.proofs.waiting.uses_of.Given as goal

abbrev pub invariant-loop-at : goal.invariant-loop-at
invariant-loop-at l = record {
  count : length l.uses.items ≡ length l.terms;
  used : IsUsed (take l.at l.terms) (current l.merges.log.items) l.uses.items;
}
