use Rattle.std.proofs.Common.{◌≡◌, ℕ, ◌&&◌, ◌||◌, nat_eq, take, length}
use Rattle.cs_cong.specs.Rows.{row}
use Rattle.cs_cong.specs.Merged.{current}
use Rattle.cs_cong.specs.Signatures.{has}
use Rattle.cs_cong.specs.Used.{is_any}
use Rattle.cs_cong.proofs.waiting.add_uses.Given as goal

abbrev pub invariant-loop-part : goal.invariant-loop-part
invariant-loop-part l = record {
  count : length l.uses.items ≡ length l.initial.uses.items;
  used : (r a : ℕ) → has (row l.uses.items r) a ≡ (has (row l.initial.uses.items r) a || (nat_eq a l.number && is_any (current l.merges.log.items) (take l.part-index l.parts) r));
}
