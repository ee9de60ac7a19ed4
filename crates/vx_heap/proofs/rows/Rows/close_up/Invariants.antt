use Rattle.std.proofs.Common.{◌≡◌, ℕ, length}
use Rattle.std.specs.Prelude.{nat_lt}
use Rattle.vx_heap.proofs.InRows.{closed_to, items_at}
use Rattle.vx_heap.proofs.rows.Rows.close_up.Given as goal

abbrev pub invariant-loop-row : goal.invariant-loop-row
invariant-loop-row l = record {
  count : length l.self.rows.items ≡ length l.fn.self.rows.items;
  end : l.row-end ≡ length l.fn.self.rows.items;
  rows : (k : ℕ) → items_at l.self.rows.items k ≡ closed_to (nat_lt k l.row) l.at (items_at l.fn.self.rows.items k);
}
