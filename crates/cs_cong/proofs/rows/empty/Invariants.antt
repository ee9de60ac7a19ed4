use Rattle.std.proofs.Common.{◌≡◌, ℕ, [], length}
use Rattle.cs_cong.specs.Rows.{row}
use Rattle.cs_cong.proofs.rows.empty.Given as goal

abbrev pub invariant-loop : goal.invariant-loop
invariant-loop l = record {
  count : length l.rows.items ≡ l.counter;
  empty : (s : ℕ) → row l.rows.items s ≡ [];
}
