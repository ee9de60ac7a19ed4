use Rattle.std.proofs.Common.{◌≡◌, length}
use Rattle.cs_linear.specs.Contradictions.{IsTable}
use Rattle.cs_linear.specs.Limits.{AreTold}
use Rattle.cs_linear.proofs.limits.table_of.Given as goal

abbrev pub invariant-loop-bound : goal.invariant-loop-bound
invariant-loop-bound l = record {
  count : length l.table.items ≡ l.width;
  value : IsTable l.side l.bounds l.table.items;
  told : AreTold l.bound-index l.side l.bounds l.table.items;
}
