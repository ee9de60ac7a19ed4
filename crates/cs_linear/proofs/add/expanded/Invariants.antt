use Rattle.std.proofs.Common.{◌≡◌, drop}
use Rattle.cs_linear.specs.Numbers.{plus}
use Rattle.cs_linear.specs.Rows.{Assignment, AreFree, Ascends, Solves, total}
use Rattle.cs_linear.proofs.add.expanded.Given as goal

abbrev pub invariant-loop-entry : goal.invariant-loop-entry
invariant-loop-entry l = record {
  total : (a : Assignment) → Solves l.rows a → plus (total l.new.items a) (total (drop l.entry-index l.sum) a) ≡ total l.sum a;
  free : AreFree l.homes l.new.items;
  ascends : Ascends 0 l.new.items;
}
