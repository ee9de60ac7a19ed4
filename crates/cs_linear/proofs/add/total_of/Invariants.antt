use Rattle.std.proofs.Common.{◌≡◌, drop}
use Rattle.vx_frac.specs.Fraction.{fraction}
use Rattle.cs_linear.specs.Numbers.{plus}
use Rattle.cs_linear.specs.Rows.{total}
use Rattle.cs_linear.specs.Values.{values}
use Rattle.cs_linear.proofs.add.total_of.Given as goal

abbrev pub invariant-loop-entry : goal.invariant-loop-entry
invariant-loop-entry l = plus (fraction l.total) (total (drop l.entry-index l.entries) (values l.all)) ≡ total l.entries (values l.all)
