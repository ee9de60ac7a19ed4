use Rattle.cs_sums.proofs.Floors.{parts_it}
use Rattle.std.proofs.Common.{arith}
use Rattle.cs_sums.proofs.values.split_at.Goals as goal

pub invariant_of-result : goal.invariant_of-result
invariant_of-result c = grind (arith, parts_it)
