use Rattle.std.proofs.Common.{◌≡◌, map, take}
use Rattle.cs_table.specs.Gives.{clause}
use Rattle.cs_proof.specs.Prepared.{turned}
use Rattle.cs_proof.proofs.narrow.turned.Given as goal

abbrev pub invariant-loop-literal : goal.invariant-loop-literal
invariant-loop-literal l = clause l.found.items ≡ map turned (clause (take l.literal-index l.literals))
