use Rattle.std.proofs.Common.{◌≡◌, drop, map}
use Rattle.cs_table.specs.Gives.{clause}
use Rattle.cs_proof.specs.Prepared.{narrow_literals}
use Rattle.cs_proof.specs.Views.{numbered}
use Rattle.cs_proof.proofs.Walks.{with_front}
use Rattle.cs_proof.proofs.narrow.narrow_literals.Given as goal

abbrev pub invariant-loop-literal : goal.invariant-loop-literal
invariant-loop-literal l = with_front (clause l.found.items) (narrow_literals (map numbered (drop l.literal-index l.literals))) ≡ narrow_literals (map numbered l.fn.literals)
