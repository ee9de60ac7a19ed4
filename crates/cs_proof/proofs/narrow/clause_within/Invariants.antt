use Rattle.std.proofs.Common.{◌≡◌, drop}
use Rattle.std.specs.Prelude.{All}
use Rattle.cs_table.specs.Gives.{clause}
use Rattle.cs_certificate.specs.Marks.{IsBelow}
use Rattle.cs_proof.specs.Prepared.{within}
use Rattle.cs_proof.proofs.Walks.{with_front}
use Rattle.cs_proof.proofs.narrow.clause_within.Given as goal

abbrev pub invariant-loop-literal : goal.invariant-loop-literal
invariant-loop-literal l = record {
  value : with_front l.found.items (within l.terms (clause (drop l.literal-index l.literals))) ≡ within l.terms (clause l.fn.literals);
  below : All (IsBelow l.terms) l.found.items;
}
