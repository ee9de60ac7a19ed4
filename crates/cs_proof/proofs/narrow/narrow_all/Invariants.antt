use Rattle.std.proofs.Common.{◌≡◌, drop}
use Rattle.cs_proof.specs.Prepared.{narrow_all}
use Rattle.cs_proof.proofs.Walks.{with_front}
use Rattle.cs_proof.proofs.narrow.narrow_all.Given as goal

abbrev pub invariant-loop-number : goal.invariant-loop-number
invariant-loop-number l = with_front l.found.items (narrow_all (drop l.number-index l.numbers)) ≡ narrow_all l.fn.numbers
