use Rattle.std.proofs.Common.{◌≡◌, map, take}
use Rattle.cs_proof.specs.Prepared.{saturate}
use Rattle.cs_proof.proofs.narrow.saturated.Given as goal

abbrev pub invariant-loop-hint : goal.invariant-loop-hint
invariant-loop-hint l = l.found.items ≡ map saturate (take l.hint-index l.hints)
