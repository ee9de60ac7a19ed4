use Rattle.std.proofs.Common.{◌≡◌, drop}
use Rattle.cs_cong.specs.Merged.{current}
use Rattle.cs_cong.specs.Signatures.{with_parts, signature_key}
use Rattle.cs_cong.proofs.congruent.key_of.Given as goal

abbrev pub invariant-loop-part : goal.invariant-loop-part
invariant-loop-part l = with_parts l.key (current l.merges.log.items) (drop l.part-index l.part-items) ≡ signature_key (current l.merges.log.items) l.term
