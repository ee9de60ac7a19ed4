use Rattle.std.proofs.Common.{◌≡◌, drop}
use Rattle.cs_index.specs.Keys.{mixed_all}
use Rattle.cs_index.proofs.key.mix_bytes.Given as goal

abbrev pub invariant-loop-byte : goal.invariant-loop-byte
invariant-loop-byte l = mixed_all l.all (drop l.byte-index l.bytes) ≡ mixed_all l.key l.bytes
