use Rattle.std.proofs.Common.{◌≡◌, drop}
use Rattle.cs_index.specs.Keys.{mixed_all}
use Rattle.cs_index.proofs.key.mix_numbers.Given as goal

abbrev pub invariant-loop-number : goal.invariant-loop-number
invariant-loop-number l = mixed_all l.all (drop l.number-index l.numbers) ≡ mixed_all l.key l.numbers
