use Rattle.std.proofs.Common.{◌≡◌, drop}
use Rattle.cs_reader.specs.Items.{with_front}
use Rattle.cs_reader.specs.Reading.{numbers_at}
use Rattle.cs_reader.proofs.reader.numbers.Given as goal

abbrev pub invariant-loop-at : goal.invariant-loop-at
invariant-loop-at l = with_front l.found.items (numbers_at (drop l.at l.tokens)) ≡ numbers_at l.fn.tokens
