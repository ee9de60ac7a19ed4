use Rattle.std.proofs.Common.{◌≡◌, drop}
use Rattle.cs_reader.specs.Items.{with_front}
use Rattle.cs_reader.specs.Reading.{literals_at}
use Rattle.cs_reader.proofs.reader.literals.Given as goal

abbrev pub invariant-loop-at : goal.invariant-loop-at
invariant-loop-at l = with_front l.found.items (literals_at (drop l.at l.tokens)) ≡ literals_at l.fn.tokens
