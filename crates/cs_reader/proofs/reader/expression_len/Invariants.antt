use Rattle.std.proofs.Common.{◌≡◌, ◌+◌, ◌≤◌, drop, Some}
use Rattle.cs_reader.specs.Items.{◌>>=◌}
use Rattle.cs_reader.specs.Reading.{tokens_from}
use Rattle.cs_reader.proofs.reader.expression_len.Given as goal

abbrev pub invariant-loop-at : goal.invariant-loop-at
invariant-loop-at l = record {
  value : (tokens_from l.depth (drop l.at l.tokens) >>= λ n. Some (l.at + n)) ≡ tokens_from 0 l.fn.tokens;
  small : l.depth ≤ l.at;
}
