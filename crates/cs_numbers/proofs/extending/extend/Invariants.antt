use Rattle.std.proofs.Common.{◌≡◌, ◌≤◌, drop, length}
use Rattle.cs_table.specs.Table.{nodes_in}
use Rattle.cs_numbers.specs.Listed.{terms_in}
use Rattle.cs_numbers.specs.Numbering.{nodes_after}
use Rattle.cs_numbers.proofs.extending.extend.Given as goal

abbrev pub invariant-loop-number : goal.invariant-loop-number
invariant-loop-number l = record {
  value : nodes_after (nodes_in l.all) (terms_in l.terms) (drop l.number (terms_in l.terms)) ≡ nodes_after (nodes_in l.initial.all) (terms_in l.terms) (drop (length l.initial.all.nodes.items) (terms_in l.terms));
  grown : length l.initial.all.nodes.items ≤ length l.all.nodes.items;
}
