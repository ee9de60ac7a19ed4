use Rattle.std.proofs.Common.{◌≡◌, drop}
use Rattle.cs_table.specs.Views.{nodes}
use Rattle.cs_numbers.specs.Listed.{terms_in}
use Rattle.cs_numbers.specs.Numbering.{nodes_of, nodes_after}
use Rattle.cs_numbers.proofs.table.nodes_of.Given as goal

abbrev pub invariant-loop-number : goal.invariant-loop-number
invariant-loop-number l = nodes_after (nodes l.nodes.items) (terms_in l.all) (drop l.number (terms_in l.all)) ≡ nodes_of (terms_in l.all) (terms_in l.all)
