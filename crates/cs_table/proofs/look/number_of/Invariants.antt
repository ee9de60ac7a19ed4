use Rattle.std.proofs.Common.{◌≡◌, drop}
use Rattle.cs_index.specs.Found.{found}
use Rattle.cs_certificate.specs.Nodes.{is_node, number_of}
use Rattle.cs_table.specs.Table.{nodes_in}
use Rattle.cs_table.specs.Views.{head}
use Rattle.cs_table.proofs.look.number_of.Given as goal

abbrev pub invariant-loop-number : goal.invariant-loop-number
invariant-loop-number l = found (is_node (head l.of) l.parts) (nodes_in l.all) (drop l.number-index l.number-items) ≡ number_of (nodes_in l.all) (head l.of) l.parts
