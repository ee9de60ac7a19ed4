-- The nodes of a table.
use Rattle.std.specs.Prelude.{List}
use Rattle.cs_certificate.specs.Nodes.{Node}
use Rattle.cs_table.specs.Views.{nodes}
use Rattle.cs_table.specs.declared.table.Table.{Table}

abbrev pub nodes_in : Table → List Node
nodes_in t = nodes t.nodes.items
