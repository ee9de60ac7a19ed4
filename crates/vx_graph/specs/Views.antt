-- What edges are.
use Rattle.vx_graph.specs.declared.edges.Edges.{Edges}
use Rattle.vx_graph.specs.Reach.{Rows}

-- for each member, in file order, those that it leads to
abbrev pub rows : Edges → Rows
rows e = e.targets.items
